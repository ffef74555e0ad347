use Rattle.std.proofs.Common.{◌∙◌, append_assoc}
use Rattle.std.proofs.lemmas.Result.{IfOk-weaker}
use Rattle.serde_json.proofs.OnLiterals.{serde_json_on_literals}
use Rattle.amreplay.proofs.program.check.counts_text.Goals as goal

pub returns : goal.returns
unfolding serde_json_on_literals
returns c = IfOk-weaker c.format.result _ _ (λ text e. e ∙ rw (c.receiver_count-receivers.ensures, c.route_count-routes.ensures, c.rules.ensures) (simp append_assoc)) c.format.ensures.ok
