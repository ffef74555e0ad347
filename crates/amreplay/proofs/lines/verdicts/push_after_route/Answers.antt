use Rattle.std.proofs.Common.{append_assoc, append-nil}
use Rattle.std.proofs.lemmas.Result.{IfOk-equal}
use Rattle.amreplay.proofs.LinesLemmas.ObjectTexts.{object_texts}
use Rattle.amreplay.proofs.lines.verdicts.push_after_route.Goals as goal

pub returns-in_ok-push-in-Inhibited : goal.returns-in_ok-push-in-Inhibited
unfolding object_texts
returns-in_ok-push-in-Inhibited c =
    rw c.in-Inhibited.is (IfOk-equal c.push_with_comma.result _ _ _ c.push_with_comma.ensures (simp (c.in_ok-push-in-Inhibited.ensures, append_assoc, append-nil)))
