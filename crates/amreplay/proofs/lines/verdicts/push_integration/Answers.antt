use Rattle.std.proofs.Common.{append_assoc, append-nil}
use Rattle.std.proofs.lemmas.Result.{IfOk-equal}
use Rattle.amreplay.proofs.LinesLemmas.ObjectTexts.{object_texts}
use Rattle.amreplay.proofs.lines.verdicts.push_integration.Goals as goal

pub returns-in_ok-push-in-Some : goal.returns-in_ok-push-in-Some
unfolding object_texts
returns-in_ok-push-in-Some c =
    rw c.in-Some.is (IfOk-equal c.push_with_comma.result _ _ _ c.push_with_comma.ensures (simp (c.in_ok-push-in-Some.ensures, append_assoc, append-nil)))
