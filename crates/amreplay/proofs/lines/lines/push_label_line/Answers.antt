use Rattle.std.proofs.Common.{codes, string_bytes, append_assoc}
use Rattle.std.proofs.lemmas.Result.{IfOk-equal}
use Rattle.amreplay.proofs.LinesLemmas.ObjectTexts.{object_texts}
use Rattle.amreplay.proofs.LinesLemmas.Pushed.{push_last}
use Rattle.amreplay.proofs.lines.lines.push_label_line.Goals as goal

pub returns : goal.returns
unfolding object_texts
returns c =
    IfOk-equal c.push_str.result _ _ _ (push_last c.push_str.result (string_bytes c.push.new.out) (string_bytes c.push_str.new.self) (codes "}\n") c.push_str.ensures.bytes)
    (simp (c.in_ok-push.ensures, c.in_ok-write.ensures.bytes, append_assoc))
