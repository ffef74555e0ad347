use Rattle.std.proofs.Common.{append_assoc}
use Rattle.std.proofs.lemmas.Result.{IfOk-equal}
use Rattle.amreplay.proofs.LinesLemmas.ObjectTexts.{object_texts}
use Rattle.amreplay.proofs.lines.lines.push_refused_line.Goals as goal

pub returns : goal.returns
unfolding object_texts
returns c = IfOk-equal c.write.result _ _ _ c.write.ensures.bytes (simp append_assoc)
