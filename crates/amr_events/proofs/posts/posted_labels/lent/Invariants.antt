use Rattle.std.proofs.Common.{◌≡◌, take}
use Rattle.amr_labels.specs.Lent.{lent_texts}
use Rattle.amr_events.proofs.posts.posted_labels.lent.Given as goal

abbrev pub invariant-loop-name : goal.invariant-loop-name
invariant-loop-name l = lent_texts l.lent.items ≡ take l.name-index l.texts
