use Rattle.std.proofs.Common.{◌≡◌, take}
use Rattle.amr_labels.proofs.matcher.parse.build.Given as goal

abbrev pub invariant-loop-draft : goal.invariant-loop-draft
invariant-loop-draft l = l.built.items ≡ take l.draft-index l.drafts
