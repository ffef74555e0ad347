use Rattle.std.proofs.Common.{◌≡◌, map, take}
use Rattle.amr_rules.specs.SilencePeriods.{periods_among}
use Rattle.amr_rules.proofs.silence_lists.periods_of_each.Given as goal

abbrev pub invariant-loop-id : goal.invariant-loop-id
invariant-loop-id l = l.each.items ≡ map (λ labels. periods_among l.from labels (take l.id-index l.listed)) l.label_sets
