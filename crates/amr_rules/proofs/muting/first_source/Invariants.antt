use Rattle.std.proofs.Common.{◌≡◌, map, drop, true}
use Rattle.std.specs.List.{list_all}
use Rattle.std.specs.Map.Iter.{deref_pair}
use Rattle.amr_rules.specs.Muting.{is_agreeing, first_source}
use Rattle.amr_rules.proofs.muting.first_source.Given as goal

-- the first of what is left is the first of all, and what is left agrees with the target
abbrev pub invariant-loop-labels : goal.invariant-loop-labels
invariant-loop-labels l = record {
  first : first_source l.now l.rule l.target (map deref_pair (drop l.labels-index l.sources)) ≡ first_source l.now l.rule l.target (map deref_pair l.sources);
  agreeing : list_all (λ source. is_agreeing l.rule l.target source.0) (map deref_pair (drop l.labels-index l.sources)) ≡ true;
}
