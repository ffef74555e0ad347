use Rattle.std.proofs.Common.{◌≡◌, length, ◌-◌}
use Rattle.amr_engine.specs.Indexes.RuleSources.{ListsSide}
use Rattle.amr_engine.proofs.indexes.rule_source.list_all.Given as goal

abbrev pub invariant-loop-cached : goal.invariant-loop-cached
invariant-loop-cached l = record {
  lists : ListsSide l.arrived l.cached;
  side : l.cached.side ≡ l.initial.cached.side;
}

abbrev pub decreases-loop-cached : goal.decreases-loop-cached
decreases-loop-cached l = length l.arrived - l.cached.covered
