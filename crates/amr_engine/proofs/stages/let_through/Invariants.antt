use Rattle.std.proofs.Common.{◌≡◌, ◌++◌, take, drop}
use Rattle.std.specs.Option.{option_map_or}
use Rattle.amr_engine.specs.Flush.{let_through}
use Rattle.amr_engine.proofs.stages.let_through.Given as goal

-- the unmuted members so far, and those that are left, are all
abbrev pub invariant-loop-index : goal.invariant-loop-index
invariant-loop-index l = record {
  same : l.store ≡ l.fn.store;
  through : option_map_or (λ through. through.items) l.through (take l.index l.members) ++ let_through l.store.state l.at l.route (drop l.index l.members) ≡ let_through l.fn.store.state l.at l.route l.members;
}
