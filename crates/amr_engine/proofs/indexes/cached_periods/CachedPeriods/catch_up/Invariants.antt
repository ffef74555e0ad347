use Rattle.std.proofs.Common.{◌≡◌, ◌≤◌, nat_cmp}
use Rattle.amr_tables.specs.Numbered.{map_of}
use Rattle.amr_engine.specs.Indexes.CachedSilences.{IsCached}
use Rattle.amr_engine.proofs.indexes.cached_periods.CachedPeriods.catch_up.Given as goal

-- the changes before the index are taken in
abbrev pub invariant-loop-index : goal.invariant-loop-index
invariant-loop-index l = (l.index ≡ l.self.version) × (l.self.labels ≡ l.initial.self.labels) × (l.self.from ≤ l.fn.at) × IsCached (map_of nat_cmp l.fn.silences) l.fn.changes l.self
