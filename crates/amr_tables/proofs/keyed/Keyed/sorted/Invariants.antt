use Rattle.std.proofs.Common.{◌≡◌, map, take}
use Rattle.std.specs.Map.Iter.{deref_pair}
use Rattle.std.specs.List.{filter_map}
use Rattle.amr_tables.specs.Numbered.{entry_at, numbered_key}
use Rattle.amr_tables.proofs.keyed.Keyed.sorted.Given as goal

abbrev pub invariant-loop-key : goal.invariant-loop-key
invariant-loop-key g l = map deref_pair l.found.items ≡ filter_map (entry_at l.self.cells) (map numbered_key (take l.key-index l.key-items))
