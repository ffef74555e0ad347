use Rattle.std.proofs.Common.{◌≡◌, ◌++◌, drop, map, string_bytes}
use Rattle.std.specs.Map.Iter.{deref_pair}
use Rattle.std.specs.List.{flat_map}
use Rattle.amr_labels.specs.Map.{entries}
use Rattle.amreplay.specs.Lines.Printed.{log_line}
use Rattle.amreplay.proofs.lines.listings.log_lines.Given as goal

abbrev pub invariant-loop-entry : goal.invariant-loop-entry
invariant-loop-entry l = string_bytes l.lines ++ flat_map log_line (map deref_pair (drop l.entry-index l.entry-items)) ≡ flat_map log_line (entries l.fn.store.state.log)
