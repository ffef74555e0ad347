use Rattle.std.proofs.Common.{◌≡◌, ◌++◌, drop, map, string_bytes}
use Rattle.std.specs.Map.Iter.{deref_pair}
use Rattle.std.specs.List.{flat_map}
use Rattle.amr_labels.specs.Map.{entries}
use Rattle.amreplay.specs.Lines.Printed.{silence_line}
use Rattle.amreplay.proofs.lines.listings.silence_lines.Given as goal

abbrev pub invariant-loop-silence : goal.invariant-loop-silence
invariant-loop-silence l = string_bytes l.lines ++ flat_map silence_line (map deref_pair (drop l.silence-index l.silence-items)) ≡ flat_map silence_line (entries l.fn.store.state.silences)
