use Rattle.std.proofs.Common.{◌≡◌, ◌++◌, drop, map, string_bytes}
use Rattle.std.specs.Map.Iter.{deref_pair}
use Rattle.std.specs.List.{flat_map}
use Rattle.amr_labels.specs.Map.{entries}
use Rattle.amreplay.specs.Lines.Printed.{alert_line}
use Rattle.amreplay.proofs.lines.listings.alert_lines.Given as goal

abbrev pub invariant-loop-alert : goal.invariant-loop-alert
invariant-loop-alert l = string_bytes l.lines ++ flat_map alert_line (map deref_pair (drop l.alert-index l.alert-items)) ≡ flat_map alert_line (entries l.fn.store.state.alerts)
