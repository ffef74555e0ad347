use Rattle.std.proofs.Common.{◌≡◌, ◌++◌, take, string_bytes}
use Rattle.std.specs.List.{flat_map}
use Rattle.amreplay.specs.Lines.Printed.{data_line}
use Rattle.amreplay.proofs.lines.json_text.push_lines.Given as goal

abbrev pub invariant-loop-value : goal.invariant-loop-value
invariant-loop-value g l = string_bytes l.out ≡ string_bytes l.initial.out ++ flat_map (λ value. data_line (g.T.ToJson.json value)) (take l.value-index l.values)
