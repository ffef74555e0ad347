-- What was pushed, and the values that are left.
use Rattle.std.proofs.Common.{◌≡◌, ◌++◌, false, drop, map}
use Rattle.std.specs.String.{string_bytes}
use Rattle.serde_json.specs.View.{items_of}
use Rattle.serde_json.specs.Written.{items_text}
use Rattle.amreplay.proofs.lines.json_text.push_array.Given as goal

abbrev pub invariant-loop-value : goal.invariant-loop-value
invariant-loop-value g l =
    string_bytes l.out ++ items_text l.later (items_of (map g.T.ToJson.json (drop l.value-index l.values)))
    ≡ string_bytes l.initial.out ++ items_text false (items_of (map g.T.ToJson.json l.values))
