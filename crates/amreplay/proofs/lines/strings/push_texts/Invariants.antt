-- What was pushed, and the members that are left.
use Rattle.std.proofs.Common.{◌≡◌, ◌++◌, false, drop}
use Rattle.std.specs.String.{string_bytes}
use Rattle.serde_json.specs.Written.{members_text}
use Rattle.amreplay.proofs.LinesLemmas.Members.{in_order}
use Rattle.amreplay.proofs.lines.strings.push_texts.Given as goal

abbrev pub invariant-loop-text : goal.invariant-loop-text
invariant-loop-text l =
    string_bytes l.out ++ members_text l.later (in_order (drop l.text-index l.texts))
    ≡ string_bytes l.initial.out ++ members_text false (in_order l.texts)
