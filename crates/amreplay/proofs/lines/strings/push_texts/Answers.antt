use Rattle.std.proofs.Common.{◌≡◌, ◌++◌, ◌∷◌, ◌+◌, OnOk, false, true, drop, codes, arith}
use Rattle.std.proofs.lemmas.Grind.{common_steps}
use Rattle.std.specs.String.{string_bytes}
use Rattle.json.specs.Print.{quoted}
use Rattle.serde_json.specs.Written.{comma_if, members_text}
use Rattle.amreplay.proofs.LinesLemmas.Members.{in_order}
use Rattle.amreplay.proofs.LinesLemmas.Pushed.{kept, closed, texts_text, next_member, no_member}
use Rattle.amreplay.proofs.lines.strings.push_texts.Goals as goal

pub loop-text-preserved : goal.loop-text-preserved
loop-text-preserved c =
    let texts = c.args.texts.now in
    let i = c.loop-text.text-index in
    let entry = c.text-item.result in
    kept (string_bytes c.loop-text.out) (string_bytes c.push_member.new.out) (comma_if c.loop-text.later ++ (quoted entry.0 ++ 58 ∷ quoted entry.1))
    (members_text c.loop-text.later (in_order (drop i texts))) (members_text true (in_order (drop (i + 1) texts))) _
    (rw (c.as_str.ensures, c.as_str-in-loop-text.ensures) at c.in_ok-push_member.ensures)
    (rw (← c.text-item.is) at (next_member c.loop-text.later texts i entry c.loop-text-test.true))
    c.loop-text.invariant

pub returns : goal.returns
returns c =
    let texts = c.args.texts.now in
    let begun : string_bytes c.push.new.self ≡ string_bytes c.args.out.now ++ codes "{" = grind (arith, common_steps) in
    let ended : OnOk c.push-2.result (string_bytes c.push-2.new.self ≡ string_bytes c.loop-text.out ++ codes "}") = grind (arith, common_steps) in
    rw (texts_text texts c.requires)
    (closed c.push-2.result (string_bytes c.args.out.now) (string_bytes c.push.new.self) (string_bytes c.loop-text.out) (string_bytes c.push-2.new.self) (codes "{") (members_text false (in_order texts)) (codes "}")
    (members_text c.loop-text.later (in_order (drop c.loop-text.text-index texts)))
    begun c.loop-text.invariant (no_member c.loop-text.later texts c.loop-text.text-index c.loop-text-test.false) ended)
