use Rattle.std.proofs.Common.{◌≡◌, ℕ, ◌-◌, ◌<◌, ◌∷◌, [], ◌++◌, length, Some, ap, ◌∙◌, arith, rules}
use Rattle.std.proofs.lemmas.List.{map-append}
use Rattle.json.specs.Token.{Token}
use Rattle.json.specs.Json.{read_key}
use Rattle.json.proofs.Grammar.{read_key-shorter}
use Rattle.amr_events.specs.Shapes.{texts_in}
use Rattle.amr_events.specs.Tokens.{IsAfter}
use Rattle.amr_labels.specs.Lent.{lent_texts}
use Rattle.amr_events.proofs.Stating.{states_object, all_members_read, one_more_text}
use Rattle.amr_events.proofs.Pairs.{text_members, texts_of_members, ascend_push, put_last_text}
use Rattle.amr_events.proofs.posted_tokens.usual_texts.Goals as goal

pub returns-in-Ok-None-clause-read : goal.returns-in-Ok-None-clause-read
returns-in-Ok-None-clause-read c depth some =
    let texts = lent_texts c.loop-texts.texts.items in
    let opened : c.args.reader.now ≡ Token.begin_object ∷ c.opens_object.new.reader = search rules in
    states_object depth (λ d. texts_in d ≡ Some texts) c.args.reader.now c.opens_object.new.reader c.next_key.new.self (text_members texts) (omega arith) opened
    (all_members_read (depth - 1) c.opens_object.new.reader c.loop-texts.reader c.next_key.new.self (text_members texts) (c.loop-texts.invariant.left (depth - 1)) (grind arith))
    (texts_of_members texts)

pub loop-texts-preserved : goal.loop-texts-preserved
loop-texts-preserved c =
    let old = c.loop-texts.texts.items in
    let name = c.in-Ok-Some.name.now in
    let text = c.in-Some.text.now in
    let named : read_key c.loop-texts.reader ≡ Some (Some name, c.next_key.new.self) = grind arith in
    let after : IsAfter name (lent_texts old) = search rules in
    let pushed : lent_texts c.push.new.self.items ≡ lent_texts old ++ (name, text) ∷ [] = ap lent_texts c.in_ok-push-in-Ok-Some.ensures.items ∙ map-append _ old _ in
    let less = read_key-shorter c.loop-texts.reader (Some name) c.next_key.new.self named in
    let lesser : length c.string.new.reader < length c.next_key.new.self = grind (arith, c.in-Some.ensures) in
    let ascend = c.loop-texts.invariant.ascend in
    record {
      left = λ (depth : ℕ). rw (pushed, ← put_last_text (lent_texts old) (name, text) ascend after) (
          one_more_text depth c.opens_object.new.reader c.loop-texts.reader c.next_key.new.self c.string.new.reader (text_members (lent_texts old)) name text (c.loop-texts.invariant.left depth) named less lesser c.in-Some.ensures
          );
      ascend = rw pushed (ascend_push (lent_texts old) (name, text) ascend after);
      shorter = omega (arith, less, lesser, c.loop-texts.invariant.shorter);
    }
