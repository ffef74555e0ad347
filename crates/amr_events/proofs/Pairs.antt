-- An object of texts whose names ascend.
use Rattle.std.proofs.Common.{◌≡◌, List, [], ◌∷◌, ◌++◌, Some, Less, refl, arith}
use Rattle.std.proofs.lemmas.Cmp.{nat_list_cmp_total}
use Rattle.serde_json.specs.Data.{string, object, Members, no_members, member, put}
use Rattle.amr_labels.specs.Labels.{Text, text_cmp}
use Rattle.amr_events.specs.Shapes.{each_member, named_text, texts_in}
use Rattle.amr_events.specs.Tokens.{IsAfter}

abbrev pub Pairs : Type 0
Pairs = List (Text × Text)

-- the members that state these names and texts
abbrev pub text_members : Pairs → Members
text_members [] = no_members
text_members (pair ∷ pairs) = member pair.0 (string pair.1) (text_members pairs)

-- each name is before the next
abbrev pub Ascend : Pairs → Type 0
Ascend [] = Unit {0}
Ascend (pair ∷ []) = Unit {0}
Ascend (pair ∷ next ∷ pairs) = (text_cmp pair.0 next.0 ≡ Less) × Ascend (next ∷ pairs)

-- the name is after each of these names, and not only the last
after_first : (name : Text) (pair : Text × Text) (pairs : Pairs) → Ascend (pair ∷ pairs) → IsAfter name (pair ∷ pairs) → text_cmp pair.0 name ≡ Less
after_first name pair [] ascend after = after
after_first name pair (next ∷ pairs) ascend after = nat_list_cmp_total.trans pair.0 next.0 name ascend.0 (after_first name next pairs ascend.1 after)

pub ascend_push : (pairs : Pairs) (new : Text × Text) → Ascend pairs → IsAfter new.0 pairs → Ascend (pairs ++ new ∷ [])
ascend_push [] new ascend after = tt
ascend_push (pair ∷ []) new ascend after = (after, tt)
ascend_push (pair ∷ next ∷ pairs) new ascend after = (ascend.0, ascend_push (next ∷ pairs) new ascend.1 after)

pub put_last_text : (pairs : Pairs) (new : Text × Text) → Ascend pairs → IsAfter new.0 pairs → put new.0 (string new.1) (text_members pairs) ≡ text_members (pairs ++ new ∷ [])
put_last_text [] new ascend after = refl
put_last_text (pair ∷ []) new ascend after = grind (arith, nat_list_cmp_total.antisymm new.0 pair.0)
put_last_text (pair ∷ next ∷ pairs) new ascend after =
    let rest = put_last_text (next ∷ pairs) new ascend.1 after in
    let before = after_first new.0 pair (next ∷ pairs) ascend after in
    grind (arith, nat_list_cmp_total.antisymm new.0 pair.0, rest)

each_text : (pairs : Pairs) → each_member named_text (text_members pairs) ≡ Some pairs
unfolding named_text
each_text [] = refl
each_text (pair ∷ pairs) = grind (arith, each_text pairs)

pub texts_of_members : (pairs : Pairs) → texts_in (object (text_members pairs)) ≡ Some pairs
unfolding texts_in
texts_of_members pairs = each_text pairs
