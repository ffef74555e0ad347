-- The text of a label set whose names and values need no escape is that of its object.
use Rattle.std.proofs.Common.{◌≡◌, Bool, true, false, T, List, [], ◌∷◌, ◌++◌, codes, flat_map, Some, None, if◌then◌else◌, refl, sym, ap, ◌∙◌, append_assoc}
use Rattle.std.specs.Option.{unwrap_or}
use Rattle.std.proofs.lemmas.Bool.{and_parts}
use Rattle.std.specs.FinMap.{is_sorted}
use Rattle.json.specs.Print.{quoted}
use Rattle.serde_json.specs.Written.{compact_text, members_text}
use Rattle.amr_labels.specs.Map as map
use Rattle.amr_labels.specs.Labels.{Text, LabelSet, text_cmp}
use Rattle.amr_labels.specs.ObjectText as plain
use Rattle.amreplay.specs.Lines.Printed.{texts_data, labels_data}
use Rattle.amreplay.proofs.LinesLemmas.Plain.{own_escape}
use Rattle.amreplay.proofs.LinesLemmas.Pushed.{texts_text, member_text, first_member}
use Rattle.amreplay.proofs.LinesLemmas.Members.{in_order}

quoted_as_it_is : (text : Text) → plain.is_plain_text text ≡ true → plain.quoted_text text ≡ quoted text
quoted_as_it_is text h = ap (λ t. 34 ∷ (t ++ 34 ∷ [])) (sym (own_escape true text (sym h)))

member_as_it_is : (label : Text × Text) → plain.is_plain_label label ≡ true → plain.member_text label ≡ member_text label
member_as_it_is label h =
    let (name, value) = and_parts (plain.is_plain_text label.0) (plain.is_plain_text label.1) h in
    λ i. quoted_as_it_is label.0 name i ++ 58 ∷ quoted_as_it_is label.1 value i

-- the members after the first, each after a comma
other_members : (es : List (Text × Text)) → plain.are_plain es ≡ true
    → flat_map (λ label. codes "," ++ plain.member_text label) es ++ codes "}" ≡ members_text true (in_order es)
unfolding in_order
other_members [] h = refl
other_members (e ∷ es) h =
    let (first, others) = and_parts (plain.is_plain_label e) (plain.are_plain es) h in
    append_assoc (codes "," ++ plain.member_text e) (flat_map (λ label. codes "," ++ plain.member_text label) es) (codes "}")
    ∙ (λ i. (44 ∷ member_as_it_is e first i) ++ other_members es others i)
    ∙ sym (first_member true e es)

all_members : (es : List (Text × Text)) → plain.are_plain es ≡ true → plain.members_text es ++ codes "}" ≡ members_text false (in_order es)
unfolding in_order
all_members [] h = refl
all_members (e ∷ es) h =
    let (first, others) = and_parts (plain.is_plain_label e) (plain.are_plain es) h in
    append_assoc (plain.member_text e) (flat_map (λ label. codes "," ++ plain.member_text label) es) (codes "}")
    ∙ (λ i. member_as_it_is e first i ++ other_members es others i)
    ∙ sym (first_member false e es)

object_as_it_is : (es : List (Text × Text)) → T (is_sorted text_cmp es) → plain.are_plain es ≡ true → plain.object_text es ≡ compact_text (texts_data es)
object_as_it_is es sorted h = ap (λ t. 123 ∷ t) (all_members es h) ∙ sym (texts_text es sorted)

if_plain : (is_known : Bool) (es : List (Text × Text)) → plain.are_plain es ≡ is_known → T (is_sorted text_cmp es)
    → (text : Text) → (if is_known then Some (plain.object_text es) else None) ≡ Some text → text ≡ compact_text (texts_data es)
if_plain true es e sorted text found = sym (ap (λ o. unwrap_or o []) found) ∙ object_as_it_is es sorted e
if_plain false es e sorted text found = absurd (cc)

pub labels_as_they_are : (labels : LabelSet) (text : Text) → plain.plain_object labels ≡ Some text → text ≡ compact_text (labels_data labels)
labels_as_they_are labels text found = if_plain (plain.are_plain (map.entries labels)) (map.entries labels) refl (map.entries-sorted labels) text found
