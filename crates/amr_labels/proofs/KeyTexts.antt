-- A sort key says of which labels it is, if it is known how many they are.
use Rattle.std.proofs.Common.{arith, ◌≡◌, ◌≢◌, ◌==◌, ℕ, zero, suc, ◌<◌, ◌≤◌, ◌+◌, List, [], ◌∷◌, ◌++◌, true, false, cond, length, get_or, take, drop, nat_eq, Bor, Option, Some, None, MatchOption, refl, sym, ap, ◌∙◌, IfSome, IfNone}
use Rattle.std.specs.List.{count_by}
use Rattle.std.specs.Cmp.{tied_itself}
use Rattle.std.specs.Cmp.Lexicographic.{nat_list_cmp_total}
use Rattle.std.specs.FinMap.{slice_cmp-IsAntisymmetric}
use Rattle.std.proofs.lemmas.Bool.{true≢false}
use Rattle.std.proofs.lemmas.Bool.Decides.{nat_tests}
use Rattle.std.proofs.lemmas.List.{append_assoc, append_cancel_left, take-append-drop}
use Rattle.std.proofs.lemmas.List.Sums.{sum_by-append}
use Rattle.std.proofs.lemmas.Map.Lookups.{exact_pairs}
use Rattle.std.proofs.Math.Seq.{take-append_seam, drop-append_seam}
use Rattle.amr_labels.specs.Labels.{Text, text_cmp, text_cmp-IsAntisymmetric}
use Rattle.amr_labels.specs.SortKey.{key_of_text, key_of_label, sort_key, has_zero, has_zeros}
use Rattle.amr_labels.specs.Lent.{lent_texts}
use Rattle.amr_labels.proofs.SortKeys.{by_sort_key}
use lib.Pointwise.{pointwise, bytes_decides}

-- how many zeros a text has
abbrev zeros : Text → ℕ
zeros text = count_by (λ byte. byte == 0) text

no_zeros : (text : Text) → (has_zero text ≡ false → zeros text ≡ 0) × (has_zero text ≡ true → 0 < zeros text)
no_zeros [] = (λ h. refl, λ h. absurd (cc h))
no_zeros (byte ∷ text) =
    let more : zeros (byte ∷ text) ≡ 0 + cond (byte == 0) 1 0 + zeros text = sum_by-append (λ byte. cond (byte == 0) 1 0) (byte ∷ []) text in
    grind (arith, nat_tests, no_zeros text)

zeros_of_label : (label : Text × Text) (rest : Text) → zeros (key_of_label label ++ rest) ≡ zeros label.0 + zeros label.1 + 2 + zeros rest
zeros_of_label label rest = simp sum_by-append (omega arith)

-- a key has a zero for each end, and no other if no name and no value has one
counted : (labels : List (Text × Text)) → (length labels + length labels ≤ zeros (sort_key labels))
    × (has_zeros labels ≡ false → zeros (sort_key labels) ≡ length labels + length labels) × (has_zeros labels ≡ true → length labels + length labels < zeros (sort_key labels))
counted [] = let none : zeros [] ≡ 0 = refl in (omega arith, λ h. none, λ h. absurd (cc h))
counted (label ∷ labels) = grind (arith, zeros_of_label label (sort_key labels), no_zeros label.0, no_zeros label.1, counted labels)

-- labels without a zero are those of any as many labels with their sort key
pub of_sort_key : (labels others : List (Text × Text)) → has_zeros labels ≡ false → length labels ≡ length others → sort_key labels ≡ sort_key others → labels ≡ others
of_sort_key labels others h count e =
    let none : has_zeros others ≡ false = grind (arith, counted labels, counted others, ap zeros e) in
    slice_cmp-IsAntisymmetric (exact_pairs text_cmp text_cmp text_cmp-IsAntisymmetric text_cmp-IsAntisymmetric) labels others
    (sym (by_sort_key labels others h none) ∙ ap (text_cmp (sort_key labels)) (sym e) ∙ tied_itself nat_list_cmp_total (sort_key labels))

begins : (key first rest : Text) → pointwise nat_eq (take (length first) key) first ≡ true → rest ≡ drop (length first) key → key ≡ first ++ rest
begins key first rest e is = sym (take-append-drop (length first) key) ∙ (λ i. (bytes_decides (take (length first) key) first).0 e i ++ sym is i)

-- what follows a text and its end in a key
pub after_end : (key text ended : Text) (found : Option (Bor Text)) → pointwise nat_eq (take (length text) key) text ≡ true → ended ≡ drop (length text) key
    → MatchOption found (pointwise nat_eq (take 1 ended) (0 ∷ []) ≡ false) (λ rest. (pointwise nat_eq (take 1 ended) (0 ∷ []) ≡ true) × (rest.now ≡ drop 1 ended) × (length rest.now + 1 ≡ length ended))
    → IfSome found (λ rest. key ≡ key_of_text text ++ rest.now)
after_end key text ended None e is h = tt
after_end key text ended (Some rest) e is h = cc (begins key text ended e is, begins ended (0 ∷ []) rest.now h.0 h.1, append_assoc text (0 ∷ []) rest.now)

seam : (key text rest : Text) → key ≡ key_of_text text ++ rest → key ≡ text ++ (0 ∷ rest)
seam key text rest e = e ∙ append_assoc text (0 ∷ []) rest

-- a key doesn't begin with a text and its end if it doesn't begin with the text
pub not_begun : (key text : Text) → pointwise nat_eq (take (length text) key) text ≡ false → (rest : Text) → key ≢ key_of_text text ++ rest
not_begun key text other rest e =
    let begun = ap (take (length text)) (seam key text rest e) ∙ take-append_seam text (0 ∷ rest) in
    cc ((bytes_decides (take (length text) key) text).1 begun)

-- nor if the end doesn't follow
pub not_ended : (key text ended : Text) (found : Option (Bor Text)) → ended ≡ drop (length text) key
    → MatchOption found (pointwise nat_eq (take 1 ended) (0 ∷ []) ≡ false) (λ rest. (pointwise nat_eq (take 1 ended) (0 ∷ []) ≡ true) × (rest.now ≡ drop 1 ended) × (length rest.now + 1 ≡ length ended))
    → IfNone found ((rest : Text) → key ≢ key_of_text text ++ rest)
not_ended key text ended None is other = λ rest e.
    let follows = is ∙ ap (drop (length text)) (seam key text rest e) ∙ drop-append_seam text (0 ∷ rest) in
    true≢false (sym ((bytes_decides (take 1 ended) (0 ∷ [])).1 (ap (take 1) follows)) ∙ other)
not_ended key text ended (Some after) is h = tt

-- nor with a label if its value doesn't follow its name
pub not_both : (key name value after : Text) (found : Option (Bor Text)) → key ≡ key_of_text name ++ after → IfNone found ((rest : Text) → after ≢ key_of_text value ++ rest)
    → IfNone found ((rest : Text) → key ≢ key_of_label (name, value) ++ rest)
not_both key name value after None is other = λ rest e.
    other rest (append_cancel_left (key_of_text name) after (key_of_text value ++ rest) (sym is ∙ e ∙ append_assoc (key_of_text name) (key_of_text value) rest))
not_both key name value after (Some more) is h = tt

abbrev lent : Bor Text × Bor Text → Text × Text
lent pair = (pair.0.now, pair.1.now)

key_from : (stated : List (Bor Text × Bor Text)) (index : ℕ) (none : Bor Text × Bor Text) → index < length stated
    → sort_key (lent_texts stated) ≡ sort_key (lent_texts (take index stated)) ++ (key_of_label (lent (get_or stated index none)) ++ sort_key (lent_texts (drop (suc index) stated)))
key_from [] index none l = absurd (omega (arith, l))
key_from (pair ∷ stated) zero none l = refl
key_from (pair ∷ stated) (suc index) none l =
    ap (λ key. key_of_label (lent pair) ++ key) (key_from stated index none (omega (arith, l)))
    ∙ sym (append_assoc (key_of_label (lent pair)) (sort_key (lent_texts (take index stated))) _)

-- a key isn't that of labels if what follows some of them isn't the next
pub not_joined : (key rest : Text) (stated : List (Bor Text × Bor Text)) (index : ℕ) (none : Bor Text × Bor Text) → index < length stated
    → key ≡ sort_key (lent_texts (take index stated)) ++ rest
    → ((after : Text) → rest ≢ key_of_label (lent (get_or stated index none)) ++ after) → key ≢ sort_key (lent_texts stated)
not_joined key rest stated index none l is other e =
    other (sort_key (lent_texts (drop (suc index) stated)))
    (append_cancel_left (sort_key (lent_texts (take index stated))) rest _ (sym is ∙ e ∙ key_from stated index none l))
