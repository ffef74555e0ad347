-- What the sides of inhibition rules list, and how they take in label sets.
use Rattle.std.proofs.Common.{◌==◌, bit_or, Result, Ok, Err, OnOk, OnErr, option_map, unwrap_or, [], ◌≡◌, ℕ, ◌+◌, ◌<◌, ◌≤◌, Bool, true, false, cond, ◌||◌, ◌&&◌, T, List, ◌∷◌, Option, Some, None, map, length, take, refl, sym, ap, ◌∙◌, IsTrue, is_some, arith}
use Rattle.std.proofs.Math.ListN.{get_or}
use Rattle.std.specs.List.{cons_option, filter_map}
use Rattle.std.specs.Ordering.{eq_by_cmp, is_lt}
use Rattle.std.specs.Cmp.{eq_by_cmp_equiv, tied_then}
use Rattle.std.specs.FinMap.{find, is_sorted}
use Rattle.std.specs.FinMap.Entries.{below_all, find-where_key, is_sorted-where_key, same_entries}
use Rattle.std.proofs.lemmas.Bool.Decides.{nat_tests}
use Rattle.std.proofs.lemmas.List.{take_all, nil_from_length, get_or-map}
use Rattle.std.proofs.lemmas.List.Folds.{list_any_more}
use Rattle.std.proofs.lemmas.Map.Views.{tells_apart}
use Rattle.amr_labels.proofs.Sorted.{both, first, second}
use Rattle.amr_labels.specs.Map.{get, set, insert, empty, entries, from_sorted, if_sorted, get-empty, get-insert, get-set, get-entries, entries-sorted}
use Rattle.amr_labels.specs.Set.{Set, contains, items}
use Rattle.amr_labels.specs.Labels.{Text, text_cmp, LabelSet, label_set_cmp, label_set_cmp_total, label_set_cmp-IsAntisymmetric, value_of}
use Rattle.amr_labels.specs.Matcher.Matchers.{Matcher, all_hold}
use Rattle.amr_labels.specs.Matcher.ValueBits.{value_bits, required_bits}
use Rattle.amr_labels.proofs.MatcherLemmas.ValueBits.{matching_marked}
use Rattle.amr_config.specs.declared.stated.rule.InhibitRule.{InhibitRule}
use Rattle.amr_rules.specs.declared.alert.Alert.{Alert}
use Rattle.amr_rules.specs.Muting.{Alerts, agree_on, sources_of}
use Rattle.amr_tables.specs.Numbered.{map_of, next_number, entry_at}
use Rattle.amr_tables.specs.Members.{has}
use Rattle.amr_engine.specs.declared.indexes.rule_source.CachedSide.{CachedSide}
use Rattle.amr_engine.specs.Indexes.LabelValues.{values_cmp, values_cmp_total, values_cmp-IsAntisymmetric, label_values}
use Rattle.amr_engine.specs.Indexes.RuleSources.{ByValues, bits_of, is_in, is_under, is_source, ListsSide, IsSideOf, IsPut, IsListedToo, ListsSame, ListsAgreeing, stored_of}

-- ---- a label set without the bits that matchers ask for doesn't match them

pub unmatched : (arrived : List LabelSet) (bits : List ℕ) (n required : ℕ) (labels : LabelSet) (matchers : List Matcher) → bits ≡ bits_of arrived → n < length arrived → labels ≡ get_or arrived n labels
    → required ≡ required_bits matchers → (bit_or (get_or bits n 0) required == get_or bits n 0) ≡ false → all_hold matchers labels ≡ false
unmatched arrived bits n required labels matchers is lt at asked lacks =
    grind (arith, nat_tests, get_or-map value_bits arrived n labels 0 lt, matching_marked labels matchers)

-- ---- a label set is listed under values

in_or_empty : (found : Option (Set label_set_cmp)) (other : LabelSet) → contains (unwrap_or found empty) other ≡ is_in found other
in_or_empty None other = ap is_some (get-empty label_set_cmp other)
in_or_empty (Some listed) other = refl

module _ (old gone changed : ByValues) (values : List Text) (listed : Set label_set_cmp)
    (takes : map_of values_cmp gone ≡ set (map_of values_cmp old) values None) (puts : map_of values_cmp changed ≡ set (map_of values_cmp gone) values (Some listed)) where
  replaced : (under : List Text) → get (map_of values_cmp changed) under ≡ cond (eq_by_cmp values_cmp under values) (Some listed) (get (map_of values_cmp old) under)
  replaced under =
      grind (arith, get-set values_cmp_total (map_of values_cmp gone) values (Some listed) under, get-set values_cmp_total (map_of values_cmp old) values None under)

  module _ (was : Set label_set_cmp) (were : was ≡ unwrap_or (get (map_of values_cmp old) values) empty) where
    was_under : (under : List Text) (other : LabelSet) → eq_by_cmp values_cmp under values ≡ true → contains was other ≡ is_under old under other
    was_under under other same =
        ap (λ m. contains m other) were ∙ in_or_empty (get (map_of values_cmp old) values) other
        ∙ ap (λ v. is_under old v other) (sym (tells_apart values_cmp-IsAntisymmetric under values same))

    -- the set under the values takes in a label set, or it stays as it was
    pub listed_or_same : {A E : Type 0} (r : Result A E) (labels : LabelSet) → OnOk r (listed ≡ insert was labels tt) → OnErr r (listed ≡ was) → OnOk r (IsListedToo values labels old changed) × OnErr r (ListsSame old changed)
    listed_or_same (Ok _) labels grown kept = (λ under other. grind (arith, replaced under, get-insert label_set_cmp_total was labels tt other, was_under under other), tt)
    listed_or_same (Err _) labels grown kept = (tt, λ under other. grind (arith, replaced under, was_under under other))

-- ---- a label set is taken in

-- a side that takes in the next label set lists those of one label set more
pub side_seen : (arrived : List LabelSet) (old put new : CachedSide) (labels : LabelSet) → ListsSide arrived old → old.covered < length arrived → labels ≡ get_or arrived old.covered labels
    → IsPut labels old put → put.side ≡ old.side → new.side ≡ put.side → new.covered ≡ old.covered + 1 → new.sources ≡ put.sources → ListsSide arrived new
side_seen arrived old put new labels is lt at puts side side_too covered sources = record {
  within = omega (arith, lt, covered);
  exact = λ values q.
      grind (arith, puts values q, is.exact values q, tells_apart label_set_cmp-IsAntisymmetric q labels, list_any_more (eq_by_cmp label_set_cmp q) arrived old.covered labels lt);
}

-- a side at which nothing changed but that label sets were listed in vain
pub side_same : (arrived : List LabelSet) (old new : CachedSide) → ListsSide arrived old → ListsSame old.sources new.sources → new.side ≡ old.side → new.covered ≡ old.covered → ListsSide arrived new
side_same arrived old new is same side covered = record {
  within = omega (arith, is.within, covered);
  exact = λ values q. same values q ∙ is.exact values q ∙ (λ i. has label_set_cmp (take (sym covered i) arrived) q && is_source (sym side i) q values);
}

-- nothing is listed under any values where there is no place
no_entries : (keys : List (List Text × ℕ)) → filter_map (entry_at {V = Set label_set_cmp} []) keys ≡ []
no_entries [] = refl
no_entries (key ∷ keys) = no_entries keys

pub none_listed : (sources : ByValues) (values : List Text) → next_number sources ≡ 0 → None ≡ get (map_of values_cmp sources) values
unfolding map_of get from_sorted if_sorted
none_listed sources values none =
    sym (ap (λ es. get (from_sorted {R = values_cmp} es) values) (ap (λ cells. filter_map (entry_at cells) sources.numbers) (nil_from_length sources.cells none) ∙ no_entries sources.numbers))

-- a side of which nothing is cached yet
pub side_new : (arrived : List LabelSet) (cached : CachedSide) → cached.covered ≡ 0 → map_of values_cmp cached.sources ≡ empty → ListsSide arrived cached
side_new arrived cached covered none = record {
  within = omega (arith, covered);
  exact = λ values q. ap (λ m. is_in (get m values) q) none ∙ ap (λ found. is_in found q) (get-empty values_cmp values) ∙ (λ i. has label_set_cmp (take (sym covered i) arrived) q && is_source cached.side q values);
}

-- a label set that matches the side is put at it
pub is_put : (old changed : CachedSide) (labels : LabelSet) (values : List Text) → all_hold old.side.source labels ≡ true → values ≡ label_values old.side.equal.items labels → IsListedToo values labels old.sources changed.sources
    → IsPut labels old changed
is_put old changed labels values matches are too under other =
    too under other
    ∙ (λ i. ((sym matches i) && (eq_by_cmp values_cmp under (are i) && eq_by_cmp label_set_cmp other labels)) || is_under old.sources under other)

-- ---- what a side lists under values

agrees_by_values : (names : List Text) (a b : LabelSet) → eq_by_cmp values_cmp (label_values names a) (label_values names b) ≡ agree_on names a b
agrees_by_values [] a b = refl
agrees_by_values (name ∷ names) a b =
    sym (tied_then (text_cmp (value_of a name) (value_of b name)) (values_cmp (label_values names a) (label_values names b)))
    ∙ ap (λ x. eq_by_cmp text_cmp (value_of a name) (value_of b name) && x) (agrees_by_values names a b)

-- a side that has covered all label sets lists those that agree with the target under its values
pub side_agreeing : (arrived : List LabelSet) (cached : CachedSide) (rule : InhibitRule) (target : LabelSet) (values : List Text) (found : Option (Set label_set_cmp)) → ListsSide arrived cached → IsSideOf cached.side rule
    → length arrived ≤ cached.covered → values ≡ label_values rule.equal target → found ≡ get (map_of values_cmp cached.sources) values → ListsAgreeing rule target arrived found
side_agreeing arrived cached rule target values found is of covered are lists = λ q.
    let o = values_cmp_total in
    ap (λ f. is_in f q) lists ∙ is.exact values q
    ∙ ap (λ l. has label_set_cmp l q && is_source cached.side q values) (take_all cached.covered arrived covered)
    ∙ (λ i. has label_set_cmp arrived q && (all_hold (of.source i) q && eq_by_cmp values_cmp (are i) (label_values (of.equal i) q)))
    ∙ ap (λ b. has label_set_cmp arrived q && (all_hold rule.source q && b)) ((eq_by_cmp_equiv o).symm (label_values rule.equal target) (label_values rule.equal q) ∙ agrees_by_values rule.equal q target)

-- ---- the stored alerts of listed label sets

module _ (m : Alerts) where
  abbrev firsts : List (LabelSet × Unit {0}) → List LabelSet
  firsts = map (λ entry. entry.0)

  below_got : (x y : LabelSet) (alert : Option Alert) (rest : List (LabelSet × Alert)) → T (is_lt (label_set_cmp x y)) → T (below_all label_set_cmp x rest) → T (below_all label_set_cmp x (cons_option (option_map (λ a. (y, a)) alert) rest))
  below_got x y alert rest e h = grind (arith, both)

  all_below : (x : LabelSet) (l : List (LabelSet × Unit {0})) → T (below_all label_set_cmp x l) → T (below_all label_set_cmp x (stored_of m (firsts l)))
  all_below x [] a = tt
  all_below x (y ∷ l) a = below_got x y.0 (get m y.0) (stored_of m (firsts l)) (first _ _ a) (all_below x l (second _ _ a))

  sorted_one : (x : LabelSet) (alert : Option Alert) (rest : List (LabelSet × Alert)) → T (below_all label_set_cmp x rest) → T (is_sorted label_set_cmp rest) → T (is_sorted label_set_cmp (cons_option (option_map (λ a. (x, a)) alert) rest))
  sorted_one x alert rest b s = grind (arith, both)

  sorted_got : (l : List (LabelSet × Unit {0})) → T (is_sorted label_set_cmp l) → T (is_sorted label_set_cmp (stored_of m (firsts l)))
  sorted_got [] s = tt
  sorted_got (x ∷ l) s = sorted_one x.0 (get m x.0) (stored_of m (firsts l)) (all_below x.0 l (first _ _ s)) (sorted_got l (second _ _ s))

  find_got : (q : LabelSet) (l : List (LabelSet × Unit {0})) → find label_set_cmp q (stored_of m (firsts l)) ≡ cond (is_some (find label_set_cmp q l)) (get m q) None
  find_got q [] = refl
  find_got q (x ∷ l) = grind (arith, find_got q l, tells_apart label_set_cmp-IsAntisymmetric q x.0)

  kept_alike : (arrived test : Bool) (found : Option Alert) → (is_some found ≡ true → arrived ≡ true) → cond (arrived && test) found None ≡ cond test found None
  kept_alike arrived test found h = grind arith

  abbrev pub members : Option (Set label_set_cmp) → List LabelSet
  members None = []
  members (Some listed) = items listed

  sorted_members : (found : Option (Set label_set_cmp)) → T (is_sorted label_set_cmp (stored_of m (members found)))
  sorted_members None = tt
  sorted_members (Some listed) = sorted_got (entries listed) (entries-sorted listed)

  find_member : (q : LabelSet) (found : Option (Set label_set_cmp)) → find label_set_cmp q (stored_of m (members found)) ≡ cond (is_in found q) (get m q) None
  find_member q found = grind (arith, λ (listed : Set label_set_cmp). find_got q (entries listed), λ (listed : Set label_set_cmp). get-entries listed q)

  -- the stored alerts of the listed label sets are the rule's sources
  pub sources_are : (rule : InhibitRule) (target : LabelSet) (arrived : List LabelSet) (found : Option (Set label_set_cmp)) → ListsAgreeing rule target arrived found
      → ((q : LabelSet) → IsTrue (is_some (get m q)) → IsTrue (has label_set_cmp arrived q)) → stored_of m (members found) ≡ sources_of rule target m
  sources_are rule target arrived found is stored =
      let test : LabelSet → Bool = λ q. all_hold rule.source q && agree_on rule.equal q target in
      same_entries label_set_cmp label_set_cmp_total label_set_cmp-IsAntisymmetric (stored_of m (members found)) _ (sorted_members found) (is_sorted-where_key label_set_cmp test (entries m) (entries-sorted m)) (λ q.
      find_member q found ∙ ap (λ b. cond b (get m q) None) (is q) ∙ kept_alike (has label_set_cmp arrived q) (test q) (get m q) (stored q)
      ∙ ap (λ x. cond (test q) x None) (get-entries m q)
      ∙ sym (find-where_key label_set_cmp test q (λ x e. ap test (sym (label_set_cmp-IsAntisymmetric q x e))) (entries m)))
