-- Matchers and rules that are read: what is read states what is there, a refusal is that of the first fault, and the patterns that are met are
-- those before it.
use Rattle.std.proofs.Common.{◌≡◌, ℕ, true, false, if◌then◌else◌, List, [], ◌∷◌, ◌++◌, length, map, Option, Some, None, refl, sym, ap, ◌∙◌, append_assoc, codes, option_and_then, unwrap_or, ◌==◌, flat_map, filter, append-nil}
use Rattle.std.specs.Option.{option_map_or}
use Rattle.serde_json.specs.Data.{Data, Items, Members, no_members, member}
use Rattle.serde_json.specs.Find.{as_str, as_object, as_array}
use Rattle.amr_labels.specs.Labels.{Text}
use Rattle.amr_labels.specs.Matcher.Matchers.{Matcher, takes_pattern}
use Rattle.amr_labels.specs.Matcher.MatcherReading.{matchers_of}
use Rattle.amr_labels.specs.declared.matcher.Operator.{Operator}
use Rattle.amr_labels.specs.declared.matcher.Operator.TheVariants.{Equal, Matches}
use Rattle.amr_config.specs.Read.Paths.{under, item_path}
use Rattle.amr_config.specs.Read.Members.{unless_null, member_of, texts_at}
use Rattle.amr_config.specs.Read.Readings.{Reading, give, faulty, next, matchers_met, if_present, items_in_turn, members_in_turn}
use Rattle.amr_config.specs.Read.ReadMatchers.{matcher_at, stated_into, matcher_into, members_into, object_into, spelled_at, spelled_into, texts_into, list_into, matchers_at}
use Rattle.amr_config.specs.Read.ReadRules.{rule_at, rule_into, rules_list, rules_at}
use Rattle.amr_config.specs.Read.Table.{IsText, IsListOf, StatesEach, StatesIf, StatesOr, MatcherOf, MatchersOf, IsMatchObject, IsMatcherText, IsMatcherList, StatesMatchers, IsRule}
use Rattle.amr_config.specs.Read.Faults.{Finding, Fault, Pattern, first_fault, patterns_before, text_found, items_found, list_found, if_there, at, patterns_found, matchers_found, matcher_text_found, value_found, values_found, members_found, match_object_found, match_found, rule_found}
use Rattle.amr_config.proofs.ReadLemmas.Judged.{Judged, by_findings, judged_ok, judged_fault, judged_then, judged_as, judged_map, judged_stated, judged_text, judged_object, judged_there, judged_each, judged_list_of}
use Rattle.amr_config.proofs.ReadLemmas.JudgedParts.{judged_texts}

-- ---- patterns

all_met : (path : List ℕ) (ms : List Matcher) → patterns_before (map (λ (matcher : Matcher). Pattern path matcher.value) ms) ≡ map (λ (matcher : Matcher). (path, matcher.value)) ms
all_met path [] = refl
all_met path (m ∷ ms) = ap (λ l. (path, m.value) ∷ l) (all_met path ms)

no_fault_met : (path : List ℕ) (ms : List Matcher) → first_fault (map (λ (matcher : Matcher). Pattern path matcher.value) ms) ≡ None
no_fault_met path [] = refl
no_fault_met path (m ∷ ms) = no_fault_met path ms

walk_met : (path : List ℕ) (ms : List Matcher) → Judged (matchers_met path ms) (patterns_found path ms) (λ more. more ≡ ms)
walk_met path ms =
    let taken : List Matcher = filter (λ (matcher : Matcher). takes_pattern matcher.operator) ms in
    record { tells = (no_fault_met path taken, refl); met = sym (all_met path taken) }

-- ---- matchers of objects

abbrev value_matcher : Operator → Text → Text → Matcher
value_matcher operator name value = record { name = name; operator = operator; value = value }

walk_matcher : (operator : Operator) (path : List ℕ) (name value : Text) → Judged (matcher_at operator path name value) (if length name == 0 then Fault path ∷ [] else patterns_found path (value_matcher operator name value ∷ [])) (λ more. more ≡ value_matcher operator name value ∷ [])
unfolding matcher_at
walk_matcher operator path name value =
    elim (length name == 0) as (λ b. Judged (if b then faulty path else matchers_met path (value_matcher operator name value ∷ [])) (if b then Fault path ∷ [] else patterns_found path (value_matcher operator name value ∷ [])) (λ more. more ≡ value_matcher operator name value ∷ [])) [
      | true ↦ judged_fault path _
      | false ↦ walk_met path (value_matcher operator name value ∷ [])
    ]

-- what a member adds, if it is present
abbrev AddsMatcher : Operator → Text → Option Data → List Matcher → List Matcher → Type 0
AddsMatcher operator name None before after = after ≡ before
AddsMatcher operator name (Some d) before after = (value : Text) × IsText d value × (after ≡ before ++ value_matcher operator name value ∷ [])

walk_value : (operator : Operator) (path : List ℕ) (name : Text) (d : Data) (matchers : List Matcher) → Judged (stated_into operator path name d matchers) (value_found operator name path d) (AddsMatcher operator name (Some d) matchers)
unfolding stated_into
walk_value operator path name d matchers =
    judged_then _ _ _ _ _ _ (judged_text path d) (λ value is.
    by_findings _ _ _ _ (ap (λ o. if length name == 0 then Fault path ∷ [] else option_map_or (λ value. patterns_found path (value_matcher operator name value ∷ [])) o []) (sym is))
    (judged_map (matcher_at operator path name value) (λ more. matchers ++ more) (if length name == 0 then Fault path ∷ [] else patterns_found path (value_matcher operator name value ∷ [])) _ (AddsMatcher operator name (Some d) matchers) (walk_matcher operator path name value) (λ more same. (value, is, ap (λ l. matchers ++ l) same))))

walk_member : (operator : Operator) (path : List ℕ) (name : Text) (d : Data) (matchers : List Matcher) → Judged (matcher_into operator path name d matchers) (if_there (value_found operator name (under path name)) (unless_null (Some d))) (AddsMatcher operator name (unless_null (Some d)) matchers)
unfolding matcher_into
walk_member operator path name d matchers =
    elim (unless_null (Some d)) as (λ o. Judged (if_present (stated_into operator (under path name) name) o matchers) (if_there (value_found operator name (under path name)) o) (AddsMatcher operator name o matchers)) [
      | None ↦ judged_ok matchers _ refl
      | Some v ↦ walk_value operator (under path name) name v matchers
    ]

-- matchers after those before them
abbrev AddsThose : (List Matcher → Type 0) → List Matcher → List Matcher → Type 0
AddsThose Are before after = (more : List Matcher) × (after ≡ before ++ more) × Are more

adds_matchers : (operator : Operator) (name : Text) (d : Data) (ms : Members) (before one after : List Matcher) → AddsMatcher operator name (unless_null (Some d)) before one → AddsThose (MatchersOf operator ms) one after → AddsThose (MatchersOf operator (member name d ms)) before after
adds_matchers operator name d ms before one after first (later, adds, of) = go (unless_null (Some d)) first
  where
    go : (o : Option Data) → AddsMatcher operator name o before one → AddsThose (λ more. (later : List Matcher) × MatcherOf operator name o more later × MatchersOf operator ms later) before after
    go None same = (later, adds ∙ ap (λ l. l ++ later) same, (later, refl, of))
    go (Some v) (value, is, same) =
        (value_matcher operator name value ∷ later, adds ∙ ap (λ l. l ++ later) same ∙ append_assoc before (value_matcher operator name value ∷ []) later, (later, (value, is, refl), of))

walk_members : (operator : Operator) (path : List ℕ) (ms : Members) (matchers : List Matcher) → Judged (members_in_turn (matcher_into operator path) ms matchers) (values_found operator path ms) (AddsThose (MatchersOf operator ms) matchers)
walk_members operator path no_members matchers = judged_ok matchers _ ([], sym (append-nil matchers), refl)
walk_members operator path (member name d ms) matchers =
    judged_then (matcher_into operator path name d matchers) (members_in_turn (matcher_into operator path) ms) _ (values_found operator path ms) _ (AddsThose (MatchersOf operator (member name d ms)) matchers) (walk_member operator path name d matchers) (λ one first.
    judged_as (members_in_turn (matcher_into operator path) ms one) (values_found operator path ms) (AddsThose (MatchersOf operator ms) one) _ (walk_members operator path ms one) (λ after rest. adds_matchers operator name d ms matchers one after first rest))

-- a member that may be absent
walk_under : (reads : Data → List Matcher → Reading (List Matcher)) (found : Data → List Finding) (Are : Data → List Matcher → Type 0) (o : Option Data) (matchers : List Matcher) → ((d : Data) → Judged (reads d matchers) (found d) (AddsThose (Are d) matchers)) → Judged (if_present reads o matchers) (if_there found o) (AddsThose (λ more. (states : Option (List Matcher)) × StatesIf Are o states × (more ≡ unwrap_or states [])) matchers)
walk_under reads found Are None matchers h = judged_ok matchers _ ([], sym (append-nil matchers), (None, tt, refl))
walk_under reads found Are (Some d) matchers h = judged_as (reads d matchers) (found d) _ _ (h d) (λ after (more, adds, are). (more, adds, (Some more, are, refl)))

walk_object_under : (operator : Operator) (path : List ℕ) (key : Text) (d : Data) (matchers : List Matcher) → Judged (object_into operator path key d matchers) (at (match_object_found operator) path key d) (AddsThose (StatesOr [] (IsMatchObject operator) key d) matchers)
unfolding object_into members_into
walk_object_under operator path key d matchers =
    walk_under (members_into operator (under path key)) (match_object_found operator (under path key)) (IsMatchObject operator) (member_of key d) matchers (λ v.
    judged_there (under path key) (as_object v) _ (members_found operator (under path key)) _ refl (λ ms is.
    judged_as (members_in_turn (matcher_into operator (under path key)) ms matchers) (values_found operator (under path key) ms) (AddsThose (MatchersOf operator ms) matchers) _ (walk_members operator (under path key) ms matchers) (λ after (more, adds, of). (more, adds, (ms, is, of)))))

-- ---- texts of matchers

walk_spelled : (path : List ℕ) (o : Option (List Matcher)) → Judged (spelled_at path o) (matchers_found path o) (λ ms. o ≡ Some ms)
walk_spelled path None = judged_fault path _
walk_spelled path (Some ms) = judged_as (matchers_met path ms) (patterns_found path ms) _ _ (walk_met path ms) (λ more same. ap (λ l. Some l) (sym same))

walk_text : (path : List ℕ) (i : ℕ) (d : Data) (matchers : List Matcher) → Judged (spelled_into path i d matchers) (matcher_text_found (item_path path i) d) (AddsThose (IsMatcherText d) matchers)
unfolding spelled_into
walk_text path i d matchers =
    judged_there (item_path path i) (as_str d) (λ text. next (spelled_at (item_path path i) (matchers_of text)) (λ more. give (matchers ++ more))) (λ o. matchers_found (item_path path i) (option_and_then matchers_of o)) (AddsThose (IsMatcherText d) matchers) refl (λ text is.
    judged_map (spelled_at (item_path path i) (matchers_of text)) (λ more. matchers ++ more) (matchers_found (item_path path i) (matchers_of text)) _ _ (walk_spelled (item_path path i) (matchers_of text)) (λ more spells. (more, refl, (text, is, spells))))

abbrev AddsTexts : ℕ → Items → List Matcher → List Matcher → Type 0
AddsTexts i ds before after = (lists : List (List Matcher)) × (after ≡ before ++ flat_map (λ list. list) lists) × StatesEach (λ i. IsMatcherText) i ds lists

walk_texts_under : (path : List ℕ) (key : Text) (d : Data) (matchers : List Matcher) → Judged (list_into path key d matchers) (at (list_found matcher_text_found) path key d) (AddsThose (StatesOr [] IsMatcherList key d) matchers)
unfolding list_into texts_into
walk_texts_under path key d matchers =
    walk_under (texts_into (under path key)) (list_found matcher_text_found (under path key)) IsMatcherList (member_of key d) matchers (λ v.
    judged_there (under path key) (as_array v) (λ ds. items_in_turn (spelled_into (under path key)) 0 ds matchers) (items_found matcher_text_found (under path key)) _ refl (λ ds is.
    judged_as _ _ _ _
    (judged_each (spelled_into (under path key)) matcher_text_found (under path key) (λ i d. AddsThose (IsMatcherText d)) AddsTexts
    (λ i before. ([], sym (append-nil before), tt))
    (λ i d ds before one after (list, adds, is) (lists, rest, are). (list ∷ lists, rest ∙ ap (λ l. l ++ flat_map (λ list. list) lists) adds ∙ append_assoc before list (flat_map (λ list. list) lists), (is, are)))
    0 ds matchers (walk_text (under path key)))
    (λ after (lists, adds, are). (flat_map (λ list. list) lists, adds, (lists, (ds, is, are), refl)))))

pub walk_matchers : (path : List ℕ) (equal patterns texts : Text) (d : Data) → Judged (matchers_at path equal patterns texts d) (match_found equal patterns texts path d) (StatesMatchers equal patterns texts d)
unfolding matchers_at
walk_matchers path equal patterns texts d =
    judged_then _ _ _ _ _ _ (walk_object_under Equal path equal d []) (λ first (values, is_first, states).
    judged_then _ _ _ _ _ _ (walk_object_under Matches path patterns d first) (λ both (regexes, is_both, more).
    judged_as _ _ _ _ (walk_texts_under path texts d both) (λ all (spelled, is_all, last).
    record {
      of_values = values;
      of_patterns = regexes;
      of_texts = spelled;
      values = states;
      regexes = more;
      list = last;
      all = is_all ∙ ap (λ l. l ++ spelled) (is_both ∙ ap (λ l. l ++ regexes) is_first);
    })))

-- ---- rules

walk_rule : (path : List ℕ) (d : Data) → Judged (rule_at path d) (rule_found path d) (IsRule d)
unfolding rule_at
walk_rule path d =
    judged_then _ _ _ _ _ _ (judged_object path d) (λ whole is_object.
    judged_then _ _ _ _ _ _ (judged_stated texts_at (list_found text_found) (IsListOf IsText) path (codes "equal") d (judged_texts _)) (λ equal has_equal.
    judged_then _ _ _ _ _ _ (walk_matchers path (codes "source_match") (codes "source_match_re") (codes "source_matchers") d) (λ source has_source.
    judged_map _ _ _ _ _ (walk_matchers path (codes "target_match") (codes "target_match_re") (codes "target_matchers") d) (λ target has_target.
    record { equal = (equal, has_equal, refl); source = has_source; target = has_target }))))

pub walk_rules : (d : Data) → Judged (rules_at d) (at (list_found rule_found) [] (codes "inhibit_rules") d) (StatesOr [] (IsListOf IsRule) (codes "inhibit_rules") d)
unfolding rules_at rules_list rule_into
walk_rules d =
    judged_map _ _ _ _ _ (judged_stated rules_list (list_found rule_found) (IsListOf IsRule) [] (codes "inhibit_rules") d (judged_list_of rule_at rule_found IsRule walk_rule _)) (λ found states. (found, states, refl))
