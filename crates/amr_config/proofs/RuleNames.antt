-- Which sides of the rules a label set is on depends on the labels that the rules' matchers name.
use Rattle.std.proofs.Common.{◌≡◌, Bool, true, List, [], ◌∷◌, refl, sym, ap, ◌&&◌, ◌||◌, map, arith}
use Rattle.std.specs.Ordering.{eq_by_cmp}
use Rattle.std.specs.Cmp.Lexicographic.{nat_list_cmp_total}
use Rattle.std.proofs.lemmas.Cmp.{eq_by_cmp_equiv}
use Rattle.std.proofs.lemmas.Map.Views.{tells_apart}
use Rattle.amr_labels.specs.Labels.{Text, text_cmp, text_cmp-IsAntisymmetric, LabelSet, value_of}
use Rattle.amr_labels.specs.Map.{retain_keys, get-retain_keys}
use Rattle.amr_labels.specs.Matcher.Matchers.{Matcher, compares, all_hold}
use Rattle.amr_config.specs.declared.stated.rule.InhibitRule.{InhibitRule}
use Rattle.amr_config.specs.Stated.RuleMatches.{rule_match, rule_matches}
use Rattle.amr_config.specs.RuleNames.{is_named, is_named_by, is_among, AreNamesOf, kept_for}

itself : (name : Text) → eq_by_cmp text_cmp name name ≡ true
itself name = (eq_by_cmp_equiv nat_list_cmp_total).refl name

module _ (labels : LabelSet) (test : Text → Bool) where
  kept_value : (name : Text) → test name ≡ true → value_of (retain_keys labels test) name ≡ value_of labels name
  kept_value name passes =
      grind (arith, get-retain_keys nat_list_cmp_total labels test name (λ other tie. ap test (sym (text_cmp-IsAntisymmetric name other tie))))

  kept_answer : (matchers : List Matcher) → ((name : Text) → is_named matchers name ≡ true → test name ≡ true) → all_hold matchers (retain_keys labels test) ≡ all_hold matchers labels
  kept_answer [] named = refl
  kept_answer (m ∷ ms) named =
      let own = kept_value m.name (named m.name (ap (λ b. b || is_named ms m.name) (itself m.name))) in
      let others = kept_answer ms (λ name e. grind (arith, named name)) in
      λ i. compares m.operator m.value (own i) && others i

  kept_sides : (rules : List InhibitRule) → ((name : Text) → is_named_by rules name ≡ true → test name ≡ true) → map (rule_match (retain_keys labels test)) rules ≡ map (rule_match labels) rules
  kept_sides [] named = refl
  kept_sides (r ∷ rs) named =
      let source = kept_answer r.source (λ name e. grind (arith, named name)) in
      let target = kept_answer r.target (λ name e. grind (arith, named name)) in
      let others = kept_sides rs (λ name e. grind (arith, named name)) in
      λ i. record { is_source = source i; is_target = target i } ∷ others i

pub same_sides : (rules : List InhibitRule) (labels : LabelSet) → rule_matches (kept_for rules labels) rules ≡ rule_matches labels rules
unfolding rule_matches kept_for
same_sides rules labels = kept_sides labels (is_named_by rules) rules (λ name e. e)

-- ---- collecting the names

-- a name that is there already
pub among_already : (names : List Text) (name other : Text) → is_among names name ≡ true → is_among names other ≡ (is_among names other || eq_by_cmp text_cmp other name)
among_already names name other there =
    let same : eq_by_cmp text_cmp other name ≡ true → other ≡ name = tells_apart text_cmp-IsAntisymmetric other name in
    grind arith

-- the labels with these names
pub kept_by : (rules : List InhibitRule) (names : List Text) (labels : LabelSet) → AreNamesOf rules names → retain_keys labels (λ name. is_among names name) ≡ kept_for rules labels
unfolding kept_for
kept_by rules names labels are = ap (retain_keys labels) (λ i name. are name i)
