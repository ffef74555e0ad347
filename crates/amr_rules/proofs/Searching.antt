-- The first source among those that agree with the target is the first of all.
use Rattle.std.proofs.Common.{◌≡◌, Bool, true, List, [], ◌∷◌, option_map, refl, ap, arith}
use Rattle.std.specs.List.{filter, find, list_all}
use Rattle.amr_labels.specs.Map.{entries}
use Rattle.amr_labels.specs.Labels.{LabelSet}
use Rattle.amr_time.specs.Time.{Moment}
use Rattle.amr_config.specs.declared.stated.rule.InhibitRule.{InhibitRule}
use Rattle.amr_rules.specs.Muting.{Alerts, is_agreeing, first_source, inhibits, inhibitor_by, sources_of}

module _ {X : Type 0} where
  -- what is wanted is found among those that are kept, if it is one of them
  find-filter : (wanted kept : X → Bool) → ((x : X) → wanted x ≡ true → kept x ≡ true) → (xs : List X) → find wanted (filter kept xs) ≡ find wanted xs
  find-filter wanted kept h [] = refl
  find-filter wanted kept h (x ∷ xs) = grind (arith, find-filter wanted kept h xs, h x)

  -- each of those that are kept passes the test
  pub list_all-filter : (kept : X → Bool) (xs : List X) → list_all kept (filter kept xs) ≡ true
  list_all-filter kept [] = refl
  list_all-filter kept (x ∷ xs) = grind (arith, list_all-filter kept xs)

-- A source matches the source side of the rule, and agrees with the target on the labels of the
-- rule. So the first source among those that do is the first of all.
pub first-sources_of : (now : Moment) (rule : InhibitRule) (target : LabelSet) (alerts : Alerts) → first_source now rule target (sources_of rule target alerts) ≡ inhibitor_by now target alerts rule
first-sources_of now rule target alerts =
    ap (option_map (λ source. source.0))
    (find-filter (λ source. inhibits now rule source target) (λ source. is_agreeing rule target source.0) (λ source mutes. grind arith) (entries alerts))
