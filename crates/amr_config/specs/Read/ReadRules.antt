-- Reading the inhibition rules of a configuration, by key in byte order.
use Rattle.std.specs.Prelude.{ℕ, List, [], ◌∷◌, ◌++◌, codes, unwrap_or}
use Rattle.serde_json.specs.Data.{Data}
use Rattle.amr_config.specs.declared.stated.rule.InhibitRule.{InhibitRule}
use Rattle.amr_config.specs.Read.Paths.{item_path}
use Rattle.amr_config.specs.Read.Members.{optional_member, items_at, members_at, texts_at}
use Rattle.amr_config.specs.Read.Readings.{Reading, give, ◌>>=◌, items_in_turn}
use Rattle.amr_config.specs.Read.ReadMatchers.{matchers_at}

unfoldable pub rule_at : List ℕ → Data → Reading InhibitRule
rule_at path d = do
  whole ← members_at path d
  equal ← optional_member texts_at path (codes "equal") d
  source ← matchers_at path (codes "source_match") (codes "source_match_re") (codes "source_matchers") d
  target ← matchers_at path (codes "target_match") (codes "target_match_re") (codes "target_matchers") d
  give (record { source = source; target = target; equal = unwrap_or equal [] })

-- the next rule of a list, added to those before it
unfoldable pub rule_into : List ℕ → ℕ → Data → List InhibitRule → Reading (List InhibitRule)
rule_into path i d rules = rule_at (item_path path i) d >>= λ rule. give (rules ++ rule ∷ [])

unfoldable pub rules_list : List ℕ → Data → Reading (List InhibitRule)
rules_list path d = items_at path d >>= λ ds. items_in_turn (rule_into path) 0 ds []

-- the rules of a whole configuration; the member may be absent
unfoldable pub rules_at : Data → Reading (List InhibitRule)
rules_at d = optional_member rules_list [] (codes "inhibit_rules") d >>= λ found. give (unwrap_or found [])
