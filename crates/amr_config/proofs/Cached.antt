-- Caches of answers for label sets: without an answer, with one more, and under another configuration.
use Rattle.std.proofs.Common.{arith, ◌≡◌, ℕ, true, List, Bor, Option, None, Some, sym, ap, subst, ◌∙◌}
use Rattle.std.specs.Ordering.{eq_by_cmp}
use Rattle.std.specs.Slice.{IsItemAt}
use Rattle.std.proofs.lemmas.List.Elements.{All-weaker}
use Rattle.std.proofs.lemmas.Map.Views.{tells_apart}
use Rattle.amr_labels.specs.Labels.{LabelSet, label_set_cmp, label_set_cmp_total, label_set_cmp-IsAntisymmetric}
use Rattle.amr_labels.specs.Map.{Map, empty, get, set, get-empty, get-set}
use Rattle.amr_config.specs.declared.router.CachedRouting.{CachedRouting}
use Rattle.amr_config.specs.declared.stated.rule_sides.RuleMatch.{RuleMatch}
use Rattle.amr_config.specs.Stated.Config.{Config}
use Rattle.amr_config.specs.Stated.RuleMatches.{rule_matches}
use Rattle.amr_config.specs.Groups.{routing_to_cache, IsCacheOf, IsRoutingOf, AreSides}

-- a map without entries gives nothing
pub none_given : (cached : Map label_set_cmp (List RuleMatch)) (labels : LabelSet) (found : List RuleMatch) → cached ≡ empty → get cached labels ≡ Some found → ⊥
none_given cached labels found none at = grind (arith, get-empty {X = List RuleMatch} label_set_cmp labels)

-- one more label set, with the sides of the rules that it is on
pub sides_more : (config : Config) (sides more : Map label_set_cmp (List RuleMatch)) (labels other : LabelSet) (x found : List RuleMatch) → AreSides config sides → x ≡ rule_matches labels config.rules
    → more ≡ set sides labels (Some x) → get more other ≡ Some found → found ≡ rule_matches other config.rules
sides_more config sides more labels other x found are is shows at =
    let same : eq_by_cmp label_set_cmp other labels ≡ true → other ≡ labels = tells_apart label_set_cmp-IsAntisymmetric other labels in
    grind (arith, get-set label_set_cmp_total sides labels (Some x) other, are other found)

-- what is cached at a place is so under any configuration that routes alike
same_routing : (here there : Config) → ((labels : LabelSet) → routing_to_cache there labels ≡ routing_to_cache here labels) → (place : Option CachedRouting) → IsRoutingOf there place → IsRoutingOf here place
same_routing here there same None is = tt
same_routing here there same (Some cached) is = is ∙ same cached.labels

-- what is cached under a configuration is so under one that routes alike
pub cached_alike : (here there : Config) → ((labels : LabelSet) → routing_to_cache there labels ≡ routing_to_cache here labels) → (cache : List (Option CachedRouting)) (sides : Map label_set_cmp (List RuleMatch)) → IsCacheOf there cache × AreSides there sides → IsCacheOf here cache × AreSides here sides
cached_alike here there same cache sides are = (
  All-weaker (IsRoutingOf there) (IsRoutingOf here) (same_routing here there same) cache are.0,
  λ labels found at. are.1 labels found at ∙ ap (λ k. k.rules) (same labels),
)

-- what is found at a place of the labels that it was worked out of
pub routing_found : (config : Config) (cache : List (Option CachedRouting)) (n : ℕ) (place : Bor (Option CachedRouting)) (cached : CachedRouting) (labels : LabelSet) → IsCacheOf config cache
    → IsItemAt cache n (Some place) → place.now ≡ Some cached → eq_by_cmp label_set_cmp cached.labels labels ≡ true → cached ≡ routing_to_cache config labels
routing_found config cache n place cached labels is found some same =
    let here = subst (IsRoutingOf config) (sym (found.4 (omega arith) None)) (is n None found.3.0) in
    subst (IsRoutingOf config) some here ∙ ap (routing_to_cache config) (tells_apart label_set_cmp-IsAntisymmetric cached.labels labels same)
