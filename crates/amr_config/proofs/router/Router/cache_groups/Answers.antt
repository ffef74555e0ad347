use Rattle.std.proofs.Common.{◌≡◌, Some, ◌∙◌, ap, sym}
use Rattle.amr_config.specs.Stated.Config.{Config}
use Rattle.amr_config.specs.Stated.RuleMatches.{rule_matches}
use Rattle.amr_config.specs.declared.router.CachedRouting.{CachedRouting}
use Rattle.amr_config.specs.Groups.{groups_of, routing_to_cache, IsRoutingOf}
use Rattle.std.proofs.lemmas.List.Elements.{All-set}
use Rattle.amr_tables.proofs.Emptying.{so_with_empty}
use Rattle.amr_config.proofs.router.Router.cache_groups.Goals as goal

pub invariant_of-self-2 : goal.invariant_of-self-2
invariant_of-self-2 c =
    let config : Config = c.self.inside.config in
    let here = c.args.labels.now in
    let same : config ≡ c.args.self.now = c.self.view_is ∙ c.sides_of.ensures.same in
    let found : CachedRouting = record { labels = c.in_ok-labels.labels; groups = c.args.groups; rules = c.in_ok-rules.rules } in
    let groups : c.args.groups ≡ groups_of config here = c.requires ∙ ap (λ k. groups_of k here) (sym same) in
    let rules : c.in_ok-rules.rules ≡ rule_matches here config.rules = c.in_ok-rules.ensures.sides ∙ ap (λ k. rule_matches here k.rules) (sym same) in
    let is : found ≡ routing_to_cache config here = λ i. record { labels = c.in_ok-labels.ensures.cases i; groups = groups i; rules = rules i } in
    let placed = so_with_empty (IsRoutingOf config) c.self.inside.cache.items c.make_place.new.places.items _ c.in_ok-make_place.ensures.values tt c.self.invariant.0 in (
      All-set (IsRoutingOf config) c.make_place.new.places.items c.args.number (Some found) (is ∙ ap (routing_to_cache config) (sym c.in_ok-labels.ensures.cases)) placed,
      c.self.invariant.1,
    )
