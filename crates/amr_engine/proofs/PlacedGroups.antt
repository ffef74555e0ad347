-- Where the alerts are placed, they are listed in their groups.
use Rattle.std.proofs.Common.{◌≡◌, ℕ, Some, Contains, refl, sym, subst}
use Rattle.std.proofs.lemmas.List.Elements.{All-contains}
use Rattle.amr_labels.specs.Map.{get, entries}
use Rattle.amr_labels.specs.Labels.{LabelSet}
use Rattle.amr_config.specs.Routing.{chosen_routes}
use Rattle.amr_rules.specs.declared.alert.Alert.{Alert}
use Rattle.amr_config.specs.declared.route_labels.RouteLabels.{RouteLabels}
use Rattle.amr_engine.specs.declared.state.views.Group.{Group}
use Rattle.amr_config.specs.RouteLabels.{on_route, route_labels_cmp_total, route_labels_cmp-IsAntisymmetric}
use Rattle.amr_engine.specs.State.State.{State, group_key, members_among, members}
use Rattle.amr_engine.specs.State.Seen.{group_seen, groups_of}
use Rattle.amr_engine.specs.Placed.{IsTimed, ArePlaced, IsListed, AreListed}
use Rattle.amr_engine.proofs.Listed.{listed_map, from_map}
use Rattle.amr_engine.proofs.PlacedLists.{among_entries}
use Rattle.amr_engine.proofs.PlacedFlush.{IsHad, each_had, among_members}

module _ (s : State) (placed : ArePlaced s) where
  each_listed : (labels : LabelSet) (alert : Alert) (route : ℕ) → get s.placements (on_route route labels) ≡ Some alert → IsListed s (groups_of s) labels route
  unfolding members
  each_listed labels alert route is =
      let member : RouteLabels = on_route route labels in
      let group : RouteLabels = group_key s.config member in
      let timed : IsTimed s group = placed.timed member alert is in
      record {
        group = group_seen s (group, timed.timer);
        listed = listed_map (group_seen s) (entries s.timers) (group, timed.timer) (among_entries route_labels_cmp_total route_labels_cmp-IsAntisymmetric s.timers group timed.timer timed.known);
        of_route = refl;
        of_labels = refl;
        member = listed_map (λ (m : LabelSet × Alert). m.0) (members_among s.config s.placements group) (labels, alert) (among_members s.config group s.placements member alert is refl);
      }

  only_listed : (group : Group) → Contains (groups_of s) group → (labels : LabelSet) → Contains group.members labels → Contains (chosen_routes s.config labels) group.route
  unfolding members
  only_listed group listed labels has =
      let known = from_map (group_seen s) (entries s.timers) group listed in
      let key : RouteLabels = known.0.0 in
      let member = from_map (λ (m : LabelSet × Alert). m.0) (members_among s.config s.placements key) labels (subst (λ (g : Group). Contains g.members labels) (sym known.2) has) in
      let had = All-contains (IsHad s.config key s.placements) (members_among s.config s.placements key) member.0 (each_had s.config key s.placements) member.1 in
      subst (λ (p : LabelSet × ℕ). Contains (chosen_routes s.config p.0) p.1) (λ i. (member.2 i, (known.2 i).route)) (placed.chosen_only (on_route key.route member.0.0) member.0.1 had)

  pub are_listed : AreListed s (groups_of s)
  are_listed = record {
    each = λ labels alert is fires route takes. each_listed labels alert route (placed.copied labels alert is fires route takes);
    only = only_listed;
  }
