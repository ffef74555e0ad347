use Rattle.std.proofs.Common.{fold, ◌≡◌, ◌*◌, drop, map, length}
use Rattle.amr_config.specs.Groups.{groups_of}
use Rattle.amr_config.specs.Routing.{chosen_routes}
use Rattle.amr_engine.specs.State.State.{insert_into_group, insert_into_groups}
use Rattle.amr_engine.specs.State.Kept.{GrownBy, before_open_record}
use Rattle.amr_engine.proofs.state.inserting.insert_into_each.Given as goal

-- placed in the groups so far, and then in those that are left, is placed in all; the groups are those of the configuration, which stays
abbrev pub invariant-loop-group : goal.invariant-loop-group
invariant-loop-group l = record {
  ok : fold (insert_into_group l.labels l.alert) l.store.state (map (λ group. group.route) (drop l.group-index l.groups)) ≡ insert_into_groups l.fn.store.state (l.labels, l.alert);
  groups : l.groups ≡ groups_of l.store.state.config l.labels;
  count : length l.groups ≡ length (chosen_routes l.fn.store.state.config l.labels);
  kept : before_open_record l.store ≡ before_open_record l.fn.store;
  grown : GrownBy (2 * l.group-index) l.fn.store l.store;
}
