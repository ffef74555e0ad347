use Rattle.std.proofs.Common.{◌≡◌, None, refl, sym, ap, subst, ◌∙◌, arith}
use Rattle.amr_tables.specs.Numbered.{number_of, next_number, GetsNumber}
use Rattle.amr_config.specs.RouteLabels.{route_labels_cmp, route_labels_cmp_total, route_labels_cmp-IsAntisymmetric}
use Rattle.amr_engine.specs.declared.state.due.Kind.TheVariants.{GroupRemoval, GroupFlush}
use Rattle.amr_engine.specs.State.Rostered.{Rostered, IsGrouped}
use Rattle.amr_engine.specs.State.Timed.{IsScheduled, AreTimed, group_moment}
use Rattle.amr_engine.proofs.StateLemmas.Rostering.{grouped_same, group_placed}
use Rattle.amr_engine.proofs.StateLemmas.Scheduling.{scheduled_same, scheduled_roomier, scheduled_placed, unplaced}
use Rattle.amr_engine.proofs.state.roster.Roster.add_group.Goals.{After-reserve_groups, After-reserve, After-reserve-2}
use Rattle.amr_engine.proofs.state.roster.Roster.add_group.Goals as goal

-- there is room for the members and for the moments of the group
roomy : (c : After-reserve_groups) → IsGrouped c.self.inside.config c.self.inside.placements c.self.inside.timers c.reserve_groups.new.self
roomy c =
    let r = c.self.inside in
    grouped_same r.config r.placements r.timers r.members c.self.invariant.0 r.placements r.timers c.reserve_groups.new.self c.self.invariant.0.numbering refl refl refl refl refl c.reserve_groups.ensures.homes c.reserve_groups.ensures.present c.reserve_groups.ensures.more

flushed : (c : After-reserve) → IsScheduled route_labels_cmp (group_moment GroupFlush) c.self.inside.timers c.reserve.new.self
flushed c = scheduled_roomier route_labels_cmp_total route_labels_cmp-IsAntisymmetric (group_moment GroupFlush) c.self.inside.timers c.self.inside.flushes c.reserve.new.self c.reserve.ensures.more c.reserve.ensures.held c.reserve.ensures.kept c.self.invariant.1.flushed

removed : (c : After-reserve-2) → IsScheduled route_labels_cmp (group_moment GroupRemoval) c.self.inside.timers c.reserve-2.new.self
removed c = scheduled_roomier route_labels_cmp_total route_labels_cmp-IsAntisymmetric (group_moment GroupRemoval) c.self.inside.timers c.self.inside.removals c.reserve-2.new.self c.reserve-2.ensures.more c.reserve-2.ensures.held c.reserve-2.ensures.kept c.self.invariant.1.removed

pub invariant_of-self : goal.invariant_of-self
invariant_of-self c = (roomy (goal.at.invariant_of-self c).After-reserve_groups, c.self.invariant.1)

pub invariant_of-self-in_err-reserve : goal.invariant_of-self-in_err-reserve
invariant_of-self-in_err-reserve c =
    let at = goal.at.invariant_of-self-in_err-reserve c in
    (roomy at.After-reserve_groups, record { numbering = c.self.invariant.1.numbering; removed = c.self.invariant.1.removed; flushed = flushed at.After-reserve })

pub invariant_of-self-in_err-reserve-2 : goal.invariant_of-self-in_err-reserve-2
invariant_of-self-in_err-reserve-2 c =
    let at = goal.at.invariant_of-self-in_err-reserve-2 c in
    (roomy at.After-reserve_groups, record { numbering = c.self.invariant.1.numbering; removed = removed at.After-reserve-2; flushed = flushed at.After-reserve })

pub invariant_of-self-in_err-number : goal.invariant_of-self-in_err-number
invariant_of-self-in_err-number c =
    let r = c.self.inside in
    let u = c.make_place.new.self in
    let at = goal.at.invariant_of-self-in_err-number c in (
      grouped_same r.config r.placements r.timers r.members c.self.invariant.0 r.placements u c.reserve_groups.new.self c.self.invariant.0.numbering refl refl refl c.in_err-number.ensures.kept c.in_err-number.ensures.same_next
          c.reserve_groups.ensures.homes c.reserve_groups.ensures.present c.reserve_groups.ensures.more,
      subst (AreTimed u c.reserve-2.new.self) (sym c.reserve_queue.ensures) (record {
        numbering = c.make_place.ensures.numbering;
        removed = scheduled_same route_labels_cmp_total route_labels_cmp-IsAntisymmetric (group_moment GroupRemoval) r.timers u c.reserve-2.new.self c.in_err-number.ensures.kept c.make_place.ensures.values (removed at.After-reserve-2);
        flushed = scheduled_same route_labels_cmp_total route_labels_cmp-IsAntisymmetric (group_moment GroupFlush) r.timers u c.reserve.new.self c.in_err-number.ensures.kept c.make_place.ensures.values (flushed at.After-reserve);
      }),
    )

pub returns-in_err-number-clause-places : goal.returns-in_err-number-clause-places
returns-in_err-number-clause-places c = rw (← c.self.view_is) c.make_place.ensures.places

pub invariant_of-self-2 : goal.invariant_of-self-2
invariant_of-self-2 c =
    let r = c.self.inside in
    let u = c.make_place.new.self in
    let key = c.in_ok-key.key in
    let at = goal.at.invariant_of-self-2 c in
    let new : number_of route_labels_cmp r.timers key ≡ None = ap (number_of route_labels_cmp r.timers) c.in_ok-key.ensures.cases ∙ ap (λ (v : Rostered). number_of route_labels_cmp v.timers c.args.group.now) c.self.view_is ∙ c.requires in
    let none = unplaced route_labels_cmp r.timers key new in
    let gets : GetsNumber route_labels_cmp r.timers u key (next_number r.timers) = c.in_ok-number.ensures.number none in (
      group_placed r.config r.placements r.timers c.reserve_groups.new.self (roomy at.After-reserve_groups) u key new gets (omega (arith, c.in_ok-reserve_groups.ensures.room, c.in_ok-count.ensures.count, c.in_ok-number.ensures.next none)),
      subst (AreTimed u c.reserve-2.new.self) (sym c.reserve_queue.ensures) (record {
        numbering = c.make_place.ensures.numbering;
        removed = scheduled_placed route_labels_cmp_total route_labels_cmp-IsAntisymmetric (group_moment GroupRemoval) r.timers u c.reserve-2.new.self key c.count_with_next.ensures.numbering c.make_place.ensures.numbering new gets c.make_place.ensures.values (omega (arith, c.in_ok-reserve-2.ensures.room, c.in_ok-count.ensures.count)) (removed at.After-reserve-2);
        flushed = scheduled_placed route_labels_cmp_total route_labels_cmp-IsAntisymmetric (group_moment GroupFlush) r.timers u c.reserve.new.self key c.count_with_next.ensures.numbering c.make_place.ensures.numbering new gets c.make_place.ensures.values (omega (arith, c.in_ok-reserve.ensures.room, c.in_ok-count.ensures.count)) (flushed at.After-reserve);
      }),
    )

pub returns-clause-places : goal.returns-clause-places
returns-clause-places c = rw (← c.self.view_is) c.make_place.ensures.places
