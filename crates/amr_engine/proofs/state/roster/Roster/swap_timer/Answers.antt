use Rattle.std.proofs.Common.{le_refl, length-set, ◌≡◌, Some, length, refl, ap, ◌∙◌}
use Rattle.amr_tables.specs.Numbered.{number_of}
use Rattle.amr_engine.specs.State.Rostered.{Rostered}
use Rattle.amr_engine.specs.declared.state.due.Kind.TheVariants.{GroupRemoval, GroupFlush}
use Rattle.amr_engine.specs.State.Timed.{group_moment}
use Rattle.amr_config.specs.RouteLabels.{route_labels_cmp, route_labels_cmp_total, route_labels_cmp-IsAntisymmetric}
use Rattle.amr_engine.proofs.StateLemmas.Rostering.{grouped_same}
use Rattle.amr_engine.proofs.StateLemmas.Scheduling.{scheduled_set, ordered_before}
use Rattle.amr_engine.proofs.state.roster.Roster.swap_timer.Goals as goal

pub swap_at-requires : goal.swap_at-requires
swap_at-requires c = rw (← c.self.view_is) at c.requires

pub update-requires-clause-kept : goal.update-requires-clause-kept
update-requires-clause-kept c =
    let t = c.self.inside in
    ordered_before route_labels_cmp_total route_labels_cmp-IsAntisymmetric (group_moment GroupFlush) t.timers c.swap_at.new.self t.flushes c.args.number c.args.timer.now _ c.swap_at.ensures.keys c.swap_at.ensures.cells (c.group_moment-flush.ensures ∙ ap (group_moment GroupFlush) (c.as_ref.ensures.value ∙ c.swap_at.ensures.value)) c.self.invariant.1.flushed.ordered

pub update-requires-2-clause-kept : goal.update-requires-2-clause-kept
update-requires-2-clause-kept c =
    let t = c.self.inside in
    ordered_before route_labels_cmp_total route_labels_cmp-IsAntisymmetric (group_moment GroupRemoval) t.timers c.swap_at.new.self t.removals c.args.number c.args.timer.now _ c.swap_at.ensures.keys c.swap_at.ensures.cells (c.group_moment-removal.ensures ∙ ap (group_moment GroupRemoval) (c.as_ref-2.ensures.value ∙ c.swap_at.ensures.value)) c.self.invariant.1.removed.ordered

pub invariant_of-self : goal.invariant_of-self
invariant_of-self c =
    let t = c.self.inside in
    let group = c.requires.0 in
    let n = c.args.number in
    let number : number_of route_labels_cmp t.timers group ≡ Some n = ap (λ (v : Rostered). number_of route_labels_cmp v.timers group) c.self.view_is ∙ c.requires.1 in (
      grouped_same t.config t.placements t.timers t.members c.self.invariant.0 t.placements c.swap_at.new.self t.members c.self.invariant.0.numbering refl refl refl c.swap_at.ensures.keys (ap length c.swap_at.ensures.cells ∙ length-set t.timers.cells n c.args.timer.now) refl refl (le_refl (length t.members.rooms)),
      record {
        numbering = c.swap_at.ensures.numbering;
        removed = scheduled_set route_labels_cmp_total route_labels_cmp-IsAntisymmetric (group_moment GroupRemoval) t.timers c.swap_at.new.self t.removals c.update-2.new.self group n number c.swap_at.ensures.keys c.update-2.ensures.room c.update-2.ensures.held c.update-2.ensures.kept c.self.invariant.1.removed;
        flushed = scheduled_set route_labels_cmp_total route_labels_cmp-IsAntisymmetric (group_moment GroupFlush) t.timers c.swap_at.new.self t.flushes c.update.new.self group n number c.swap_at.ensures.keys c.update.ensures.room c.update.ensures.held c.update.ensures.kept c.self.invariant.1.flushed;
      },
    )

pub returns-clause-former : goal.returns-clause-former
returns-clause-former c = rw (← c.self.view_is) c.swap_at.ensures.former

pub returns-clause-places : goal.returns-clause-places
returns-clause-places c = rw (← c.self.view_is) c.swap_at.ensures.places
