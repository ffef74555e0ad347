use Rattle.std.proofs.Common.{option_copied, ◌≡◌, Some, sym, ap, ◌∙◌}
use Rattle.amr_tables.specs.Numbered.{map_of, key_at}
use Rattle.amr_tables.proofs.Naming.{key_at_number}
use Rattle.amr_config.specs.RouteLabels.{route_labels_cmp, route_labels_cmp_total, route_labels_cmp-IsAntisymmetric}
use Rattle.amr_engine.specs.State.Timed.{group_moment}
use Rattle.amr_engine.proofs.StateLemmas.Scheduling.{first_moment, no_moment, first_group, no_group, group_none, named_moment, not_none}
use Rattle.amr_engine.proofs.state.group_timers.GroupTimers.first.Goals as goal

pub returns-in_err-first : goal.returns-in_err-first
returns-in_err-first c = λ alerts.
    let t = c.args.self.timers.now in
    let kind = c.args.self.kind in
    rw c.from_residual.ensures (no_group alerts (map_of route_labels_cmp t) kind c.requires.group
    (no_moment route_labels_cmp_total route_labels_cmp-IsAntisymmetric (group_moment kind) t (group_none kind) c.requires.numbering c.in_err-first.ensures.none))

pub returns-in_err-group : goal.returns-in_err-group
returns-in_err-group c = λ alerts.
    let t = c.args.self.timers.now in
    let first = c.in_ok-first.first in
    let at = c.in_ok-first.ensures.some.0 in
    let by = named_moment route_labels_cmp_total route_labels_cmp-IsAntisymmetric (group_moment c.args.self.kind) t c.args.earliest.now c.requires.scheduled first.number first.moment at in
    not_none by.0 _ (sym (key_at_number route_labels_cmp_total route_labels_cmp-IsAntisymmetric t c.requires.numbering by.0 first.number by.1) ∙ sym c.key_at.ensures.key ∙ ap option_copied c.in_err-group.was)

pub returns : goal.returns
returns c = λ alerts.
    let t = c.args.self.timers.now in
    let kind = c.args.self.kind in
    let first = c.in_ok-first.first in
    let named : key_at t first.number ≡ Some c.in_ok-group.group.now = sym c.key_at.ensures.key ∙ ap option_copied c.in_ok-group.was in
    let group = c.in_ok-group.group.now in
    rw (c.timer_of_kind.ensures.kind, c.timer_of_kind.ensures.group)
    (first_group alerts (map_of route_labels_cmp t) kind c.requires.group group first.moment
    (first_moment route_labels_cmp_total route_labels_cmp-IsAntisymmetric (group_moment kind) t c.args.earliest.now first group (group_none kind) c.requires.numbering c.requires.scheduled
    c.in_ok-first.ensures.some named))
