use Rattle.std.proofs.Common.{◌==◌, length-set, cond, length, ap, ◌∙◌}
use Rattle.amr_tables.specs.Places.{is_marked}
use Rattle.amr_tables.specs.Numbered.{number_of}
use Rattle.amr_config.specs.RouteLabels.{route_labels_cmp}
use Rattle.amr_engine.specs.State.Rostered.{Rostered}
use Rattle.amr_engine.proofs.StateLemmas.Rostering.{grouped_set}
use Rattle.amr_engine.proofs.state.roster.Roster.swap_member.Goals as goal

pub swap_at-requires : goal.swap_at-requires
swap_at-requires c = rw (← c.self.view_is) at c.requires

pub invariant_of-self : goal.invariant_of-self
invariant_of-self c =
    let r = c.self.inside in
    let key = c.requires.0 in
    let n = c.args.number in
    let number = ap (λ (t : Rostered). number_of route_labels_cmp t.placements key) c.self.view_is ∙ c.requires.1 in (
      grouped_set r.config r.placements r.timers r.members c.self.invariant.0 c.swap_at.new.self c.set.new.self key n c.args.alert.now c.swap_at.ensures.numbering number c.swap_at.ensures.keys (ap length c.swap_at.ensures.cells ∙ length-set r.placements.cells n c.args.alert.now) (c.swap_at.ensures.shown key number)
          (λ x. c.set.ensures.present x ∙ ap (λ b. cond (x == n) b (is_marked r.members.present x)) c.is_some.ensures) c.set.ensures.homes c.set.ensures.groups,
      c.self.invariant.1,
    )

pub returns-clause-shown : goal.returns-clause-shown
returns-clause-shown c = rw (← c.self.view_is) c.swap_at.ensures.shown

pub returns-clause-places : goal.returns-clause-places
returns-clause-places c = rw (← c.self.view_is) c.swap_at.ensures.places
