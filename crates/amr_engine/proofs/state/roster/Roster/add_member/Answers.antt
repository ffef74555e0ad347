use Rattle.std.proofs.Common.{◌≡◌, ◌++◌, ◌∷◌, [], false, None, Some, refl, ap, ◌∙◌, arith}
use Rattle.amr_tables.specs.Numbered.{number_of}
use Rattle.amr_config.specs.RouteLabels.{route_labels_cmp}
use Rattle.amr_engine.specs.State.State.{group_key}
use Rattle.amr_engine.specs.State.Rostered.{Rostered}
use Rattle.amr_engine.proofs.StateLemmas.Rostering.{grouped_same, grouped_placed}
use Rattle.amr_engine.proofs.StateLemmas.Scheduling.{unplaced}
use Rattle.amr_engine.proofs.state.roster.Roster.add_member.Goals as goal

pub invariant_of-self : goal.invariant_of-self
invariant_of-self c =
    let r = c.self.inside in
    (grouped_same r.config r.placements r.timers r.members c.self.invariant.0 r.placements r.timers c.reserve.new.self c.self.invariant.0.numbering refl refl refl refl refl c.reserve.ensures.homes c.reserve.ensures.present (omega (arith, c.reserve.ensures.groups)), c.self.invariant.1)

pub invariant_of-self-in_err-number : goal.invariant_of-self-in_err-number
invariant_of-self-in_err-number c =
    let r = c.self.inside in (
      grouped_same r.config r.placements r.timers r.members c.self.invariant.0 c.make_place.new.self r.timers c.reserve.new.self c.make_place.ensures.numbering c.in_err-number.ensures.kept c.in_err-number.ensures.same_next c.make_place.ensures.shown refl refl
          c.reserve.ensures.homes c.reserve.ensures.present (omega (arith, c.reserve.ensures.groups)),
      c.self.invariant.1,
    )

pub returns-in_err-number-clause-places : goal.returns-in_err-number-clause-places
returns-in_err-number-clause-places c = rw (← c.self.view_is) c.make_place.ensures.places

pub invariant_of-self-2 : goal.invariant_of-self-2
invariant_of-self-2 c =
    let r = c.self.inside in
    let member = c.args.member.now in
    let key = c.in_ok-key.key in
    let k = c.add.new.self in
    let same = c.in_ok-key.ensures.cases in
    let new : number_of route_labels_cmp r.placements key ≡ None = ap (number_of route_labels_cmp r.placements) same ∙ ap (λ (v : Rostered). number_of route_labels_cmp v.placements member) c.self.view_is ∙ c.requires.new in
    let home : number_of route_labels_cmp r.timers (group_key r.config key) ≡ Some c.args.home =
    ap (λ m. number_of route_labels_cmp r.timers (group_key r.config m)) same ∙ ap (λ (v : Rostered). number_of route_labels_cmp v.timers (group_key v.config member)) c.self.view_is ∙ c.requires.home in
    let none = unplaced route_labels_cmp r.placements key new in (
      grouped_placed r.config r.placements r.timers r.members c.self.invariant.0 c.make_place.new.self k key c.args.home c.make_place.ensures.numbering new (c.in_ok-number.ensures.number none) (c.in_ok-number.ensures.next none) c.make_place.ensures.shown home
          (c.add.ensures.homes ∙ ap (λ l. l ++ c.args.home ∷ []) c.reserve.ensures.homes) (c.add.ensures.present ∙ ap (λ l. l ++ false ∷ []) c.reserve.ensures.present) (omega (arith, c.add.ensures.groups, c.reserve.ensures.groups)),
      c.self.invariant.1,
    )

pub returns-clause-places : goal.returns-clause-places
returns-clause-places c = rw (← c.self.view_is) c.make_place.ensures.places
