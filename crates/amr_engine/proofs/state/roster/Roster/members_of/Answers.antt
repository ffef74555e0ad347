use Rattle.std.proofs.Common.{IsSortedBy, filter_map, is_lt, rules, ◌≡◌, ◌++◌, List, Some, sym, ◌∙◌, arith}
use Rattle.std.proofs.lemmas.List.{append-nil, at_drop_all}
use Rattle.std.proofs.lemmas.Fn.{always_returns_same}
use Rattle.std.proofs.lemmas.List.MinMax.{ranks_by}
use Rattle.amr_labels.specs.Labels.{LabelSet, label_set_cmp, label_set_cmp_total}
use Rattle.amr_rules.specs.declared.alert.Alert.{Alert}
use Rattle.amr_tables.specs.Numbered.{number_of}
use Rattle.amr_config.specs.RouteLabels.{route_labels_cmp}
use Rattle.amr_engine.specs.State.Rostered.{member_at}
use Rattle.amr_engine.proofs.StateLemmas.Rostering.{no_members, members_found}
use Rattle.amr_engine.proofs.state.roster.Roster.members_of.Goals as goal

pub returns-in_default : goal.returns-in_default
returns-in_default c =
    let r = c.self.inside in
    rw (← c.self.view_is) (c.new.ensures.items ∙ no_members r.config r.placements r.timers r.members c.self.invariant.0 c.args.group.now (sym c.number_of.ensures.number ∙ c.in_default.is))

pub numbers_of-numbers-requires : goal.numbers_of-numbers-requires
numbers_of-numbers-requires c =
    let at = sym c.number_of.ensures.number ∙ c.in-Some.is in
    omega (arith, c.self.invariant.1.numbering.within c.args.group.now c.in-Some.number at, c.self.invariant.0.groups)

pub returns : goal.returns
returns c =
    let r = c.self.inside in
    let group = c.args.group.now in
    let at : number_of route_labels_cmp r.timers group ≡ Some c.in-Some.number = sym c.number_of.ensures.number ∙ c.in-Some.is in
    let found : List (LabelSet × Alert) = c.loop-member.found.items in
    let found_is : found ≡ filter_map (member_at r.placements) c.numbers_of-numbers.result.now =
    sym (append-nil found) ∙ sym (at_drop_all (λ ns. found ++ filter_map (member_at c.args.self.now.placements) ns) _ _ c.loop-member-test.false) ∙ c.loop-member.invariant
    ∙ (λ i. filter_map (member_at (sym c.self.view_is i).placements) c.numbers_of-numbers.result.now) in
    let up : IsSortedBy (λ (x y : LabelSet × Alert). is_lt (label_set_cmp x.0 y.0)) c.sort_by.new.self.items =
    c.in_ok-sort_by.ensures.sorted (λ x y. is_lt (label_set_cmp x.0 y.0)) (ranks_by label_set_cmp_total (λ (x : LabelSet × Alert). x.0)) (always_returns_same _ _ _ (λ a q f' k. search rules)) in
    rw (← c.self.view_is)
    (members_found r.config r.placements r.timers r.members c.self.invariant.0 group c.self.invariant.1.numbering c.in-Some.number at c.numbers_of-numbers.result.now c.numbers_of-numbers.ensures found c.sort_by.new.self.items found_is c.in_ok-sort_by.ensures.permutation up)
