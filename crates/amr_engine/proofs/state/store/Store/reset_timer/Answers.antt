use Rattle.std.proofs.Common.{◌≡◌, true, Some, sym, ap, subst, ◌∙◌}
use Rattle.amr_tables.specs.Numbered.{number_of}
use Rattle.amr_engine.specs.declared.state.change.Change.{Change}
use Rattle.amr_engine.specs.declared.state.change.Change.TheVariants.{OfTimer}
use Rattle.amr_config.specs.RouteLabels.{route_labels_cmp}
use Rattle.amr_engine.specs.State.Kept.{before_open_record}
use Rattle.amr_engine.specs.declared.state.store.Store.TheInside.{Inside}
use Rattle.amr_engine.proofs.StateLemmas.Soundness.{kept_reserved, kept_changed, undone_reserved, undone_changed}
use Rattle.amr_engine.proofs.state.store.Store.reset_timer.Goals as goal

pub invariant_of-self-2 : goal.invariant_of-self-2
invariant_of-self-2 c =
    let a = c.self.inside in
    let j = c.reserve_entry.new.self in
    let n = c.in-Some-Some.number in
    let mid : Inside = record a { journal = j } in
    let b : Inside = record a { tables = c.enter.new.tables; journal = c.enter.new.journal } in
    let change : Change = OfTimer c.in_ok-clone.field-0 (Some (record c.in-Some-Some.former { next_flush = c.args.next; flushed = true })) in
    let at : number_of route_labels_cmp a.tables.roster.timers c.args.group.now ≡ Some n =
    ap (λ t. number_of route_labels_cmp t c.args.group.now) (sym c.timers.ensures) ∙ sym c.look_up_number-number.ensures.number ∙ c.in-Some-Some.is-0 in
    kept_changed mid b change n (kept_reserved a mid c.self.invariant c.reserve_entry.ensures.closed c.reserve_entry.ensures.current) tt
    (subst (λ k. number_of route_labels_cmp a.tables.roster.timers k ≡ Some n) (sym c.in_ok-clone.ensures.cases) at) c.enter.ensures.places c.enter.ensures.state c.enter.ensures.entered

pub returns-clause-kept : goal.returns-clause-kept
returns-clause-kept c =
    let a = c.self.inside in
    let j = c.reserve_entry.new.self in
    let mid : Inside = record a { journal = j } in
    let b : Inside = record a { tables = c.enter.new.tables; journal = c.enter.new.journal } in
    let change : Change = OfTimer c.in_ok-clone.field-0 (Some (record c.in-Some-Some.former { next_flush = c.args.next; flushed = true })) in
    undone_changed mid b change tt c.enter.ensures.state c.enter.ensures.entered
    ∙ undone_reserved a j c.reserve_entry.ensures.closed c.reserve_entry.ensures.current c.reserve_entry.ensures.records ∙ ap before_open_record c.self.view_is
