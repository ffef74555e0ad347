use Rattle.std.proofs.Common.{◌≡◌, [], ◌∷◌, ◌++◌, refl, ap, ◌∙◌, length}
use Rattle.amr_engine.specs.declared.state.change.Change.TheVariants.{OfNotes}
use Rattle.amr_engine.specs.State.Kept.{before_open_record}
use Rattle.amr_engine.specs.declared.state.store.Store.TheInside.{Inside}
use Rattle.amr_engine.specs.State.Stored.{state_of}
use Rattle.amr_engine.proofs.StateLemmas.Soundness.{kept_reserved, kept_appended, undone_appended}
use Rattle.amr_engine.proofs.state.store.Store.append_notification.Goals as goal

pub invariant_of-self : goal.invariant_of-self
invariant_of-self c =
    let a = c.self.inside in
    kept_reserved a (record a { tables = record a.tables { notes = c.reserve.new.self } }) c.self.invariant refl refl

pub invariant_of-self-in_err-reserve_entry : goal.invariant_of-self-in_err-reserve_entry
invariant_of-self-in_err-reserve_entry c =
    let a = c.self.inside in
    kept_reserved a (record a { tables = record a.tables { notes = c.reserve.new.self }; journal = c.reserve_entry.new.self }) c.self.invariant c.reserve_entry.ensures.closed c.reserve_entry.ensures.current

pub invariant_of-self-2 : goal.invariant_of-self-2
invariant_of-self-2 c =
    let a = c.self.inside in
    kept_appended a (record a { tables = record a.tables { notes = c.push_reserved.new.self }; journal = c.push.new.self }) c.len.result c.self.invariant (c.push.ensures.closed ∙ c.reserve_entry.ensures.closed)
    (c.push.ensures.current ∙ ap (λ es. es ++ OfNotes c.len.result ∷ []) c.reserve_entry.ensures.current)

pub returns-clause-kept : goal.returns-clause-kept
returns-clause-kept c =
    let a = c.self.inside in
    let b : Inside = record a { tables = record a.tables { notes = c.push_reserved.new.self }; journal = c.push.new.self } in
    let notification = c.in_ok-notification.notification in
    let notes : b.tables.notes.items ≡ a.tables.notes.items ++ notification ∷ [] = c.push_reserved.ensures.items ∙ ap (λ xs. xs ++ notification ∷ []) c.reserve.ensures.items in
    undone_appended a b notification c.len.result (ap (λ notes. record (state_of a) { notes = notes }) notes) (c.len.ensures ∙ c.reserve.new.self.ok.0 ∙ ap length c.reserve.ensures.items)
    (c.push.ensures.current ∙ ap (λ es. es ++ OfNotes c.len.result ∷ []) c.reserve_entry.ensures.current) (c.push.ensures.closed ∙ c.reserve_entry.ensures.closed) (c.push.ensures.records ∙ c.reserve_entry.ensures.records)
    ∙ ap before_open_record c.self.view_is
