use Rattle.std.proofs.Common.{ap, ◌∙◌}
use Rattle.amr_engine.specs.State.Kept.{before_open_record}
use Rattle.amr_engine.proofs.StateLemmas.Soundness.{kept_undone, undone_popped}
use Rattle.amr_engine.proofs.state.store.Store.undo_entry.Goals as goal

pub invariant_of-self : goal.invariant_of-self
invariant_of-self c =
    let a = c.self.inside in
    kept_undone a (record a { tables = c.displace.new.self; journal = c.pop-back.new.self }) c.pop-back.result c.self.invariant c.displace.ensures.places c.pop-back.ensures.closed c.pop-back.ensures.current c.displace.ensures.state

pub returns-clause-kept : goal.returns-clause-kept
returns-clause-kept c =
    let a = c.self.inside in
    undone_popped a (record a { tables = c.displace.new.self; journal = c.pop-back.new.self }) c.pop-back.result c.displace.ensures.state c.pop-back.ensures.current c.pop-back.ensures.closed c.pop-back.ensures.records ∙ ap before_open_record c.self.view_is
