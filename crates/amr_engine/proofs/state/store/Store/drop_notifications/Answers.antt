use Rattle.std.proofs.Common.{refl}
use Rattle.amr_engine.proofs.StateLemmas.Soundness.{kept_reserved}
use Rattle.amr_engine.proofs.state.store.Store.drop_notifications.Goals as goal

pub invariant_of-self : goal.invariant_of-self
invariant_of-self c =
    let a = c.self.inside in
    kept_reserved a (record a { tables = record a.tables { notes = c.clear.new.self } }) c.self.invariant refl refl
