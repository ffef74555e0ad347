use Rattle.std.proofs.Common.{◌≡◌, length}
use Rattle.amr_engine.specs.State.Kept.{before_open_record}
use Rattle.amr_engine.proofs.state.store.Store.undo_open.Given as goal

abbrev pub invariant-loop-self : goal.invariant-loop-self
invariant-loop-self l = before_open_record l.self ≡ before_open_record l.fn.self

abbrev pub decreases-loop-self : goal.decreases-loop-self
decreases-loop-self l = length l.self.current
