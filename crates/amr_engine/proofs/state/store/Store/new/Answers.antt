use Rattle.std.proofs.Common.{◌++◌, lit≤}
use Rattle.amr_engine.proofs.StateLemmas.Soundness.{joined, sound-none}
use Rattle.amr_engine.proofs.state.store.Store.new.Goals as goal

pub invariant_of-result-2 : goal.invariant_of-result-2
invariant_of-result-2 c = record { moment = lit≤ tt; sound = sound-none _ _ (λ i. joined (c.new-6.ensures.closed i) ++ c.new-6.ensures.current i) }
