use Rattle.std.proofs.Common.{◌≡◌, sym, ◌∙◌, length, arith}
use Rattle.amr_engine.proofs.StateLemmas.Undoing.{undone-idle}
use Rattle.std.proofs.lemmas.Bool.Decides.{nat_tests}
use Rattle.amr_engine.proofs.state.store.Store.undo_open.Goals as goal
use Rattle.std.proofs.lemmas.List.{nil_from_length}

pub returns : goal.returns
returns c =
    let test = sym c.is_current_empty.ensures ∙ c.loop-self-test.false in
    let none : length c.loop-self.self.current ≡ 0 = grind (arith, nat_tests) in
    sym (undone-idle c.loop-self.self (nil_from_length c.loop-self.self.current none)) ∙ c.loop-self.invariant
