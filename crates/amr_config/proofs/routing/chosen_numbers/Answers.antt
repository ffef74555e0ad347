use Rattle.std.proofs.Common.{◌≡◌, ◌+◌, ◌++◌, ◌∷◌, [], ap, sym, ◌∙◌, append-nil}
use Rattle.amr_config.specs.Standings.{chosen_numbers}
use Rattle.amr_config.proofs.Chosen.{chosen_more}
use Rattle.amr_config.proofs.PassingOver.{chosen_to_next}
use Rattle.amr_config.proofs.routing.chosen_numbers.Goals as goal
use Rattle.amr_config.proofs.routing.chosen_numbers.Goals.{then-is_chosen+in_ok-push, else-is_chosen}

pub loop-route-preserved : goal.loop-route-preserved
loop-route-preserved c =
    let standings = c.args.standings.now in
    let route = c.loop-route.route in
    let e = chosen_more standings route _ c.is_chosen.result c.loop-route-test.true c.is_chosen.ensures in
    record {
      within = c.next_to_see-route.ensures.within.1;
      chosen = λ labels known.
          let before = c.loop-route.invariant.chosen labels known in
          let here : c.if-is_chosen.indexes.items ≡ chosen_numbers standings (route + 1) = elim c.if-is_chosen.branch [
            | then-is_chosen+in_ok-push w ↦ rw (w.indexes-is, w.in_ok-push.ensures.items, e, w.if-is_chosen.true) (ap (λ ns. ns ++ route ∷ []) before)
            | else-is_chosen w ↦ rw (w.indexes-is, e, w.if-is_chosen.false, append-nil) before
          ] in
          here ∙ sym (chosen_to_next c.args.config.now labels standings known route c.next_to_see-route.result c.next_to_see-route.ensures.within.0 c.next_to_see-route.ensures.within.1 (c.next_to_see-route.ensures.none labels known));
    }
