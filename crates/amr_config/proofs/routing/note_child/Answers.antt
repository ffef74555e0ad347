use Rattle.std.proofs.Common.{◌≡◌, ◌≤◌, false, length, get_or, inl, inr, sym, ap, ◌∙◌, arith}
use Rattle.std.proofs.lemmas.Result.{on_ok_weaker}
use Rattle.amr_config.specs.Standings.{is_open, standings_at}
use Rattle.amr_config.proofs.Chosen.{shut_open, found_standing, matches_is}
use Rattle.amr_config.proofs.PassingOver.{unmatched_shut}
use Rattle.amr_config.proofs.routing.note_child.Goals as goal
use Rattle.amr_config.proofs.routing.note_child.Goals.{then-not-above-via-then-not-above, then-not-above-via-else-not-above+then-above, then-not-above-via-else-not-above+else-above+in_ok-matches_all+then-not-branch}

pub returns-then-not-above : goal.returns-then-not-above
returns-then-not-above c =
    let config = c.args.config.now in
    let labels = c.args.labels.now in
    let n = c.len.result in
    let le : n ≤ length config.routes = omega (arith, c.len.ensures, c.requires.next) in
    let so_far : c.args.standings.now.items ≡ standings_at config labels n = c.requires.so_far ∙ ap (standings_at config labels) (sym c.len.ensures) in
    let child = rw (← c.len.ensures) at c.requires.child in
    let parents = c.route-settings.ensures.parents in
    let above =
    c.index-above.ensures ∙ ap (λ standings. get_or standings c.args.parent c.index-above.result.now) so_far ∙ found_standing config labels n c.args.parent c.index-above.result.now (parents n c.args.parent child) in
    let shut : is_open config labels n ≡ false = elim c.then-not-above.branch [
      | then-not-above-via-then-not-above w ↦ shut_open config labels parents n c.args.parent le child c.index-above.result.now above (inl w.if-not-above.true)
      | then-not-above-via-else-not-above+then-above w ↦ shut_open config labels parents n c.args.parent le child c.index-above.result.now above (inr w.if-above.true)
      | then-not-above-via-else-not-above+else-above+in_ok-matches_all+then-not-branch w ↦
          unmatched_shut config labels parents n c.args.parent child
          (sym (matches_is config labels n w.in_ok-matches_all.field-0 c.route-settings.result.now (rw c.len.ensures c.requires.next) c.route-settings.ensures.value w.in_ok-matches_all.ensures) ∙ w.if-not-branch.true)
    ] in
    on_ok_weaker c.pass_over.result (λ seen. seen labels c.requires.so_far (rw (← c.len.ensures) shut)) c.pass_over.ensures
