use Rattle.std.proofs.Common.{◌≡◌, false, sym, ◌∙◌, arith}
use Rattle.amr_config.specs.Standings.{is_open}
use Rattle.amr_config.proofs.PassingOver.{open_as_known, below_shut}
use Rattle.amr_config.proofs.routing.next_to_see.Goals as goal

pub returns-else-standings-route-clause-none : goal.returns-else-standings-route-clause-none
returns-else-standings-route-clause-none c =
    let config = c.args.config.now in
    let route = c.args.route in
    let ends = c.subtree_end.ensures.value in
    λ labels known m from to.
    let shut : is_open config labels route ≡ false = sym (open_as_known config labels c.args.standings.now known route _ c.requires.within) ∙ c.if-standings-route.false in
    below_shut config labels c.subtree_end.ensures.parents c.subtree_end.result route c.subtree_end.result ends shut m (omega (arith, from)) to to
