use Rattle.std.proofs.Common.{◌≡◌, length, sym, ap, ◌∙◌}
use Rattle.std.proofs.lemmas.Result.{IfOk-weaker}
use Rattle.amr_config.specs.Standings.{standings_at}
use Rattle.amr_config.proofs.Chosen.{chosen_from_standings, length-standings_at}
use Rattle.amr_config.proofs.routing.chosen_routes.Goals as goal

pub chosen_numbers-requires : goal.chosen_numbers-requires
chosen_numbers-requires c =
    ap length (c.as_slice.ensures.value ∙ c.in_ok-standings.ensures) ∙ length-standings_at c.args.config.now c.args.labels.now (length c.args.config.now.routes)

pub returns : goal.returns
returns c =
    let config = c.args.config.now in
    let labels = c.args.labels.now in
    let known : c.as_slice.result.now ≡ standings_at config labels (length config.routes) = c.as_slice.ensures.value ∙ c.in_ok-standings.ensures in
    let all : length config.routes ≡ length c.as_slice.result.now = sym (ap length known ∙ length-standings_at config labels (length config.routes)) in
    IfOk-weaker c.chosen_numbers.result _ _ (λ v h. h labels (known ∙ ap (standings_at config labels) all) ∙ chosen_from_standings config labels c.as_slice.result.now known) c.chosen_numbers.ensures
