use Rattle.std.proofs.Common.{refl}
use Rattle.std.proofs.lemmas.Result.{IfOk-weaker}
use Rattle.amr_config.specs.Settled.{stated_config}
use Rattle.amr_config.proofs.OwnPaths.{are_first_indexes, are_own}
use Rattle.amr_config.proofs.own_paths.own_paths.Goals as goal

pub alone-requires : goal.alone-requires
alone-requires c = rw c.as_slice.ensures.value (are_first_indexes (stated_config c.args.stated.now) _ c.in_ok-firsts.firsts.items c.in_ok-firsts.ensures)

pub returns : goal.returns
returns c =
    IfOk-weaker c.alone.result _ _ (λ own. are_own (stated_config c.args.stated.now) _ c.in_ok-firsts.firsts.items c.in_ok-firsts.ensures own refl) (rw c.as_slice.ensures.value at c.alone.ensures)
