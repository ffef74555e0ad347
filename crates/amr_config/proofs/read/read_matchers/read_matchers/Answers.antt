use Rattle.amr_config.specs.Read.ReadMatchers.{matchers_at}
use Rattle.amr_config.proofs.ReadLemmas.Readings.{stops_first, stops_later, stopped}
use Rattle.amr_config.proofs.read.read_matchers.read_matchers.Goals as goal

pub returns-in_err-add_object : goal.returns-in_err-add_object
unfolding matchers_at
returns-in_err-add_object c =
    stopped _ _ _ _ c.from_residual.ensures.1 (stops_first _ _ _ (rw c.new-matchers.ensures.items at c.in_err-add_object.ensures))

pub returns-in_err-add_object-2 : goal.returns-in_err-add_object-2
unfolding matchers_at
returns-in_err-add_object-2 c =
    stopped _ _ _ _ c.from_residual-in_err-add_object-2.ensures.1 (stops_later _ _ _ _ (rw c.new-matchers.ensures.items at c.in_ok-add_object.ensures) (stops_first _ _ _ c.in_err-add_object-2.ensures))

pub returns-in_err-add_list : goal.returns-in_err-add_list
unfolding matchers_at
returns-in_err-add_list c =
    stopped _ _ _ _ c.from_residual-in_err-add_list.ensures.1 (stops_later _ _ _ _ (rw c.new-matchers.ensures.items at c.in_ok-add_object.ensures)
    (stops_later _ _ _ _ c.in_ok-add_object-2.ensures c.in_err-add_list.ensures))
