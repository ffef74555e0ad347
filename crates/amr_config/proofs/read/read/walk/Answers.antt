use Rattle.std.proofs.Common.{refl}
use Rattle.amr_config.specs.Read.Walking.{walked_at}
use Rattle.amr_config.specs.Read.Readings.{next}
use Rattle.amr_config.proofs.ReadLemmas.Readings.{stops_first, stops_later, stops_past, stops_plain, stopped}
use Rattle.amr_config.proofs.read.read.walk.Goals as goal

pub returns-in_err-rules : goal.returns-in_err-rules
unfolding walked_at
returns-in_err-rules c =
    stopped _ _ _ _ c.from_residual-in_err-rules.ensures.1 (stops_past _ _ _ _ c.in_ok-resolve_timeout.ensures (stops_first _ _ _ c.in_err-rules.ensures))

pub returns-in_err-routes : goal.returns-in_err-routes
unfolding walked_at
returns-in_err-routes c =
    stopped _ _ _ _ c.from_residual-in_err-routes.ensures.1 (stops_past _ _ _ _ c.in_ok-resolve_timeout.ensures (stops_later _ _ _ _ c.in_ok-rules.ensures
    (stops_past _ _ _ _ c.in_ok-mute.ensures (stops_past _ _ _ _ c.in_ok-receivers.ensures (stops_first _ _ _ c.in_err-routes.ensures)))))

pub returns-in_err-time_intervals : goal.returns-in_err-time_intervals
unfolding walked_at
returns-in_err-time_intervals c =
    stopped _ _ _ _ c.from_residual-in_err-time_intervals.ensures.1 (stops_past _ _ _ _ c.in_ok-resolve_timeout.ensures (stops_later _ _ _ _ c.in_ok-rules.ensures
    (stops_past _ _ _ _ c.in_ok-mute.ensures (stops_past _ _ _ _ c.in_ok-receivers.ensures (stops_later _ _ _ _ c.in_ok-routes.ensures
    (stops_first _ _ _ (stops_plain _ _ c.in_err-time_intervals.ensures)))))))

pub returns : goal.returns
unfolding walked_at next
returns c =
    rw (c.in_ok-resolve_timeout.ensures, c.in_ok-rules.ensures, c.in_ok-mute.ensures, c.in_ok-receivers.ensures, c.in_ok-routes.ensures, c.in_ok-time_intervals.ensures) refl
