use Rattle.std.proofs.Common.{refl, ap, sym, ◌∙◌}
use Rattle.amr_config.specs.Read.Readings.{Reading, next}
use Rattle.amr_config.specs.Read.ReadRoutes.{route_at}
use Rattle.amr_config.proofs.ReadLemmas.Readings.{object_there, stops_first, stops_later, stops_past, stops_plain, past_object, stopped}
use Rattle.amr_config.proofs.read.read_routes.read_route.Goals as goal

pub returns-in_err-matchers : goal.returns-in_err-matchers
unfolding route_at
returns-in_err-matchers c =
    stopped _ _ _ _ c.from_residual-in_err-matchers.ensures.1 (past_object _ _ _ _ (sym c.is_object.ensures ∙ c.if-not-is_object.false)
    (stops_past _ _ _ _ c.in_ok-active.ensures (stops_past _ _ _ _ c.in_ok-continues.ensures (stops_past _ _ _ _ c.in_ok-group_by.ensures (stops_past _ _ _ _ c.in_ok-group_interval.ensures (stops_past _ _ _ _ c.in_ok-group_wait.ensures (stops_first _ _ _ c.in_err-matchers.ensures)))))))

pub returns-in_err-mute : goal.returns-in_err-mute
unfolding route_at
returns-in_err-mute c =
    stopped _ _ _ _ c.from_residual-in_err-mute.ensures.1 (past_object _ _ _ _ (sym c.is_object.ensures ∙ c.if-not-is_object.false)
    (stops_past _ _ _ _ c.in_ok-active.ensures (stops_past _ _ _ _ c.in_ok-continues.ensures (stops_past _ _ _ _ c.in_ok-group_by.ensures (stops_past _ _ _ _ c.in_ok-group_interval.ensures (stops_past _ _ _ _ c.in_ok-group_wait.ensures (stops_later _ _ _ _ c.in_ok-matchers.ensures (stops_first _ _ _ (stops_plain _ _ c.in_err-mute.ensures)))))))))

pub returns-in_err-receiver : goal.returns-in_err-receiver
unfolding route_at
returns-in_err-receiver c =
    stopped _ _ _ _ c.from_residual-in_err-receiver.ensures.1 (past_object _ _ _ _ (sym c.is_object.ensures ∙ c.if-not-is_object.false)
    (stops_past _ _ _ _ c.in_ok-active.ensures (stops_past _ _ _ _ c.in_ok-continues.ensures (stops_past _ _ _ _ c.in_ok-group_by.ensures (stops_past _ _ _ _ c.in_ok-group_interval.ensures (stops_past _ _ _ _ c.in_ok-group_wait.ensures (stops_later _ _ _ _ c.in_ok-matchers.ensures (stops_past _ _ _ _ c.in_ok-mute.ensures (stops_first _ _ _ (stops_plain _ _ c.in_err-receiver.ensures))))))))))

pub returns-in_err-repeat_interval : goal.returns-in_err-repeat_interval
unfolding route_at
returns-in_err-repeat_interval c =
    stopped _ _ _ _ c.from_residual-in_err-repeat_interval.ensures.1 (past_object _ _ _ _ (sym c.is_object.ensures ∙ c.if-not-is_object.false)
    (stops_past _ _ _ _ c.in_ok-active.ensures (stops_past _ _ _ _ c.in_ok-continues.ensures (stops_past _ _ _ _ c.in_ok-group_by.ensures (stops_past _ _ _ _ c.in_ok-group_interval.ensures (stops_past _ _ _ _ c.in_ok-group_wait.ensures (stops_later _ _ _ _ c.in_ok-matchers.ensures (stops_past _ _ _ _ c.in_ok-mute.ensures (stops_past _ _ _ _ c.in_ok-receiver.ensures (stops_first _ _ _ (stops_plain _ _ c.in_err-repeat_interval.ensures)))))))))))

pub returns : goal.returns
unfolding route_at next
returns c =
    ap (λ (reading : Reading _). reading.value) (object_there _ _ _ (sym c.is_object.ensures ∙ c.if-not-is_object.false))
    ∙ rw (c.in_ok-active.ensures, c.in_ok-continues.ensures, c.in_ok-group_by.ensures, c.in_ok-group_interval.ensures, c.in_ok-group_wait.ensures, c.in_ok-matchers.ensures, c.in_ok-mute.ensures, c.in_ok-receiver.ensures, c.in_ok-repeat_interval.ensures, c.unwrap_or.ensures, c.in_ok-grouping.ensures, c.unwrap_or-2.ensures, c.new.ensures, c.unwrap_or-3.ensures, c.new-2.ensures) refl
