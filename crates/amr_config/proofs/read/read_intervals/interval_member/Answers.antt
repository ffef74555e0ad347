use Rattle.std.proofs.Common.{refl, sym, ◌∙◌}
use Rattle.amr_config.specs.Read.Readings.{next}
use Rattle.amr_config.specs.Read.ReadIntervals.{interval_member_at}
use Rattle.amr_config.proofs.ReadLemmas.Readings.{fails_first, fails_later, failed, object_there, fails_past_object}
use Rattle.amr_config.proofs.read.read_intervals.interval_member.Goals as goal

pub returns-in_err-months : goal.returns-in_err-months
unfolding interval_member_at
returns-in_err-months c =
    failed _ _ _ _ c.from_residual-in_err-months.ensures.1 (fails_past_object _ _ _ _ (sym c.is_object.ensures ∙ c.if-not-is_object.false)
    (fails_later _ _ _ _ c.in_ok-days_of_month.ensures (fails_later _ _ _ _ c.in_ok-_location.ensures (fails_first _ _ _ c.in_err-months.ensures))))

pub returns-in_err-times : goal.returns-in_err-times
unfolding interval_member_at
returns-in_err-times c =
    failed _ _ _ _ c.from_residual-in_err-times.ensures.1 (fails_past_object _ _ _ _ (sym c.is_object.ensures ∙ c.if-not-is_object.false)
    (fails_later _ _ _ _ c.in_ok-days_of_month.ensures (fails_later _ _ _ _ c.in_ok-_location.ensures (fails_later _ _ _ _ c.in_ok-months.ensures (fails_first _ _ _ c.in_err-times.ensures)))))

pub returns-in_err-weekdays : goal.returns-in_err-weekdays
unfolding interval_member_at
returns-in_err-weekdays c =
    failed _ _ _ _ c.from_residual-in_err-weekdays.ensures.1 (fails_past_object _ _ _ _ (sym c.is_object.ensures ∙ c.if-not-is_object.false)
    (fails_later _ _ _ _ c.in_ok-days_of_month.ensures (fails_later _ _ _ _ c.in_ok-_location.ensures (fails_later _ _ _ _ c.in_ok-months.ensures (fails_later _ _ _ _ c.in_ok-times.ensures (fails_first _ _ _ c.in_err-weekdays.ensures))))))

pub returns-in_err-years : goal.returns-in_err-years
unfolding interval_member_at
returns-in_err-years c =
    failed _ _ _ _ c.from_residual-in_err-years.ensures.1 (fails_past_object _ _ _ _ (sym c.is_object.ensures ∙ c.if-not-is_object.false)
    (fails_later _ _ _ _ c.in_ok-days_of_month.ensures (fails_later _ _ _ _ c.in_ok-_location.ensures (fails_later _ _ _ _ c.in_ok-months.ensures (fails_later _ _ _ _ c.in_ok-times.ensures (fails_later _ _ _ _ c.in_ok-weekdays.ensures (fails_first _ _ _ c.in_err-years.ensures)))))))

pub returns : goal.returns
unfolding interval_member_at next
returns c =
    object_there _ _ _ (sym c.is_object.ensures ∙ c.if-not-is_object.false)
    ∙ rw (c.in_ok-days_of_month.ensures, c.in_ok-_location.ensures, c.in_ok-months.ensures, c.in_ok-times.ensures, c.in_ok-weekdays.ensures, c.in_ok-years.ensures) refl
