use Rattle.std.proofs.Common.{refl, ◌∙◌}
use Rattle.amr_time.proofs.Days.{same_date}
use Rattle.amr_time.proofs.calendar.month_length.Goals as goal

pub returns-clause-value : goal.returns-clause-value
returns-clause-value c =
    let here = same_date c.args.day c.requires c.in-Ok.date c.in-Ok.ensures.value in
    c.days_in_month.ensures.value ∙ rw (here.0, here.1) refl
