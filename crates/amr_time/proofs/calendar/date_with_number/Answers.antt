use Rattle.std.proofs.Common.{refl}
use Rattle.amr_time.proofs.Days.{same_date}
use Rattle.amr_time.proofs.calendar.date_with_number.Goals as goal

pub returns : goal.returns
returns c =
    let here = same_date c.args.day c.requires c.in-Ok.date c.in-Ok.ensures.value in
    rw (here.0, here.1, here.2) refl
