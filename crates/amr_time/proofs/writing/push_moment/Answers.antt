use Rattle.amr_time.proofs.Printed.{utf8_moment}
use Rattle.amr_time.proofs.writing.push_moment.Goals as goal

pub from_utf8_unchecked-requires : goal.from_utf8_unchecked-requires
from_utf8_unchecked-requires c = rw (c.as_bytes.ensures, c.of-text.ensures) (utf8_moment c.args.moment)
