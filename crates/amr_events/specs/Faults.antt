-- The names of the faults of a script.
use Rattle.std.specs.Prelude.{ℕ, List, codes}
use Rattle.amr_events.specs.declared.error.Fault.{Fault}
use Rattle.amr_events.specs.declared.error.Fault.TheVariants.{BadLine, LineTooLong, TooManyEvents}

-- the number and the name under which a fault is printed
abbrev pub name_of_fault : Fault → List ℕ
name_of_fault (BadLine line) = codes "13 BadLine"
name_of_fault (LineTooLong line) = codes "14 LineTooLong"
name_of_fault TooManyEvents = codes "15 TooManyEvents"
