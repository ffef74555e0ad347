-- The causes of refusals, and their numbers and names.
use Rattle.std.specs.Prelude.{ℕ, List, codes}
use Rattle.amr_config.specs.declared.read.error.Cause.{Cause}
use Rattle.amr_config.specs.declared.read.error.Cause.TheVariants.{BadConfig, UnknownReceiver, DuplicateReceiver, RootRoute, ZeroInterval, BadGroupBy, TooDeep}
use Rattle.amr_config.specs.declared.read.error.Refusal.{Refusal}
use Rattle.amr_config.specs.declared.read.error.Refusal.TheVariants as refusal

-- the number and the name under which a cause is printed
abbrev pub printed_name_of : Cause → List ℕ
printed_name_of BadConfig = codes "5 BadConfig"
printed_name_of UnknownReceiver = codes "6 UnknownReceiver"
printed_name_of DuplicateReceiver = codes "7 DuplicateReceiver"
printed_name_of RootRoute = codes "8 RootRoute"
printed_name_of ZeroInterval = codes "9 ZeroInterval"
printed_name_of BadGroupBy = codes "10 BadGroupBy"
printed_name_of TooDeep = codes "11 TooDeep"

-- the number alone, which is also that of a refused reload
abbrev pub number_of : Cause → ℕ
number_of BadConfig = 5
number_of UnknownReceiver = 6
number_of DuplicateReceiver = 7
number_of RootRoute = 8
number_of ZeroInterval = 9
number_of BadGroupBy = 10
number_of TooDeep = 11

abbrev pub cause_of : Refusal → Cause
cause_of (refusal.BadConfig path) = BadConfig
cause_of (refusal.Other cause) = cause
