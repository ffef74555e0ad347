-- The parts of the test that keys ascend.
use Rattle.std.proofs.Common.{◌≡◌, Bool, true, false, T, refl, ◌&&◌, Ordering, Less, is_lt}

pub both : (a b : Bool) → T a → T b → T (a && b)
both true b p q = q
both false b p q = absurd p

pub first : (a b : Bool) → T (a && b) → T a
first true b p = tt
first false b p = p

pub second : (a b : Bool) → T (a && b) → T b
second true b p = p
second false b p = absurd p

pub less : (o : Ordering) → T (is_lt o) → o ≡ Less
less Less p = refl
less _ p = absurd p
