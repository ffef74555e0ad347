-- Silences that are expired at a moment don't mute later, so they can be left out of what is asked
-- later.
use Rattle.std.proofs.Common.{◌≡◌, ◌≤◌, ℕ, List, [], ◌∷◌, arith, refl}
use Rattle.std.proofs.lemmas.Bool.Decides.{nat_tests}
use Rattle.amr_labels.specs.Labels.{LabelSet}
use Rattle.amr_time.specs.Time.{Moment}
use Rattle.amr_rules.specs.declared.silence.Silence.{Silence}
use Rattle.amr_rules.specs.SilencePeriods.{periods_among, unexpired_of}

-- what isn't expired at a moment wasn't before
pub periods_later : (from earlier : Moment) (labels : LabelSet) → earlier ≤ from → (stored : List (ℕ × Silence))
    → periods_among from labels (unexpired_of earlier stored) ≡ periods_among from labels stored
periods_later from earlier labels le [] = refl
periods_later from earlier labels le (s ∷ rest) = grind (arith, nat_tests, periods_later from earlier labels le rest)
