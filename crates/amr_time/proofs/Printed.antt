-- The text of a moment is ASCII.
use Rattle.std.proofs.Common.{ℕ, ◌%◌, ◌<◌, Bool, true, false, eqb, cond, List, [], ◌∷◌, ◌++◌, arith, IsUtf8, IsAscii}
use Rattle.std.proofs.lemmas.Str.{IsUtf8-from_ascii}
use Rattle.std.proofs.lemmas.Str.Ascii.{IsAscii-nil, IsAscii-cons}
use Rattle.std.specs.List.{AllByRecursion}
use Rattle.amr_time.specs.Time.{second}
use Rattle.amr_time.specs.MomentText.{digit, nine_digits, fraction_text, moment_text}

are_ascii : (bs : List ℕ) → AllByRecursion (λ b. b < 128) bs → IsAscii bs
are_ascii [] h = IsAscii-nil
are_ascii (b ∷ bs) h = IsAscii-cons b bs h.0 (are_ascii bs h.1)

low : (n : ℕ) → digit n < 128
low n = omega arith

-- the fraction, if there is one, and the mark of UTC
end_is_low : (n : ℕ) (zero : Bool) → AllByRecursion (λ b. b < 128) (fraction_text (cond zero [] (nine_digits n)) ++ 90 ∷ [])
end_is_low n true = (omega arith, tt)
end_is_low n false =
    (omega arith, (low _, (low _, (low _, (low _, (low _, (low _, (low _, (low _, (low _, (omega arith, tt)))))))))))

pub utf8_moment : (m : ℕ) → IsUtf8 (moment_text m)
utf8_moment m =
    IsUtf8-from_ascii _ (are_ascii (moment_text m)
    (low _, (low _, (low _, (low _, (omega arith, (low _, (low _, (omega arith, (low _, (low _, (omega arith, (low _, (low _, (omega arith, (low _, (low _, (omega arith, (low _, (low _, end_is_low (m % second) (eqb (m % second) 0)))))))))))))))))))))
