-- What is read of a file stands for all of it.
use Rattle.std.proofs.Common.{◌≡◌, ℕ, ◌<◌, true, List, [], ◌++◌, length, take, Option, Some, None, Result, sym, ap, ◌∙◌, subst, arith, append-nil, length-append}
use Rattle.std.specs.Prelude.{nat_lt}
use Rattle.std.specs.Io.KnownBytes.{Consumes, IsAtEnd}
use Rattle.std.proofs.lemmas.Bool.{lt-ltb}
use Rattle.amr_config.specs.Stated.Config as config
use Rattle.amr_config.specs.declared.read.error.Refusal.{Refusal}
use Rattle.amreplay.specs.Program.Files.{longest_config, ConfigFileIs}
use Rattle.amreplay.specs.Program.Input.{StandFor, MayHold}

too_long : (bytes more : List ℕ) (judged : Result config.Config Refusal) → longest_config < length bytes → ConfigFileIs bytes judged → ConfigFileIs (bytes ++ more) judged
unfolding ConfigFileIs
too_long bytes more judged long is =
    let short : nat_lt longest_config (length bytes) ≡ true = lt-ltb longest_config (length bytes) long in
    let all : longest_config < length (bytes ++ more) = omega (arith, long, length-append bytes more) in
    let longer : nat_lt longest_config (length (bytes ++ more)) ≡ true = lt-ltb longest_config (length (bytes ++ more)) all in
    rw longer (rw short at is)

-- what follows doesn't count
pub config_cut : (old new : Option (List ℕ)) (bytes : List ℕ) → Consumes old new bytes → longest_config < length bytes → StandFor ConfigFileIs old bytes
config_cut None new bytes consumed long = tt
config_cut (Some all) None bytes consumed long = absurd consumed
config_cut (Some all) (Some left) bytes consumed long = λ judged is. subst (λ l. ConfigFileIs l judged) (sym consumed) (too_long bytes left judged long is)

-- ---- a script

-- what was read before the end is all
pub read_to_end : (old between new : Option (List ℕ)) (bytes chunk : List ℕ) (n : ℕ) → n ≡ 0 → Consumes old between bytes → Consumes between new (take n chunk) → IsAtEnd new → MayHold old bytes
read_to_end None between new bytes chunk n none consumed more end = tt
read_to_end (Some all) None new bytes chunk n none consumed more end = absurd consumed
read_to_end (Some all) (Some left) None bytes chunk n none consumed more end = absurd more
read_to_end (Some all) (Some left) (Some rest) bytes chunk n none consumed more end =
    consumed ∙ ap (λ l. bytes ++ l) (more ∙ ap (λ m. take m chunk ++ rest) none ∙ end) ∙ append-nil bytes

-- what was read is the beginning of all
pub whole_of : (old new : Option (List ℕ)) (bytes : List ℕ) → Consumes old new bytes → (rest : List ℕ) × MayHold old (bytes ++ rest)
whole_of None new bytes consumed = ([], tt)
whole_of (Some all) None bytes consumed = absurd consumed
whole_of (Some all) (Some left) bytes consumed = (left, consumed)
