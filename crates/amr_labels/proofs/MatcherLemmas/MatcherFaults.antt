-- From each state some text leads to an end, so what the machine has read is the beginning of a
-- matcher text; if it stops, no text goes on from there.
use Rattle.std.proofs.Common.{arith, suc, ◌≡◌, ℕ, ◌+◌, ◌<◌, List, [], ◌∷◌, ◌++◌, length, take, drop, get_or, Bool, true, false, Some, None, sym, ap, subst, ◌∙◌, IsSome, encode_utf8_all, option_and_then, append-nil, take-append-drop}
use Rattle.std.proofs.Math.Seq.{split_at}
use Rattle.regex_hir.proofs.OptionLemmas.{value_of_IsSome}
use Rattle.amr_labels.specs.declared.matcher.Operator.{Operator}
use Rattle.amr_labels.specs.declared.matcher.matcher_steps.Mode.{Mode}
use Rattle.amr_labels.specs.declared.matcher.matcher_steps.Mode.TheVariants.{Start, Opened, NameLiteral, NameOpened, NameQuoted, NameEscape, AfterName, AfterBang, ValueQuoted, ValueEscape, Closed}
use Rattle.amr_labels.specs.Labels.{Text}
use Rattle.amr_labels.specs.Matcher.Matchers.{Matcher}
use Rattle.amr_labels.specs.Matcher.MatcherText.{Begins, IsLongest}
use Rattle.amr_labels.specs.Matcher.MatcherReading.{Reading, kind_of, begins_matcher, after_name, ends_value, begins_value, in_name, in_value, after_bang, after_equals, at_start, after_braces, step_from, with_part, next, run, start, ending, matchers_at_end, matchers_of_chars}
use Rattle.amr_labels.proofs.MatcherLemmas.MatcherRuns.{run-append, run-none, run_more}
use Rattle.amr_labels.proofs.MatcherLemmas.MatcherSpelled.{spelled_are_read}
use Rattle.amr_labels.proofs.MatcherLemmas.MatcherRead.{chars_are_spelled}

abbrev closing : Bool → List ℕ
closing true = 125 ∷ []
closing false = []

-- what takes a reading to an end
abbrev completion : Bool → Mode → List ℕ
completion b Start = []
completion b Closed = []
completion b Opened = 125 ∷ []
completion b NameLiteral = 61 ∷ closing b
completion b NameOpened = 97 ∷ 34 ∷ 61 ∷ closing b
completion b NameQuoted = 34 ∷ 61 ∷ closing b
completion b NameEscape = 34 ∷ 34 ∷ 61 ∷ closing b
completion b AfterName = 61 ∷ closing b
completion b AfterBang = 61 ∷ closing b
completion b ValueQuoted = 34 ∷ closing b
completion b ValueEscape = 34 ∷ 34 ∷ closing b
completion b _ = closing b

ends : (b : Bool) (mode : Mode) (name : Text) (operator : Operator) (value : Text) (matchers : List Matcher) →
    IsSome (option_and_then matchers_at_end (run (Some (record { braced = b; mode = mode; name = name; operator = operator; value = value; matchers = matchers })) (completion b mode)))
unfolding kind_of begins_matcher after_name ends_value begins_value in_name in_value after_bang after_equals at_start after_braces step_from with_part ending
ends b mode n o v m = grind arith

begun : (front : List ℕ) (r : Reading) → run (Some start) front ≡ Some r → Begins front
begun front r h =
    let rest = completion r.braced r.mode in
    let some : IsSome (matchers_of_chars (front ++ rest)) =
    subst (λ o. IsSome (option_and_then matchers_at_end o)) (sym (run-append (Some start) front rest ∙ ap (λ o. run o rest) h)) (ends r.braced r.mode r.name r.operator r.value r.matchers) in
    let found = value_of_IsSome (matchers_of_chars (front ++ rest)) some in
    (rest, found.0, chars_are_spelled (front ++ rest) found.0 found.1)

-- if the machine stops, no text goes on
gone : (cs rest : List ℕ) → run (Some start) cs ≡ None → matchers_of_chars (cs ++ rest) ≡ None
gone cs rest h = ap (option_and_then matchers_at_end) (run-append (Some start) cs rest ∙ ap (λ o. run o rest) h ∙ run-none rest)

none_begins : (front : List ℕ) → run (Some start) front ≡ None → Begins front → ⊥
none_begins front h b = cc (gone front b.0 h, spelled_are_read (front ++ b.0) b.1 b.2)

-- the machine stops at the character c
pub stops : (cs : List ℕ) (n c at : ℕ) (r : Reading) → n < length cs → c ≡ get_or cs n c → run (Some start) (take n cs) ≡ Some r → next r c ≡ None → at ≡ length (encode_utf8_all (take n cs)) → (matchers_of_chars cs ≡ None) × IsLongest cs at
stops cs n c at r lt is h halts len =
    let stopped : run (Some start) (take (n + 1) cs) ≡ None = run_more cs n c r lt is h ∙ halts in
    let next_stopped : run (Some start) (take n cs ++ c ∷ []) ≡ None = run-append (Some start) (take n cs) (c ∷ []) ∙ ap (λ o. run o (c ∷ [])) h ∙ halts in (
      ap matchers_of_chars (sym (take-append-drop (n + 1) cs)) ∙ gone (take (n + 1) cs) (drop (n + 1) cs) stopped,
      (
        take n cs,
        c ∷ drop (suc n) cs,
        rw (sym is) at (split_at cs n c lt),
        len,
        begun (take n cs) r h,
        λ d more e b. let same : c ≡ d = cc in none_begins (take n cs ++ d ∷ []) (subst (λ x. run (Some start) (take n cs ++ x ∷ []) ≡ None) same next_stopped) b,
      ),
    )

-- the text ends in a state in which it can't
pub cut_short : (cs : List ℕ) (r : Reading) (at : ℕ) → run (Some start) cs ≡ Some r → matchers_at_end r ≡ None → at ≡ length (encode_utf8_all cs) → (matchers_of_chars cs ≡ None) × IsLongest cs at
cut_short cs r at h open_end len = (
  ap (option_and_then matchers_at_end) h ∙ open_end,
  (cs, [], sym (append-nil cs), len, begun cs r h, λ d more e b. absurd cc),
)
