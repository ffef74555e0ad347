use Rattle.std.proofs.Common.{◌≡◌, ℕ, ◌+◌, ◌<◌, List, [], ◌∷◌, ◌++◌, ◌∙◌, length, take, drop, get_or, ap, sym, append_assoc, take-append-drop, arith}
use Rattle.std.proofs.lemmas.List.{take_more}
use Rattle.std.proofs.lemmas.Result.{MatchResult-from_err}
use Rattle.std.proofs.lemmas.Grind.{common_steps}
use Rattle.amreplay.proofs.CommandsLemmas.Talks.{StopsInside-more}
use Rattle.amreplay.proofs.commands.input.take_bytes.Goals as goal

one_more : (before all : List ℕ) (i : ℕ) → i < length all → (before ++ take i all) ++ get_or all i 0 ∷ [] ≡ before ++ take (i + 1) all
one_more before all i h = append_assoc before (take i all) _ ∙ ap (λ l. before ++ l) (sym (take_more all i 0 h))

pub returns-in_err-take_byte-clause-heard : goal.returns-in_err-take_byte-clause-heard
returns-in_err-take_byte-clause-heard g c = λ start before rest t h.
    let all = c.args.bytes.now in
    let i = c.loop-b.b-index in
    let (rest', t', holds) = c.loop-b.invariant.stands start before rest t h in
    let stops = (rw c.loop-b.invariant.kept at c.in_err-take_byte.ensures.heard) start (before ++ take i all) rest' t' holds in
    let bytes = ap (λ l. l ++ drop (i + 1) all) (one_more before all i c.loop-b-test.true) ∙ append_assoc before _ _ ∙ ap (λ l. before ++ l) (take-append-drop (i + 1) all) in
    MatchResult-from_err c.from_residual.result _ _ c.from_residual.ensures.0
    (λ _. rw (← bytes) (StopsInside-more _ _ _ _ (drop (i + 1) all) stops))

pub loop-b-preserved : goal.loop-b-preserved
loop-b-preserved g c = record {
  kept = c.take_byte.ensures.kept ∙ c.loop-b.invariant.kept;
  stands = λ start before rest t h.
      let all = c.args.bytes.now in
      let i = c.loop-b.b-index in
      let (rest', t', holds) = c.loop-b.invariant.stands start before rest t h in
      let stands = (rw c.loop-b.invariant.kept at c.in_ok-take_byte.ensures.heard) start (before ++ take i all) rest' t' holds in
      rw (← one_more before all i c.loop-b-test.true) stands;
  failed = c.in_ok-take_byte.ensures.failed ∙ c.loop-b.invariant.failed;
}

pub returns-clause-heard : goal.returns-clause-heard
returns-clause-heard g c = λ start before rest t h.
    let all : take c.loop-b.b-index c.args.bytes.now ≡ c.args.bytes.now = grind (arith, common_steps) in
    rw all at (c.loop-b.invariant.stands start before rest t h)
