use Rattle.std.proofs.Common.{◌≡◌, ℕ, ◌-◌, List, [], ◌++◌, rules, length, take, drop, sym, ap, ◌∙◌, subst, append_assoc, append-nil, take-append-drop, drop_of_length-le}
use Rattle.std.proofs.lemmas.List.{take_rest}
use Rattle.std.specs.Io.KnownBytes.{Appends}
use Rattle.std.proofs.KnownBytes.{Appends-trans, Appends-kept}
use Rattle.std.proofs.lemmas.Result.{MatchResult-from_err}
use Rattle.amreplay.proofs.lines.checked_writer.write_whole.Goals as goal

moves_front : (all done rest : List ℕ) (n : ℕ) → all ≡ done ++ rest → all ≡ (done ++ take n rest) ++ take (length rest - n) (drop n rest)
moves_front all done rest n e =
    e ∙ ap (λ l. done ++ l) (sym (take-append-drop n rest)) ∙ sym (append_assoc done (take n rest) (drop n rest)) ∙ ap (λ l. (done ++ take n rest) ++ l) (sym (take_rest rest n))

pub loop-rest-preserved : goal.loop-rest-preserved
loop-rest-preserved g c =
    let (done, split, appended) = c.loop-rest.invariant.written in
    let rest = c.loop-rest.rest.now in
    let n = c.in_ok-taken.taken in
    record {
      written = (done ++ take n rest, moves_front _ done rest n split, Appends-trans _ _ _ _ _ appended c.in_ok-taken.ensures.bytes);
      failed = c.in_ok-taken.ensures.failed ∙ c.loop-rest.invariant.failed;
    }

pub returns-in_err-taken-clause-written : goal.returns-in_err-taken-clause-written
returns-in_err-taken-clause-written g c =
    let (done, split, appended) = c.loop-rest.invariant.written in
    MatchResult-from_err c.from_residual.result _ _ c.from_residual.ensures.0
    (λ _. record { written = done; unwritten = c.loop-rest.rest.now; parts = split; appended = Appends-kept _ _ _ _ appended c.in_err-taken.ensures.bytes })

pub returns-clause-written : goal.returns-clause-written
returns-clause-written g c =
    let (done, split, appended) = c.loop-rest.invariant.written in
    let rest = c.loop-rest.rest.now in
    let empty : rest ≡ [] = drop_of_length-le rest {i = 0} (search rules) in
    subst (Appends _ _) (sym (split ∙ ap (λ l. done ++ l) empty ∙ append-nil done)) appended
