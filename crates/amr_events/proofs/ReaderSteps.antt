-- The steps of a reader of scripts.
use Rattle.std.proofs.Common.{◌≡◌, ℕ, ◌+◌, ◌<◌, ◌≤◌, List, [], ◌∷◌, ◌++◌, length, Result, Ok, Err, OnOk, refl, arith, append_assoc, length-append}
use Rattle.std.proofs.lemmas.List.{length_push}
use Rattle.amr_events.specs.Answers.{IsStop, Stops, IsRefused}
use Rattle.amr_events.specs.Scripts.{lines_of, longest_line, Script, ReadAs, HasFault, ScriptIs}
use Rattle.amr_events.specs.Drafts.{so_far, begins_with, Adds}
use Rattle.amr_events.specs.ScriptReaders.{HasRead, Follows, IsRefusedAfter, IsOneLine}
use Rattle.amr_events.specs.declared.draft.Draft.{Draft}
use Rattle.amr_events.specs.declared.error.Fault.{Fault}
use Rattle.amr_events.specs.declared.error.Fault.TheVariants.{LineTooLong}
use Rattle.amr_events.specs.declared.error.ScriptError.{ScriptError}
use Rattle.amr_events.specs.declared.error.ScriptError.TheVariants.{Memory, Refused}
use Rattle.amr_events.specs.declared.script_reader.ScriptReader.{ScriptReader}
use Rattle.amr_events.proofs.LineSteps.{Line, reads_one_more, fails_first}
use Rattle.amr_events.proofs.LineEnds.{lines_in, join, ended_line}

pub stop_map : {P Q : Fault → Type 0} (e : ScriptError) → ((fault : Fault) → P fault → Q fault) → IsStop P e → IsStop Q e
stop_map Memory f stop = tt
stop_map (Refused fault) f stop = f fault stop

pub stops_map : {X : Type 0} {P Q : Fault → Type 0} (r : Result X ScriptError) → ((fault : Fault) → P fault → Q fault) → Stops P r → Stops Q r
stops_map (Ok x) f stops = tt
stops_map (Err e) f stops = stop_map e f stops

pub both_ok : {X E P Q S : Type 0} (r : Result X E) → (P → Q → S) → OnOk r P → OnOk r Q → OnOk r S
both_ok (Ok x) f p q = f p q
both_ok (Err e) f p q = tt

-- ---- one step after another

module _ (xs ys : List ℕ) (old between : ScriptReader) where
  pub follows_more : (new : ScriptReader) → Follows xs old between → Follows ys between new → Follows (xs ++ ys) old new
  follows_more new first then earlier has = rw append_assoc at (then (earlier ++ xs) (first earlier has))

  pub refused_later : (fault : Fault) → Follows xs old between → IsRefusedAfter ys between fault → IsRefusedAfter (xs ++ ys) old fault
  refused_later fault first then earlier has rest = rw (← append_assoc earlier xs ys) (then (earlier ++ xs) (first earlier has) rest)

pub refused_sooner : (xs ys : List ℕ) (old : ScriptReader) (fault : Fault) → IsRefusedAfter xs old fault → IsRefusedAfter (xs ++ ys) old fault
refused_sooner xs ys old fault first earlier has rest = rw (← append_assoc earlier xs ys, append_assoc (earlier ++ xs) ys rest) (first earlier has (ys ++ rest))

-- ---- the steps

pub none_read : (reader : ScriptReader) → ReadAs [] (so_far reader.draft) → reader.draft.number ≡ 1 → reader.unfinished.items ≡ [] → HasRead [] reader
none_read reader read number none = grind arith

module _ (part : List ℕ) (old : ScriptReader) (one : IsOneLine part) where
  pub kept : (new : ScriptReader) → new.draft ≡ old.draft → new.unfinished.items ≡ old.unfinished.items ++ part → length new.unfinished.items ≤ longest_line → Follows part old new
  kept new draft items short earlier has = grind (arith, join part part [] one earlier has.ended old.unfinished.items has.lines, has)

  pub too_long : longest_line < length old.unfinished.items + length part → IsRefusedAfter part old (LineTooLong old.draft.number)
  too_long long earlier has rest =
      let more = lines_in rest in
      let line = old.unfinished.items ++ part in
      let still : longest_line < length (line ++ more.0) = omega (arith, long, length-append old.unfinished.items part, length-append line more.0) in
      rw (join rest more.0 more.1 more.2 (earlier ++ part) has.ended line (join part part [] one earlier has.ended old.unfinished.items has.lines))
      (fails_first has.ended (line ++ more.0) more.1 old.draft.number (so_far old.draft) (LineTooLong old.draft.number) has.number has.read (refl, still))

  module _ (line : Line) (whole : line ≡ old.unfinished.items ++ part) where
    ended : (earlier : List ℕ) (has : HasRead earlier old) (rest : List ℕ) → lines_of (earlier ++ (part ++ 10 ∷ rest)) ≡ has.ended ++ line ∷ lines_of rest
    ended earlier has rest = rw whole (join (part ++ 10 ∷ rest) part (lines_of rest) (ended_line part rest one) earlier has.ended old.unfinished.items has.lines)

    pub line_ended : (new : ScriptReader) → Adds line (so_far old.draft) (so_far new.draft) → new.draft.number ≡ old.draft.number + 1 → new.unfinished.items ≡ [] → Follows (part ++ 10 ∷ []) old new
    line_ended new adds number none earlier has =
        let read = reads_one_more has.ended line (so_far old.draft) (so_far new.draft) has.read adds in
        grind (arith, has, ended earlier has [], append_assoc has.ended (line ∷ []) ([] ∷ []), length_push has.ended line)

    pub line_fails : (fault : Fault) → HasFault old.draft.number (begins_with (so_far old.draft) line) line (so_far old.draft) fault → IsRefusedAfter (part ++ 10 ∷ []) old fault
    line_fails fault fails earlier has rest =
        rw (append_assoc earlier (part ++ 10 ∷ []) rest, append_assoc part (10 ∷ []) rest, ended earlier has rest)
        (fails_first has.ended line (lines_of rest) old.draft.number (so_far old.draft) fault has.number has.read fails)

-- ---- the end

pub last_read : (bytes : List ℕ) (reader : ScriptReader) (new : Draft) (script : Script) → HasRead bytes reader → script ≡ so_far new → Adds reader.unfinished.items (so_far reader.draft) (so_far new) → ScriptIs bytes (Ok script)
last_read bytes reader new script has same adds =
    rw (has.lines, same) (reads_one_more has.ended reader.unfinished.items (so_far reader.draft) (so_far new) has.read adds)

pub stop_refuses : {Y : Type 0} {P : Fault → Type 0} (Is : Result Y Fault → Type 0) (e : ScriptError) → ((fault : Fault) → P fault → Is (Err fault)) → IsStop P e → IsRefused Is e
stop_refuses Is Memory f stop = tt
stop_refuses Is (Refused fault) f stop = f fault stop
