-- A script with a fault has no other, and can't be read.
use Rattle.std.proofs.Common.{◌≡◌, ◌+◌, ◌<◌, ◌≤◌, ◌||◌, true, false, List, [], ◌∷◌, ◌++◌, length, Option, Some, None, Ok, Err, refl, sym, ap, ◌∙◌, arith, append_assoc, append-nil}
use Rattle.std.specs.Prelude.{is_none, nat_lt, nat_le, if◌then◌else◌}
use Rattle.std.specs.List.{AllZip}
use Rattle.std.specs.Option.{option_or}
use Rattle.std.proofs.lemmas.Bool.{or_parts}
use Rattle.std.proofs.lemmas.Bool.Decides.{nat_tests}
use Rattle.std.proofs.lemmas.List.{drop_at}
use Rattle.std.proofs.lemmas.List.Elements.{All-head, All-drop}
use Rattle.std.proofs.lemmas.Slice.Zip.{AllZip-long}
use Rattle.serde_json.specs.Data.{Data}
use Rattle.amr_events.specs.Actions.Events.{Act, Event}
use Rattle.amr_events.specs.Actions.Events as events
use Rattle.amr_events.specs.Lines.{act_in, event_in, event_of_line}
use Rattle.amr_events.specs.Refused.{ActIs, LineIs}
use Rattle.amr_events.specs.Scripts.{is_blank, longest_line, most_events, full_lines, version_of, event_lines, is_header_after, Script, ReadAs, HasFault, HasFirstFault, lines_of}
use Rattle.amr_events.specs.ScriptLaws.{AFaultIsTheOnlyAnswer}
use Rattle.amr_events.specs.declared.version.Version.{Version}
use Rattle.amr_events.specs.declared.error.Fault.{Fault}
use Rattle.amr_events.specs.declared.error.Fault.TheVariants.{BadLine, LineTooLong, TooManyEvents}
use Rattle.amr_events.proofs.LineSteps.{Line, IsShort, full_after, goes_on}

-- ---- a line that reads as an event isn't bad

act_stated : (version : Version) (d : Data) (act : Act) → ActIs version d act → (stated : Act) × (act_in version d ≡ Some stated)
act_stated version d (events.Act.Post alerts) is = (events.Act.Post alerts, is)
act_stated version d (events.Act.Silence silence) (stated, is, so) = (events.Act.Silence stated, is)
act_stated version d (events.Act.Expire id) is = (events.Act.Expire id, is)
act_stated version d (events.Act.Reload read) (config, found, is, so) = (_, is)
act_stated version d events.Act.Tick is = (events.Act.Tick, is)
act_stated version d (events.Act.Label text) is = (events.Act.Label text, is)

is_event : (version : Version) (line : Line) (event : Event) → LineIs version line event → is_none (event_of_line version line) ≡ false
unfolding event_of_line event_in
is_event version line event is =
    let act = act_stated version is.stated event.act is.reads.act in
    rw (is.json, is.reads.at, act.1) refl

-- ---- the first fault, by one walk

-- the fault of the line after these, if they are read as a script
fault_at : List Line → Line → Option Fault
fault_at before line =
    if nat_lt longest_line (length line) then Some (LineTooLong (length before + 1))
    else if is_blank line || is_header_after before line then None
    else if nat_le most_events (length (event_lines before)) then Some TooManyEvents
    else if is_none (event_of_line (version_of (full_lines before)) line) then Some (BadLine (length before + 1))
    else None

fault_is : (before : List Line) (line : Line) (script : Script) (fault : Fault) → ReadAs before script
    → HasFault (length before + 1) (is_header_after before line) line script fault → fault_at before line ≡ Some fault
unfolding fault_at
fault_is before line script (LineTooLong m) reads has = grind (arith, nat_tests)
fault_is before line script TooManyEvents reads has =
    let count = AllZip-long (LineIs script.version) (event_lines before) script.events reads.read in
    grind (arith, nat_tests)
fault_is before line script (BadLine m) reads has =
    let count = AllZip-long (LineIs script.version) (event_lines before) script.events reads.read in
    let version = reads.version in
    grind (arith, nat_tests)

-- an item of the one list has one of the other
paired : {A B : Type 0} (R : A → B → Type 0) (xs : List A) (x : A) (rest : List A) (ys : List B) → AllZip R (xs ++ x ∷ rest) ys
    → (length xs < length ys) × (y : B) × R x y
paired R [] x rest [] all = absurd all
paired R [] x rest (y ∷ ys) all = (omega arith, y, all.0)
paired R (w ∷ xs) x rest [] all = absurd all
paired R (w ∷ xs) x rest (y ∷ ys) all = let later = paired R xs x rest ys all.1 in (omega (arith, later.0), later.1, later.2)

-- the line after these holds an event
event_there : (before : List Line) (line : Line) (after : List Line) (script : Script) → ReadAs (before ++ line ∷ after) script → (is_blank line || is_header_after before line) ≡ false
    → (length (event_lines before) < length script.events) × (event : Event) × LineIs (version_of (full_lines before)) line event
event_there before line after script reads held =
    let parts = or_parts (is_blank line) (is_header_after before line) held in
    let full : full_lines (before ++ line ∷ after) ≡ full_lines before ++ line ∷ full_lines after = rw (full_after before line after, parts.0) refl in
    let on = goes_on (full_lines before) line (full_lines after) parts.1 in
    let version = rw (full, on.0) at reads.version in
    paired (LineIs (version_of (full_lines before))) (event_lines before) line (full_lines after) script.events (rw (full, on.1, version) at reads.read)

none_at : (before : List Line) (line : Line) (after : List Line) (script : Script) → ReadAs (before ++ line ∷ after) script → fault_at before line ≡ None
unfolding fault_at
none_at before line after script reads =
    let short : length line ≤ longest_line = All-head IsShort line after (rw (drop_at before (line ∷ after) (length before) refl) at (All-drop IsShort (length before) (before ++ line ∷ after) reads.short)) in
    let few = reads.few in
    elim (is_blank line || is_header_after before line) as (λ b. (is_blank line || is_header_after before line) ≡ b → fault_at before line ≡ None) [
      | true ↦ λ held. grind (arith, nat_tests)
      | false ↦ λ held.
          let there = event_there before line after script reads held in
          grind (arith, nat_tests, is_event (version_of (full_lines before)) line there.1 there.2)
    ] refl

-- from some line on, after others
walk : List Line → List Line → Option Fault
walk done [] = None
walk done (line ∷ lines) = option_or (fault_at done line) (walk (done ++ line ∷ []) lines)

reads_on : (done before after : List Line) (script : Script) → ReadAs (done ++ before) script → walk done (before ++ after) ≡ walk (done ++ before) after
unfolding walk
reads_on done [] after script reads = ap (λ lines. walk lines after) (sym (append-nil done))
reads_on done (line ∷ before) after script reads =
    rw (none_at done line before script reads)
    (reads_on (done ++ line ∷ []) before after script (rw append_assoc reads) ∙ ap (λ lines. walk lines after) (append_assoc done (line ∷ []) before))

stopped : (lines : List Line) (fault : Fault) → HasFirstFault lines fault → walk [] lines ≡ Some fault
unfolding walk
stopped lines fault first =
    rw first.parts
    (reads_on [] first.before (first.line ∷ first.after) first.script first.read
    ∙ rw (fault_is first.before first.line first.script fault first.read first.here) refl)

pub a_fault_is_the_only_answer : AFaultIsTheOnlyAnswer
unfolding walk
a_fault_is_the_only_answer bytes fault (Ok script) first reads =
    let all = ap (walk []) (append-nil (lines_of bytes)) in
    cc (stopped (lines_of bytes) fault first, reads_on [] (lines_of bytes) [] script reads)
a_fault_is_the_only_answer bytes fault (Err other) first second = cc (stopped (lines_of bytes) fault first, stopped (lines_of bytes) other second)
