-- Commands that pass events: their lines, one after another, and the cursor after them.
use Rattle.std.proofs.Common.{◌≡◌, ℕ, zero, suc, ◌+◌, ◌<◌, ◌≤◌, List, [], ◌∷◌, ◌++◌, length, take, drop, map, get_or, Some, slice_get, refl, sym, ap, ◌∙◌, arith, append_assoc, append-nil, length-drop, add-one, String, string_bytes}
use Rattle.std.specs.declared.alloc.Global.{Global}
use Rattle.std.proofs.lemmas.List.{get_or-drop, length-map, length-take, drop_all}
use Rattle.std.proofs.lemmas.Option.{slice_get_within, get_or_from_slice_get, slice_get_read}
use Rattle.amreplay.specs.Lines.Printed.{event_lines}
use Rattle.amreplay.specs.Lines.LastLines.{moves_line}
use Rattle.amreplay.specs.declared.lines.word.Word.{Word}
use Rattle.amr_config.specs.Stated.Config.{Config}
use Rattle.amr_events.specs.Actions.Events.{Event}
use Rattle.amr_engine.specs.State.State.{State}
use Rattle.amr_engine.specs.Events.{outcome_of, after_event}
use Rattle.amr_engine.specs.declared.outcome.Outcome as code
use Rattle.amr_engine.specs.Outcomes.{outcome_view}
use Rattle.amr_replay.specs.Session.{View, at_cursor, state_at, outcomes_of, outcomes_passed}
use Rattle.amr_replay.proofs.Passed.{told_more}
use Rattle.amr_replay.proofs.Positions.{item}
use Rattle.amreplay.specs.Commands.Replies.{Incident, Reply, numbered_lines, passing_text, reply_to_move}
use Rattle.amreplay.specs.Commands.Answer.{left}
use Rattle.amreplay.specs.declared.commands.answer.Answer.TheVariants.{Built, SoughtBack}

-- there are no lines without outcomes
pub numbered_none : (n : ℕ) (es : List Event) → numbered_lines n es [] ≡ []
numbered_none n [] = refl
numbered_none n (e ∷ es) = refl

-- one more line
numbered_step : (n i m : ℕ) (es : List Event) (os : List code.Outcome) (e : Event) (o : code.Outcome) → m ≡ n + i → slice_get es i ≡ Some e → slice_get os i ≡ Some o
    → numbered_lines n es (map outcome_view (take (suc i) os)) ≡ numbered_lines n es (map outcome_view (take i os)) ++ event_lines m e (outcome_view o)
numbered_step n zero m (d ∷ es) (p ∷ os) e o number at is =
    let same_event : d ≡ e = cc in
    let same_outcome : p ≡ o = cc in
    let same_number : n ≡ m = omega (arith, number) in
    ap (λ l. event_lines n d (outcome_view p) ++ l) (numbered_none (n + 1) es)
    ∙ append-nil (event_lines n d (outcome_view p))
    ∙ (λ k. event_lines (same_number k) (same_event k) (outcome_view (same_outcome k)))
numbered_step n (suc i) m (d ∷ es) (p ∷ os) e o number at is =
    ap (λ l. event_lines n d (outcome_view p) ++ l) (numbered_step (n + 1) i m es os e o (omega (arith, number)) at is)
    ∙ sym (append_assoc (event_lines n d (outcome_view p)) _ _)
numbered_step n i m [] os e o number at is = absurd (cc)
numbered_step n i m es [] e o number at is = absurd (cc)

pub numbered_more : (n i : ℕ) (es : List Event) (os : List code.Outcome) (e : Event) (o : code.Outcome) → i < length os → o ≡ get_or os i o → slice_get es i ≡ Some e
    → numbered_lines n es (map outcome_view (take (i + 1) os)) ≡ numbered_lines n es (map outcome_view (take i os)) ++ event_lines (n + i) e (outcome_view o)
numbered_more n i es os e o h is at = rw (add-one i) (numbered_step n i (n + i) es os e o refl at (slice_get_read os (length os) i o refl h is))

length-outcomes_of : (s : State) (es : List Event) → length (outcomes_of s es) ≡ length es
length-outcomes_of s [] = refl
length-outcomes_of s (e ∷ es) = omega (arith, length-outcomes_of (after_event s e) es)

-- no more events are passed than there are up to the position
pub passed_fit : (c : Config) (es : List Event) (n m : ℕ) (os : List code.Outcome) → map outcome_view os ≡ outcomes_passed c es n m → n < m → n + length os ≤ m
passed_fit c es n m os is before =
    omega (arith, length-map os outcome_view, ap length is, length-outcomes_of (state_at c es n) (drop n (take m es)), length-drop n (take m es), length-take m es)

-- backwards no event is passed
passed_none : (c : Config) (es : List Event) (n m : ℕ) → m ≤ n → outcomes_passed c es n m ≡ []
passed_none c es n m h = ap (outcomes_of (state_at c es n)) (drop_all n (take m es) (omega (arith, length-take m es)))

-- to the cursor or below it
pub moved_back : (i : Incident) (n to : ℕ) (word : Word) → to ≤ n → reply_to_move i n word to ≡ left to (SoughtBack word)
unfolding reply_to_move
moved_back i n to word h =
    ap (λ os. let r : Reply = record { cursor = to; text = passing_text i.events n word to os } in r) (passed_none i.config i.events n to h)
    ∙ ap (λ t. let r : Reply = record { cursor = to; text = t ++ moves_line word to 0 } in r) (numbered_none (n + 1) (drop n i.events))

-- the text of the events that were passed was built
pub moved_built : (i : Incident) (n to : ℕ) (word : Word) (os : List code.Outcome) (text : String Global) → map outcome_view os ≡ outcomes_passed i.config i.events n to
    → string_bytes text ≡ passing_text i.events n word to (map outcome_view os) → reply_to_move i n word to ≡ left to (Built text)
unfolding reply_to_move
moved_built i n to word os text is built =
    ap (λ os. let r : Reply = record { cursor = to; text = passing_text i.events n word to os } in r) (sym is)
    ∙ ap (λ t. let r : Reply = record { cursor = to; text = t } in r) (sym built)

one_passed : (c : Config) (es : List Event) (n : ℕ) (e : Event) (o : code.Outcome) → slice_get es n ≡ Some e → outcome_view o ≡ outcome_of (state_at c es n) e
    → map outcome_view (o ∷ []) ≡ outcomes_passed c es n (n + 1)
one_passed c es n e o at is =
    ap (λ os. outcome_view o ∷ os) (sym (passed_none c es (n + 1) (n + 1) (omega arith))) ∙ told_more c es n (n + 1) e [] o at (omega arith) is

-- a step passes one event
pub step_passes : (s t : View) (from : ℕ) (o : code.Outcome) → from ≡ s.cursor → s ≡ at_cursor s.config s.version s.events s.cursor → s.cursor < length s.events
    → ((e : Event) → slice_get s.events s.cursor ≡ Some e → outcome_view o ≡ outcome_of s.state e) → t ≡ at_cursor s.config s.version s.events (s.cursor + 1)
    → map outcome_view (o ∷ []) ≡ outcomes_passed t.config t.events from t.cursor
step_passes s t from o position view inside outcome new =
    let e = item s.events s.cursor inside in
    let state : s.state ≡ state_at s.config s.events s.cursor = ap (λ (v : View). v.state) view in
    let one = one_passed s.config s.events s.cursor e.0 o e.1 (outcome e.0 e.1 ∙ ap (λ st. outcome_of st e.0) state) in
    one ∙ ap (λ n. outcomes_passed s.config s.events n (s.cursor + 1)) (sym position) ∙ ap (λ (v : View). outcomes_passed v.config v.events from v.cursor) (sym new)

-- the event at a position, among those from n on
pub rest_item : (es : List Event) (n i : ℕ) (e : Event) → slice_get es (n + i) ≡ Some e → slice_get (drop n es) i ≡ Some e
rest_item es n i e at =
    let within : n + i < length es = slice_get_within es (n + i) e at in
    slice_get_read (drop n es) (length (drop n es)) i e refl (omega (arith, within, length-drop n es)) (sym (get_or-drop n es i e ∙ get_or_from_slice_get es (n + i) e e at))
