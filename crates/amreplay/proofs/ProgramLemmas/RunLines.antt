-- The lines of a run, event by event.
use Rattle.std.proofs.Common.{◌≡◌, ℕ, ◌+◌, List, [], ◌∷◌, ◌++◌, length, take, Option, Some, Result, Ok, Err, refl, sym, ap, ◌∙◌, append_assoc, append-nil, subst, drop, take-append-drop, length-take, arith}
use Rattle.std.proofs.lemmas.Option.{slice_get_within}
use Rattle.std.specs.List.{slice_get}
use Rattle.std.specs.Io.KnownBytes.{Appends, Keeps}
use Rattle.std.proofs.KnownBytes.{Appends-trans, Appends-kept}
use Rattle.amr_labels.specs.Labels.{Text}
use Rattle.amr_config.specs.Stated.Config.{Config}
use Rattle.amr_events.specs.Actions.Events.{Event}
use Rattle.amr_engine.specs.State.State.{State, start}
use Rattle.amr_engine.specs.Events.{Outcome, outcome_of, after_event, after_events, run_of}
use Rattle.amr_replay.proofs.Positions.{front}
use Rattle.amreplay.specs.Lines.Printed.{event_lines}
use Rattle.amreplay.specs.Program.Runs.{lines_from, run_lines, Leaves, RunLeaves}
use Rattle.amreplay.specs.Lines.CheckedWriter.{AppendsBeginning}
use Rattle.amreplay.specs.declared.fault.Fault.{Fault}
use Rattle.amreplay.specs.declared.fault.Fault.TheVariants.{CannotWrite, Memory}
use Rattle.amreplay.proofs.LinesLemmas.Parts.{AppendsBeginning-after, AppendsBeginning-all, AppendsBeginning-kept}

lines_from-append : (n m : ℕ) (s : State) (events more : List Event) → m ≡ n + length events
    → lines_from n s (events ++ more) ≡ lines_from n s events ++ lines_from m (after_events s events) more
lines_from-append n m s [] more counted = ap (λ k. lines_from k s more) (omega (arith, counted))
lines_from-append n m s (event ∷ events) more counted =
    ap (λ l. event_lines n event (outcome_of s event) ++ l) (lines_from-append (n + 1) m (after_event s event) events more (omega (arith, counted)))
    ∙ sym (append_assoc (event_lines n event (outcome_of s event)) (lines_from (n + 1) (after_event s event) events) _)

-- the lines of the first events are a prefix of all
run_lines-split : (config : Config) (events : List Event) (k : ℕ) → (rest : Text) × (run_lines config events ≡ run_lines config (take k events) ++ rest)
unfolding run_lines
run_lines-split config events k = (
  lines_from (1 + length (take k events)) (after_events (start config) (take k events)) (drop k events),
  ap (lines_from 1 (start config)) (sym (take-append-drop k events)) ∙ lines_from-append 1 _ (start config) (take k events) (drop k events) refl,
)

module _ (a b c : Option Text) (config : Config) (events : List Event) (k : ℕ) (event : Event) (outcome : Outcome)
    (found : slice_get events k ≡ Some event) (is : outcome ≡ outcome_of (run_of config (take k events)) event)
    (before : Appends a b (run_lines config (take k events))) where
  next_lines : run_lines config (take (k + 1) events) ≡ run_lines config (take k events) ++ event_lines (k + 1) event outcome
  unfolding run_lines
  next_lines =
      let counted : k + 1 ≡ 1 + length (take k events) = omega (arith, length-take k events, slice_get_within events k event found) in
      ap (lines_from 1 (start config)) (front events k event found)
      ∙ lines_from-append 1 (k + 1) (start config) (take k events) (event ∷ []) counted
      ∙ ap (λ l. lines_from 1 (start config) (take k events) ++ l) (append-nil (event_lines (k + 1) event (outcome_of (run_of config (take k events)) event)))
      ∙ ap (λ o. lines_from 1 (start config) (take k events) ++ event_lines (k + 1) event o) (sym is)

  -- the lines of one more event are written
  pub Appends-next : Appends b c (event_lines (k + 1) event outcome) → Appends a c (run_lines config (take (k + 1) events))
  Appends-next written = subst (Appends a c) (sym next_lines) (Appends-trans a b c _ _ before written)

  -- the run stops at an event
  pub RunLeaves-event : (fault : Fault) → Leaves b c (event_lines (k + 1) event outcome) (Err fault) → RunLeaves a c config events (Err fault)
  RunLeaves-event CannotWrite left =
      let (rest, all) = run_lines-split config events (k + 1) in
      AppendsBeginning-after a b c _ _ rest _ before left (all ∙ ap (λ l. l ++ rest) next_lines ∙ append_assoc (run_lines config (take k events)) _ rest)
  RunLeaves-event Memory left = (k, subst (Appends a c) (append-nil (run_lines config (take k events))) (Appends-trans a b c _ _ before left))
  RunLeaves-event fault left = absurd left

-- the writer can't be flushed
pub RunLeaves-unflushed : (a b c : Option Text) (config : Config) (events : List Event) (ended : Result (Unit {0}) Fault)
    → RunLeaves a b config events ended → Keeps b c → AppendsBeginning a c (run_lines config events)
RunLeaves-unflushed a b c config events (Ok u) left kept = AppendsBeginning-all a c _ (Appends-kept a b c _ left kept)
RunLeaves-unflushed a b c config events (Err CannotWrite) left kept = AppendsBeginning-kept a b c _ left kept
RunLeaves-unflushed a b c config events (Err Memory) left kept =
    let split = run_lines-split config events left.0 in
    record { written = run_lines config (take left.0 events); unwritten = split.0; parts = split.1; appended = Appends-kept a b c _ left.1 kept }
RunLeaves-unflushed a b c config events (Err fault) left kept = absurd left
