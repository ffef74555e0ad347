-- The outcome of an event, case by case.
use Rattle.std.proofs.Common.{if◌then◌else◌, nat_lt, [], ◌≡◌, true, false, ℕ, List, Option, None, Some, Ok, Err, length, drop, refl, ap, subst, ◌∙◌, arith}
use Rattle.amr_time.specs.Time.{Moment}
use Rattle.amr_events.specs.Posts.Reasons.{Reason, reason_number}
use Rattle.amr_events.specs.Actions.Events.{Event, Act, is_label}
use Rattle.amr_events.specs.Actions.Acts.{event_at}
use Rattle.amr_engine.specs.State.State.{State}
use Rattle.amr_engine.specs.State.Dues.{Due, next_due}
use Rattle.amr_engine.specs.Moves.{move, advance}
use Rattle.amr_engine.specs.Events.{do_event, after_event, outcome_of, skipped_of, judge, finish, after_act, at_moment, move_limit}
use Rattle.amr_engine.specs.Outcomes.{acceptance, refusal}
use Rattle.amr_engine.specs.Applied.{ComesTo, run_moved}
use Rattle.amr_engine.specs.Prepared.{IsPrepared, DoesAsPrepared, Stays, after_prepared, skipped_by}
use Rattle.amr_engine.specs.declared.prepare.Prepared as prepare
use Rattle.amr_events.specs.declared.posts.reason.Reason as code
use Rattle.amr_engine.proofs.RunsLaws.{run_within-sound}
use Rattle.amr_engine.proofs.MovesLaws.{do_within-act, do_within-label}
use Rattle.amr_engine.proofs.TickLaws.{advances_keep}

-- a refused event doesn't change the state
pub is_refused : (s : State) (event : Event) (reason : Reason) → do_event s event ≡ Err reason → ComesTo s event s (refusal reason)
unfolding after_event outcome_of
is_refused s event reason e = grind arith

-- an accepted event
pub is_accepted : (s : State) (event : Event) (moves : List Due) (end : State) (count : ℕ) (skipped : List ℕ)
    → do_event s event ≡ Ok (moves, end) → count ≡ length moves → skipped ≡ skipped_of (at_moment event.at s) event.act
    → ComesTo s event end (acceptance count (drop (length s.notes) end.notes) skipped)
unfolding after_event outcome_of
is_accepted s event moves end count skipped e counted left = grind arith

-- the event is before the clock
pub past : (s : State) (event : Event) → is_label event.act ≡ false → nat_lt event.at s.moment ≡ true → do_event s event ≡ Err 20
past s event no_label h = do_within-act move_limit s event no_label ∙ ap (λ b. if b then Err 20 else judge move_limit s event (after_act (at_moment event.at s) event.act)) h

pub not_past : (s : State) (event : Event) → is_label event.act ≡ false → nat_lt event.at s.moment ≡ false → do_event s event ≡ judge move_limit s event (after_act (at_moment event.at s) event.act)
not_past s event no_label h = do_within-act move_limit s event no_label ∙ ap (λ b. if b then Err 20 else judge move_limit s event (after_act (at_moment event.at s) event.act)) h

-- the moves of a run, if it ends within the limit
pub none_run : (at : Moment) (o : Option (List Due × State)) → None ≡ run_moved at o → o ≡ None
none_run at o e = grind arith

pub record Ran (at : Moment) (run : Option (List Due × State)) (count : ℕ) (next : State) : Type 0 where
  pub moves : List Due
  pub moved : State
  pub ran : run ≡ Some (moves, moved)
  pub counted : count ≡ length moves
  pub ends : next ≡ at_moment at moved

pub some_run : (at : Moment) (o : Option (List Due × State)) (count : ℕ) (next : State) → Some (count, next) ≡ run_moved at o → Ran at o count next
some_run at None count next e = absurd (cc)
some_run at (Some r) count next e =
    let parts : ◌≡◌ {A = ℕ × State} (count, next) (length r.0, at_moment at r.1) = cc in
    record { moves = r.0; moved = r.1; ran = refl; counted = ap (λ (p : ℕ × State). p.0) parts; ends = ap (λ (p : ℕ × State). p.1) parts }

-- what the moves leave as it is
pub stays : (s : State) (at : Moment) (count : ℕ) (next : State) → Some (count, next) ≡ run_moved at (advance move_limit at s) → Stays s at next
stays s at count next ran =
    let r = some_run at (advance move_limit at s) count next ran in
    let kept = advances_keep at r.moves s r.moved (run_within-sound (next_due at) move move_limit s r.moves r.moved r.ran).0 in
    grind (arith, kept, r.ends)

module _ (s : State) (event : Event) (at : Moment) (act : Act) (at_is : at ≡ event.at) (act_is : act ≡ event.act) (no_label : is_label act ≡ false) (h : nat_lt at s.moment ≡ false) where
  the_event : event_at at act ≡ event
  the_event = λ i. event_at (at_is i) (act_is i)

  -- the action has its own reason against it
  pub refused_by_act : (reason : code.Reason) → IsPrepared s at act (Err reason) → ComesTo s event s (refusal (reason_number reason))
  unfolding the_event
  refused_by_act reason own =
      subst (λ (e : Event). ComesTo s e s (refusal (reason_number reason))) the_event
      (is_refused s (event_at at act) (reason_number reason) (not_past s (event_at at act) no_label h ∙ ap (judge move_limit s (event_at at act)) own))

  -- it has none
  judged : (prepared : prepare.Prepared) → DoesAsPrepared s at act prepared → do_event s (event_at at act) ≡ finish (event_at at act) (advance move_limit at s)
  judged prepared does = not_past s (event_at at act) no_label h ∙ ap (judge move_limit s (event_at at act)) (does.does (at_moment at s) (record { silences = refl; config = refl; moment = refl }))

  -- too many moves are due
  pub refused_by_moves : (prepared : prepare.Prepared) → DoesAsPrepared s at act prepared → None ≡ run_moved at (advance move_limit at s) → ComesTo s event s (refusal 21)
  refused_by_moves prepared does over =
      subst (λ (e : Event). ComesTo s e s (refusal 21)) the_event
      (is_refused s (event_at at act) 21 (judged prepared does ∙ ap (finish (event_at at act)) (none_run at (advance move_limit at s) over)))

  -- the action is done after the moves
  pub done_after_moves : (prepared : prepare.Prepared) (count : ℕ) (next done : State) (skipped : List ℕ) → DoesAsPrepared s at act prepared → Some (count, next) ≡ run_moved at (advance move_limit at s)
      → done ≡ after_prepared prepared next → skipped ≡ skipped_by prepared next → ComesTo s event done (acceptance count (drop (length s.notes) done.notes) skipped)
  done_after_moves prepared count next done skipped does ran acted left =
      let r = some_run at (advance move_limit at s) count next ran in
      let kept = stays s at count next ran in
      let event_done : do_event s (event_at at act) ≡ Ok (r.moves, done) = grind (arith, judged prepared does, r.ran, r.ends, does.does next kept) in
      subst (λ (e : Event). ComesTo s e done (acceptance count (drop (length s.notes) done.notes) skipped)) the_event
      (is_accepted s (event_at at act) r.moves done count skipped event_done r.counted (left ∙ does.skips next kept))

-- an event before the clock
pub past_refused : (s : State) (event : Event) → is_label event.act ≡ false → nat_lt event.at s.moment ≡ true → ComesTo s event s (refusal 20)
past_refused s event no_label h = is_refused s event 20 (past s event no_label h)

-- no alert is skipped at a label
pub none_skipped : (s : State) (act : Act) → is_label act ≡ true → [] ≡ skipped_of s act
none_skipped s act h = grind arith

-- a label
pub label_accepted : (s : State) (event : Event) (skipped : List ℕ) → is_label event.act ≡ true → skipped ≡ [] → ComesTo s event s (acceptance 0 (drop (length s.notes) s.notes) skipped)
label_accepted s event skipped h none = is_accepted s event [] s 0 skipped (do_within-label move_limit s event h) refl (none ∙ none_skipped (at_moment event.at s) event.act h)
