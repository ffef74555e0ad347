-- The outcome of an event and the state after it are what the relations say.
use Rattle.std.specs.Prelude.{◌≡◌, ◌<◌, ◌≤◌, List, [], Option, Some, None, Result, Ok, Err, length, nat_le}
use Rattle.std.proofs.Common.{refl, ap, subst, arith}
use Rattle.std.proofs.lemmas.List.{drop_all}
use Rattle.std.proofs.lemmas.Bool.{le-leb, lt-leb, cond-true, cond-false}
use Rattle.std.proofs.lemmas.Bool.Decides.{nat_tests}
use Rattle.amr_events.specs.Posts.Reasons.{Reason}
use Rattle.amr_events.specs.Actions.Events.{Event}
use Rattle.amr_engine.specs.State.State.{State}
use Rattle.amr_engine.specs.State.Dues.{Due, due_cmp_total, due_cmp-IsAntisymmetric, due_by, least_due, dues, next_due}
use Rattle.amr_engine.specs.Events.{Accepted, Refused, do_event, outcome_of, outcome_from, after_event, at_moment, move_limit}
use Rattle.amr_engine.specs.Said.{IsIn, IsLeast}
use Rattle.amr_engine.proofs.MovesLaws.{least_due-empty, least_due-IsLeast, Advances-ends, do_within-label, do_within-Does, Does-do_within}
use Rattle.amr_engine.proofs.Endings.{none_skipped}
use Rattle.amr_engine.proofs.RefusalLaws.{do_within-Refuses, Refuses-do_within}
use Rattle.amr_replay.specs.Laws.{IsDone, AcceptedIsDone, RefusedIsSaid, StateIsSaid, RefusedIsLeft, LabelsChangeNothing, NextIsLeast, NoneIsLater}

abbrev Done : Type 0
Done = Result (List Due × State) Reason

after_done : (s : State) (event : Event) (moves : List Due) (after : State) → do_event s event ≡ Ok (moves, after) → after_event s event ≡ after
unfolding after_event
after_done s event moves after e = ap (λ (r : Done). elim r [ Ok done ↦ done.1 | Err reason ↦ s ]) e

pub state_is_said : StateIsSaid
state_is_said s event moves after does = after_done s event moves after (Does-do_within move_limit s event moves after does)

pub refused_is_left : RefusedIsLeft
unfolding after_event
refused_is_left s event reason refuses = rw (Refuses-do_within move_limit s event reason refuses, after_event)

pub refused_is_said : RefusedIsSaid
unfolding outcome_of
refused_is_said s event reason = (
  λ e. do_within-Refuses move_limit s event reason (by (do_event s event) e),
  λ refuses. ap (outcome_from s event) (Refuses-do_within move_limit s event reason refuses),
)
  where
    by : (r : Done) → outcome_from s event r ≡ Refused reason → r ≡ Err reason
    by r e = grind arith

pub accepted_is_done : AcceptedIsDone
unfolding outcome_of
accepted_is_done s event count notes skipped = (
  λ e. by (do_event s event) refl e,
  λ d. cc (ap (outcome_from s event) (Does-do_within move_limit s event d.moves (after_event s event) d.does)),
)
  where
    by : (r : Done) → do_event s event ≡ r → outcome_from s event r ≡ Accepted count notes skipped → IsDone s event count notes skipped
    by (Ok (moves, after)) is e =
        record {
          moves = moves;
          does = rw (after_done s event moves after is) (do_within-Does move_limit s event moves after is);
          count_is = cc;
          notes_are = cc (after_done s event moves after is);
          skipped_are = cc;
        }
    by (Err other) is e = absurd (cc)

pub labels_change_nothing : LabelsChangeNothing
unfolding outcome_of
labels_change_nothing s event label =
    let is : do_event s event ≡ Ok ([], s) = do_within-label move_limit s event label in
    (cc (ap (outcome_from s event) is, drop_all (length s.notes) s.notes (omega arith), none_skipped (at_moment event.at s) event.act label), after_done s event [] s is)

one_least : (a b : Due) (list : List Due) → IsLeast a list → IsLeast b list → a ≡ b
one_least a b list h k =
    due_cmp-IsAntisymmetric a b (grind (arith, due_cmp_total.antisymm a b, h.before_all b k.among, k.before_all a h.among))

pub next_is_least : NextIsLeast
unfolding next_due
next_is_least at s due = (λ e. let (least, within) = to (least_due (dues s)) e in (least_due-IsLeast (dues s) due least, within), from (least_due (dues s)) refl)
  where
    to : (o : Option Due) → due_by at o ≡ Some due → (o ≡ Some due) × (due.moment ≤ at)
    to o e = (grind (arith, nat_tests), grind (arith, nat_tests))

    from : (o : Option Due) → least_due (dues s) ≡ o → IsLeast due (dues s) × (due.moment ≤ at) → due_by at o ≡ Some due
    from None is h = absurd (subst (IsIn due) (least_due-empty (dues s) is) (h.0.among))
    from (Some least) is h = rw (← one_least due least (dues s) h.0 (least_due-IsLeast (dues s) least is)) (cond-true (nat_le due.moment at) (Some due) None (le-leb due.moment at h.1))

pub none_is_later : NoneIsLater
unfolding next_due
none_is_later at s = (λ e. Advances-ends at s [] s (e, refl), from (least_due (dues s)) refl)
  where
    from : (o : Option Due) → least_due (dues s) ≡ o → ((due : Due) → IsIn due (dues s) → at < due.moment) → due_by at o ≡ None
    from None is later = refl
    from (Some least) is later = cond-false (nat_le least.moment at) (Some least) None (lt-leb least.moment at (later least ((least_due-IsLeast (dues s) least is).among)))
