-- What holds at the start, and what moves, the clock and actions keep, holds after every run.
use Rattle.std.proofs.Common.{[], ◌≡◌, ℕ, false, List, ◌∷◌, ◌++◌, Some, Ok, ◌≤◌, nat_lt, Result, Err, fold, ltb-false, sym, subst, inl, inr, arith, refl}
use Rattle.amr_labels.specs.Labels.{LabelSet}
use Rattle.amr_time.specs.Time.{Moment}
use Rattle.amr_config.specs.Stated.Config.{Config}
use Rattle.amr_rules.specs.declared.alert.Alert.{Alert}
use Rattle.amr_rules.specs.Silences.{Silences, after_post, after_expiry}
use Rattle.amr_events.specs.Actions.Events.{Event, Act}
use Rattle.amr_engine.specs.State.State.{State, start}
use Rattle.amr_engine.specs.State.Dues.{Due, next_due}
use Rattle.amr_engine.specs.Moves.{move, Advances}
use Rattle.amr_engine.specs.Events.{put, with_silences, with_config, after_act, at_moment, do_event, after_event, after_events, run_of, move_limit, put_all, valid_alerts, on_ok}
use Rattle.amr_engine.specs.Said.{Acts, Does}
use Rattle.amr_engine.proofs.MovesLaws.{do_within-Does}
use Rattle.amr_events.specs.Posts.Reasons.{Reason}

-- what holds at each value of a result
ok_holds : {A : Type 0} (P : State → Type 0) (f : A → State) → ((x : A) → P (f x)) → (r : Result A Reason) (after : State) → on_ok f r ≡ Ok after → P after
ok_holds P f holds r after e = grind (arith, holds)

-- what holds of the state, and after alerts are stored, silences are set and a configuration is
-- loaded, holds after each action
module _ (P : State → Type 0) (s : State) (same : P s) (stored : (alerts : List (LabelSet × Alert)) → P (fold put s alerts)) (silenced : (silences : Silences) → P (with_silences s silences))
    (loaded : (config : Config) → P (with_config s config)) where
  put_all_holds : (alerts : List (LabelSet × Alert)) (after : State) → put_all s alerts ≡ Ok after → P after
  put_all_holds alerts after e = grind (arith, stored alerts)

  pub act_holds : (act : Act) (after : State) → after_act s act ≡ Ok after → P after
  unfolding after_act
  act_holds (Act.Post posted) after e = put_all_holds (valid_alerts s posted) after e
  act_holds (Act.Silence posted) after e = ok_holds P (with_silences s) silenced (after_post s.moment posted s.silences) after e
  act_holds (Act.Expire id) after e = ok_holds P (with_silences s) silenced (after_expiry s.moment id s.silences) after e
  act_holds (Act.Reload config) after e = ok_holds P (with_config s) loaded config after e
  act_holds act after e = let is : s ≡ after = cc in subst P is same

-- The property is of a state and a moment, which isn't before the state's clock: while an event
-- makes its moves, its own moment. It may be told of a later moment, and of the state with its
-- clock there; a move keeps it that is due by the moment; and an action keeps it, at the clock.
module _ (P : Moment → State → Type 0)
    (later : (t u : Moment) (s : State) → t ≤ u → P t s → P u s)
    (clocked : (at : Moment) (s : State) → P at s → P at (at_moment at s))
    (moved : (at : Moment) (s : State) (due : Due) → next_due at s ≡ Some due → P at s → P at (move due s))
    (acted : (s : State) (act : Act) (after : State) → P s.moment s → after_act s act ≡ Ok after → P after.moment after) where
  -- it holds after the moves of an event
  pub holds_after_moves : (at : Moment) (moves : List Due) (s end : State) → Advances at s moves end → P at s → P at end
  holds_after_moves at [] s end run holds = subst (P at) run.1 holds
  holds_after_moves at (due ∷ moves) s end run holds = holds_after_moves at moves (move due s) end run.1 (moved at s due run.0 holds)

  -- and after those that are made before another one
  pub holds_between : (at : Moment) (before rest : List Due) (s end : State) → Advances at s (before ++ rest) end → P at s → P at (fold (λ t due. move due t) s before)
  holds_between at [] rest s end run holds = holds
  holds_between at (due ∷ before) rest s end run holds = holds_between at before rest (move due s) end run.1 (moved at s due run.0 holds)

  -- it holds of the state at an accepted event, at the moment of the event
  pub holds_at_event : (s : State) (event : Event) → nat_lt event.at s.moment ≡ false → P s.moment s → P event.at s
  holds_at_event s event present holds = later s.moment event.at s (ltb-false event.at s.moment present) holds

  holds_after_act : (limit : ℕ) (s : State) (event : Event) (moves : List Due) (after : State) → Acts limit s event moves after → P s.moment s → P after.moment after
  holds_after_act limit s event moves after does holds =
      acted (at_moment event.at does.moved) event.act after
      (clocked event.at does.moved (holds_after_moves event.at moves s does.moved does.advanced (holds_at_event s event does.not_past holds))) does.acted

  pub holds_after_done : (limit : ℕ) (s : State) (event : Event) (moves : List Due) (after : State) → Does limit s event moves after → P s.moment s → P after.moment after
  holds_after_done limit s event moves after (inl names) holds = subst (λ (x : State). P x.moment x) (sym names.same) holds
  holds_after_done limit s event moves after (inr acts) holds = holds_after_act limit s event moves after acts holds

  abbrev HoldsAfter : State → Result (List Due × State) Reason → Type 0
  HoldsAfter s r = let after : State = elim r as (λ x. State) [ Ok done ↦ done.1 | Err reason ↦ s ] in P after.moment after

  pub holds_after_event : (s : State) (event : Event) → P s.moment s → P (after_event s event).moment (after_event s event)
  unfolding after_event
  holds_after_event s event holds = by (do_event s event) refl
    where
      by : (r : Result (List Due × State) Reason) → do_event s event ≡ r → HoldsAfter s r
      by (Ok (moves, after)) is = holds_after_done move_limit s event moves after (do_within-Does move_limit s event moves after is) holds
      by (Err reason) is = holds

  pub holds_after_events : (events : List Event) (s : State) → P s.moment s → P (after_events s events).moment (after_events s events)
  holds_after_events [] s holds = holds
  holds_after_events (event ∷ events) s holds = holds_after_events events (after_event s event) (holds_after_event s event holds)

  -- it holds after every run if it holds at the start
  pub holds_after_run : (config : Config) (events : List Event) → P 0 (start config) → P (run_of config events).moment (run_of config events)
  holds_after_run config events holds = holds_after_events events (start config) holds
