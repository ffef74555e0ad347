-- The next move and the outcome of an event, defined by relations and not by a computation.
use Rattle.std.specs.Prelude.{◌≡◌, ℕ, suc, is_ok, true, false, List, [], ◌∷◌, Ok, Err, length, ◌≤◌, nat_lt, ◌⊎◌}
use Rattle.std.specs.Ordering.{is_gt}
use Rattle.amr_events.specs.Posts.Reasons.{Reason, reason_number}
use Rattle.amr_events.specs.declared.posts.reason.Reason.TheVariants.{Backwards, TooManyMoves}
use Rattle.amr_events.specs.Actions.Events.{Event, is_label}
use Rattle.amr_engine.specs.State.State.{State}
use Rattle.amr_engine.specs.Runs.{Begins}
use Rattle.amr_engine.specs.State.Dues.{Due, due_cmp, next_due}
use Rattle.amr_engine.specs.Moves.{move, Advances}
use Rattle.amr_engine.specs.Events.{after_act, at_moment}

-- the item is in the list
abbrev pub IsIn : Due → List Due → Type 0
IsIn due [] = ⊥
IsIn due (other ∷ rest) = (due ≡ other) ⊎ IsIn due rest

-- the item is in the list, and nothing in the list goes before it
pub record IsLeast (due : Due) (list : List Due) : Type 0 where
  pub among : IsIn due list
  pub before_all : (other : Due) → IsIn other list → is_gt (due_cmp due other) ≡ false

-- a label makes no moves and leaves the state as it is, the clock included
pub record OnlyNames (s : State) (event : Event) (moves : List Due) (after : State) : Type 0 where
  pub label : is_label event.act ≡ true
  pub none : moves ≡ []
  pub same : after ≡ s

-- Any other accepted event isn't before the clock; its action has no reason against it on the state
-- before; its moves are each the least that is due up to its moment, and no more than the limit;
-- and then its action is done.
pub record Acts (limit : ℕ) (s : State) (event : Event) (moves : List Due) (after : State) : Type 0 where
  pub no_label : is_label event.act ≡ false
  pub not_past : nat_lt event.at s.moment ≡ false
  pub acceptable : is_ok (after_act (at_moment event.at s) event.act) ≡ true
  pub moved : State
  pub advanced : Advances event.at s moves moved
  pub few : length moves ≤ limit
  pub acted : after_act (at_moment event.at moved) event.act ≡ Ok after

-- what an accepted event does
abbrev pub Does : ℕ → State → Event → List Due → State → Type 0
Does limit s event moves after = OnlyNames s event moves after ⊎ Acts limit s event moves after

-- the event is before the clock
pub record IsPast (s : State) (event : Event) (reason : Reason) : Type 0 where
  pub past : nat_lt event.at s.moment ≡ true
  pub number : reason ≡ reason_number Backwards

-- the action has its own reason against it on the state before, with the clock at the event
pub record HasOwnReason (s : State) (event : Event) (reason : Reason) : Type 0 where
  pub not_past : nat_lt event.at s.moment ≡ false
  pub own : after_act (at_moment event.at s) event.act ≡ Err reason

-- more moves are due than the limit
pub record HasTooManyMoves (limit : ℕ) (s : State) (event : Event) (reason : Reason) : Type 0 where
  pub not_past : nat_lt event.at s.moment ≡ false
  pub acceptable : is_ok (after_act (at_moment event.at s) event.act) ≡ true
  pub moves : List Due
  pub begin : Begins (next_due event.at) move s moves
  pub many : length moves ≡ suc limit
  pub number : reason ≡ reason_number TooManyMoves

-- the first that applies is the reason against the event
abbrev pub HasReason : ℕ → State → Event → Reason → Type 0
HasReason limit s event reason = IsPast s event reason ⊎ (HasOwnReason s event reason ⊎ HasTooManyMoves limit s event reason)

-- the reason refuses the event, which is no label
abbrev pub Refuses : ℕ → State → Event → Reason → Type 0
Refuses limit s event reason = (is_label event.act ≡ false) × HasReason limit s event reason
