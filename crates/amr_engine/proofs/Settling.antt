-- What an event leaves in the store: its record is closed if it is accepted, and else put back.
use Rattle.std.proofs.Common.{[], ◌≡◌, true, List, ◌∷◌, ◌++◌, length, ◌<◌, ◌≤◌, ◌*◌, ap, ◌∙◌, arith}
use Rattle.std.proofs.lemmas.List.{nil_from_length}
use Rattle.amr_events.specs.Actions.Events.{Event, is_label}
use Rattle.amr_engine.specs.declared.state.change.Change.{Change}
use Rattle.amr_engine.specs.State.State.{State}
use Rattle.amr_engine.specs.State.Kept.{Kept, before_open_record}
use Rattle.amr_engine.specs.State.Records.{put_back, befores}
use Rattle.amr_engine.proofs.StateLemmas.Undoing.{befores_push, length-befores, undone-idle}
use Rattle.amr_engine.specs.Events.{after_event}
use Rattle.amr_engine.specs.Kept.{IsEmptyIfRefused, IsLight, Settled}
use Rattle.amr_engine.specs.Weight.{event_weight}
use Rattle.amr_events.specs.declared.posts.reason.Reason.{Reason}
use Rattle.amr_engine.specs.declared.outcome.Outcome.{Outcome}
use Rattle.amr_engine.specs.declared.outcome.Outcome.TheVariants.{Refused}

no_current : (a b : Kept) → a ≡ before_open_record b → a.current ≡ []
unfolding before_open_record
no_current a b e = ap (λ (k : Kept). k.current) e

pub settled_done : (begun : Kept) (event : Event) (left : Kept) (outcome : Outcome) → begun.current ≡ [] → IsEmptyIfRefused outcome left.current → left.state ≡ after_event begun.state event
    → before_open_record left ≡ before_open_record begun → IsLight begun event left → Settled begun event left outcome
settled_done begun event left outcome idle empty state kept light = record {
  undone_is = kept ∙ undone-idle begun idle;
  state = state;
  empty = empty;
  short = omega (arith, ap length idle, light);
}

-- a refused event is undone
pub settled_undone : (begun : Kept) (event : Event) (tried left : Kept) (reason : Reason) → begun.current ≡ [] → begun.state ≡ after_event begun.state event → before_open_record tried ≡ before_open_record begun
    → left ≡ before_open_record tried → Settled begun event left (Refused reason)
settled_undone begun event tried left reason idle state kept is =
    let whole : left ≡ begun = is ∙ kept ∙ undone-idle begun idle in
    grind (arith, whole, undone-idle begun idle)

-- the record of a label is empty
pub label_entryless : (s after : State) (event : Event) (r : List Change) → length r ≤ 4 * event_weight s event after → is_label event.act ≡ true → r ≡ []
label_entryless s after event r short h = nil_from_length r (grind arith)

module _ (begun left : Kept) (e : before_open_record left ≡ begun) where
  pub records_are : left.records ≡ begun.records
  unfolding before_open_record
  records_are = ap (λ (k : Kept). k.records) e

  pub state_back : put_back left.current left.state ≡ begun.state
  unfolding before_open_record
  state_back = ap (λ (k : Kept). k.state) e

  pub has_room : 0 < begun.room → 0 < left.room
  unfolding before_open_record
  has_room h = grind arith

  -- the states before the events, with the record closed
  pub past_is : (closed : Kept) → closed.state ≡ left.state → closed.records ≡ left.records ++ left.current ∷ []
      → befores closed.records closed.state ≡ befores begun.records begun.state ++ begun.state ∷ []
  unfolding before_open_record
  past_is closed same added = grind (arith, befores_push left.records left.current left.state)

-- after a failed event, the store is the one before
pub put_back_whole : (begun tried after : Kept) → begun.current ≡ [] → before_open_record tried ≡ before_open_record begun → after ≡ before_open_record tried → after ≡ begun
put_back_whole begun tried after idle kept is = is ∙ kept ∙ undone-idle begun idle

pub is_idle : (before after : Kept) → after ≡ before_open_record before → after.current ≡ []
is_idle before after is = no_current after before is

-- the last event is undone
pub past_undone : (before reopened after : Kept) → reopened.state ≡ before.state → before.records ≡ reopened.records ++ reopened.current ∷ [] → after ≡ before_open_record reopened
    → befores before.records before.state ≡ befores after.records after.state ++ after.state ∷ []
unfolding before_open_record
past_undone before reopened after same opened is = grind (arith, befores_push reopened.records reopened.current reopened.state)

pub records_undone : (reopened after : Kept) → after ≡ before_open_record reopened → after.records ≡ reopened.records
unfolding before_open_record
records_undone reopened after is = ap (λ (k : Kept). k.records) is

-- there is a record for each event
pub some_record : (store : Kept) (past : List State) → befores store.records store.state ≡ past → 0 < length past → 0 < length store.records
some_record store past is h = grind (arith, length-befores store.records store.state)

pub no_past : (store : Kept) → store.records ≡ [] → befores store.records store.state ≡ []
unfolding befores
no_past store none = ap (λ (rs : List (List Change)). befores rs store.state) none
