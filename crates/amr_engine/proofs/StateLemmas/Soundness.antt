-- Records that can be put back.
use Rattle.std.proofs.Common.{IfSome, flat_map, append_assoc, [], ◌≡◌, ◌≤◌, ℕ, List, ◌∷◌, ◌++◌, Option, Some, refl, subst, sym, ap, ◌∙◌, length, arith}
use Rattle.amr_tables.specs.Numbered.{has_place}
use Rattle.amr_tables.specs.Records.{Records}
use Rattle.amr_time.specs.Time.{latest_read}
use Rattle.amr_engine.specs.declared.state.notification.Notification.{Notification}
use Rattle.amr_engine.specs.declared.state.change.Change.{Change}
use Rattle.amr_engine.specs.declared.state.change.Change.TheVariants.{OfRoster, OfNotes}
use Rattle.amr_engine.specs.declared.state.tables.Tables.{Tables}
use Rattle.amr_engine.specs.State.Records.{after_change, put_back}
use Rattle.amr_engine.specs.State.State.{State}
use Rattle.amr_engine.specs.State.Allowed.{IsAllowed}
use Rattle.amr_engine.specs.State.Kept.{before_open_record}
use Rattle.amr_engine.specs.declared.state.store.Store.TheInside.{Inside}
use Rattle.amr_engine.specs.State.Stored.{shown_by, state_of, kept_of, entries_of, with_roster, roster_back, change_back, IsSound, AreSound, IsPlaceOf, IsEntered, MorePlaces, SameValues, IsRoomier, IsKept}
use Rattle.amr_engine.proofs.StateLemmas.Undoing.{put_back-push, put_back-entered, put_back-appended, same_undone}

-- what was found is what there is
pub found : {A : Type 0} (x o : Option A) → x ≡ o → IfSome o (λ a. x ≡ Some a)
found x o e = grind arith

-- ---- places

sound-more : (a b : Tables) → MorePlaces a b → (e : Change) → IsSound a e → IsSound b e
sound-more a b more e h = grind (arith, more.alerts, more.silences, more.placements, more.timers, more.log)

with_roster-more : (a b : Tables) → MorePlaces a b → (e : Change) → MorePlaces (with_roster a e) (with_roster b e)
with_roster-more a b more (OfRoster roster) = record { alerts = more.alerts; silences = more.silences; placements = λ k h. h; timers = λ k h. h; log = more.log }
with_roster-more a b more e = more

roster_back-more : (es : List Change) (a b : Tables) → MorePlaces a b → MorePlaces (roster_back es a) (roster_back es b)
unfolding roster_back
roster_back-more [] a b more = more
roster_back-more (e ∷ es) a b more = with_roster-more (roster_back es a) (roster_back es b) (roster_back-more es a b more) e

all-more : (es : List Change) (a b : Tables) → MorePlaces a b → AreSound es a → AreSound es b
unfolding AreSound
all-more [] a b more h = h
all-more (e ∷ es) a b more h = (all-more es a b more h.0, sound-more (roster_back es a) (roster_back es b) (roster_back-more es a b more) e h.1)

roster_back-push : (es : List Change) (e : Change) (t : Tables) → roster_back (es ++ e ∷ []) t ≡ roster_back es (with_roster t e)
unfolding roster_back
roster_back-push [] e t = refl
roster_back-push (x ∷ es) e t = ap (λ u. with_roster u x) (roster_back-push es e t)

sound-push : (es : List Change) (e : Change) (t : Tables) → AreSound es (with_roster t e) → IsSound t e → AreSound (es ++ e ∷ []) t
unfolding AreSound roster_back
sound-push [] e t before last = (tt, last)
sound-push (x ∷ es) e t before last = (sound-push es e t before.0 last, subst (λ u. IsSound u x) (sym (roster_back-push es e t)) before.1)

sound-pop : (es : List Change) (e : Change) (t : Tables) → AreSound (es ++ e ∷ []) t → AreSound es (with_roster t e) × IsSound t e
unfolding AreSound roster_back
sound-pop [] e t h = (tt, h.1)
sound-pop (x ∷ es) e t h = let rest = sound-pop es e t h.0 in ((rest.0, subst (λ u. IsSound u x) (roster_back-push es e t) h.1), rest.1)

-- the first entries are dropped
sound-rest : (before es : List Change) (t : Tables) → AreSound (before ++ es) t → AreSound es t
unfolding AreSound
sound-rest [] es t h = h
sound-rest (x ∷ before) es t h = sound-rest before es t h.0

pub sound-none : (es : List Change) (t : Tables) → es ≡ [] → AreSound es t
unfolding AreSound
sound-none es t none = subst (λ l. AreSound l t) (sym none) tt

-- ---- the entries of all records

abbrev pub joined : List (List Change) → List Change
joined = flat_map (λ closed. closed)

-- an entry is appended to the open one
joined-push : (rs : List (List Change)) (r : List Change) (e : Change) → (joined rs ++ r) ++ e ∷ [] ≡ joined rs ++ (r ++ e ∷ [])
joined-push rs r e = append_assoc (joined rs) r (e ∷ [])

-- ---- the invariant

still : (t u : Tables) → MorePlaces t (record t { notes = u.notes })
still t u = record { alerts = λ k h. h; silences = λ k h. h; placements = λ k h. h; timers = λ k h. h; log = λ k h. h }

-- the entries are as they were
kept_still : (a b : Inside) → IsKept a → MorePlaces a.tables b.tables → b.tables.moment ≤ latest_read → entries_of b ≡ entries_of a → IsKept b
kept_still a b kept more moment same = record { moment = moment; sound = subst (λ es. AreSound es b.tables) (sym same) (all-more (entries_of a) a.tables b.tables more kept.sound) }

-- an entry is pushed
kept_pushed : (a b : Inside) (e : Change) → IsKept a → MorePlaces a.tables (with_roster b.tables e) → b.tables.moment ≤ latest_read → b.journal.closed ≡ a.journal.closed → b.journal.current ≡ a.journal.current ++ e ∷ [] → IsSound b.tables e → IsKept b
kept_pushed a b e kept more moment closed current sound = record {
  moment = moment;
  sound = subst (λ es. AreSound es b.tables) (joined-push a.journal.closed a.journal.current e ∙ sym (λ i. joined (closed i) ++ current i))
      (sound-push (entries_of a) e b.tables (all-more (entries_of a) a.tables (with_roster b.tables e) more kept.sound) sound);
}

-- the last entry of the open record, and those before it
last_entry : (a : Inside) (es : List Change) (e : Change) → IsKept a → a.journal.current ≡ es ++ e ∷ [] → AreSound (joined a.journal.closed ++ es) (with_roster a.tables e) × IsSound a.tables e
last_entry a es e kept is =
    sound-pop (joined a.journal.closed ++ es) e a.tables
    (subst (λ l. AreSound l a.tables) (ap (λ last. joined a.journal.closed ++ last) is ∙ sym (joined-push a.journal.closed es e)) kept.sound)

-- it can be put back
pub last_is_sound : (a : Inside) (es : List Change) (e : Change) → IsKept a → a.journal.current ≡ es ++ e ∷ [] → IsSound a.tables e
last_is_sound a es e kept is = (last_entry a es e kept is).1

-- all records are dropped
pub kept_forgotten : (a : Inside) (j : Records Change) → IsKept a → j.closed ≡ [] → j.current ≡ a.journal.current → IsKept (record a { journal = j })
kept_forgotten a j kept closed current = record {
  moment = kept.moment;
  sound = subst (λ es. AreSound es a.tables) (λ i. joined (sym closed i) ++ sym current i) (sound-rest (joined a.journal.closed) a.journal.current a.tables kept.sound);
}

-- ---- what the open record gives by being put back, after a change

-- a notification was appended, and their number before entered
pub undone_appended : (a b : Inside) (notification : Notification) (count : ℕ) → state_of b ≡ record (state_of a) { notes = a.tables.notes.items ++ notification ∷ [] } → count ≡ length a.tables.notes.items
    → b.journal.current ≡ a.journal.current ++ OfNotes count ∷ [] → b.journal.closed ≡ a.journal.closed → b.journal.record_room ≡ a.journal.record_room → before_open_record (kept_of b) ≡ before_open_record (kept_of a)
undone_appended a b notification count state is current closed room =
    same_undone (kept_of b) (kept_of a)
    ((λ i. put_back (current i) (state i)) ∙ ap (λ n. put_back (a.journal.current ++ OfNotes n ∷ []) (record (state_of a) { notes = a.tables.notes.items ++ notification ∷ [] })) is
    ∙ put_back-appended a.journal.current (state_of a) notification) closed room

-- an entry was put back
pub undone_popped : (a b : Inside) (e : Change) → state_of b ≡ after_change (state_of a) e → a.journal.current ≡ b.journal.current ++ e ∷ [] → b.journal.closed ≡ a.journal.closed → b.journal.record_room ≡ a.journal.record_room
    → before_open_record (kept_of b) ≡ before_open_record (kept_of a)
undone_popped a b e state current closed room =
    same_undone (kept_of b) (kept_of a)
    (ap (put_back b.journal.current) state ∙ sym (put_back-push b.journal.current e (state_of a)) ∙ ap (λ es. put_back es (state_of a)) (sym current)) closed room

-- ---- tables that show the same, or have more places

pub same_state : (a b : Tables) → SameValues a b → shown_by b ≡ shown_by a
same_state a b same = grind arith

pub more_still : (a b c : Tables) → MorePlaces a b → MorePlaces b c → MorePlaces a c
more_still a b c one two = grind arith

-- ---- one change

-- the roster that is displaced leads back to the places of before
more_back : (a b : Tables) (e : Change) → MorePlaces (with_roster a e) b → MorePlaces a (with_roster b (change_back a e))
more_back a b e more = grind arith

-- that place is there
sound_back : (t : Tables) (e : Change) (n : ℕ) → t.moment ≤ latest_read → IsPlaceOf t e n → IsSound t (change_back t e)
unfolding has_place
sound_back t e n late h = grind arith

-- whether a roster can be put back doesn't depend on the present one
sound_anyway : (t : Tables) (e : Change) → IsSound (with_roster t e) e → IsSound t e
sound_anyway t e h = grind arith

late_changed : (s : State) (e : Change) → IsAllowed e → s.moment ≤ latest_read → (after_change s e).moment ≤ latest_read
late_changed s e h late = grind arith

late_back : (t : Tables) (s : State) (e : Change) → IsSound t e → s.moment ≤ latest_read → (after_change s e).moment ≤ latest_read
late_back t s e h late = grind arith

-- ---- the invariant after one change

-- places are made for it, and room
pub kept_roomier : (a : Inside) (t : Tables) (j : Records Change) → IsKept a → IsRoomier a.tables a.journal t j → IsKept (record a { tables = t; journal = j })
kept_roomier a t j kept roomier =
    kept_still a (record a { tables = t; journal = j }) kept roomier.places (subst (λ m. m ≤ latest_read) (sym roomier.values.moment) kept.moment) (λ i. joined (roomier.closed i) ++ roomier.current i)

-- a place is made first
pub placed_first : (a b t : Tables) (i j : Records Change) → SameValues a b → MorePlaces a b → IsRoomier b i t j → IsRoomier a i t j
placed_first a b t i j same more roomier = grind (arith, more_still a b t more)

-- room is made in the journal, and the notifications may be any
pub kept_reserved : (a b : Inside) → IsKept a → b.journal.closed ≡ a.journal.closed → b.journal.current ≡ a.journal.current → IsKept (record a { tables = record a.tables { notes = b.tables.notes }; journal = b.journal })
kept_reserved a b kept closed current =
    kept_still a (record a { tables = record a.tables { notes = b.tables.notes }; journal = b.journal }) kept (still a.tables b.tables) kept.moment (λ i. joined (closed i) ++ current i)

pub kept_changed : (a b : Inside) (e : Change) (n : ℕ) → IsKept a → IsAllowed e → IsPlaceOf a.tables e n → MorePlaces (with_roster a.tables e) b.tables → state_of b ≡ after_change (state_of a) e → IsEntered a.tables a.journal e b.journal → IsKept b
kept_changed a b e n kept allowed at more state entered =
    let back : Change = change_back a.tables e in
    let more_there : MorePlaces a.tables (with_roster b.tables back) = more_back a.tables b.tables e more in
    kept_pushed a b back kept more_there (subst (λ (t : State). t.moment ≤ latest_read) (sym state) (late_changed (state_of a) e allowed kept.moment)) entered.closed entered.current
    (sound_anyway b.tables back (sound-more a.tables (with_roster b.tables back) more_there back (sound_back a.tables e n kept.moment at)))

-- a notification is appended, and their number before entered
pub kept_appended : (a b : Inside) (count : ℕ) → IsKept a → b.journal.closed ≡ a.journal.closed → b.journal.current ≡ a.journal.current ++ OfNotes count ∷ [] → IsKept (record a { tables = record a.tables { notes = b.tables.notes }; journal = b.journal })
kept_appended a b count kept closed current = kept_pushed a (record a { tables = record a.tables { notes = b.tables.notes }; journal = b.journal }) (OfNotes count) kept (still a.tables b.tables) kept.moment closed current tt

-- ---- what the open record gives by being put back, after one change

pub undone_changed : (a b : Inside) (e : Change) → IsAllowed e → state_of b ≡ after_change (state_of a) e → IsEntered a.tables a.journal e b.journal → before_open_record (kept_of b) ≡ before_open_record (kept_of a)
undone_changed a b e allowed state entered =
    same_undone (kept_of b) (kept_of a) ((λ i. put_back (entered.current i) (state i)) ∙ put_back-entered a.journal.current a.tables e allowed) entered.closed entered.room

-- places are made, and room
undone_roomier : (a : Inside) (t : Tables) (j : Records Change) → IsRoomier a.tables a.journal t j → before_open_record (kept_of (record a { tables = t; journal = j })) ≡ before_open_record (kept_of a)
undone_roomier a t j roomier =
    same_undone (kept_of (record a { tables = t; journal = j })) (kept_of a) (λ i. put_back (roomier.current i) (same_state a.tables t roomier.values i)) roomier.closed roomier.room

pub undone_reserved : (a : Inside) (j : Records Change) → j.closed ≡ a.journal.closed → j.current ≡ a.journal.current → j.record_room ≡ a.journal.record_room → before_open_record (kept_of (record a { journal = j })) ≡ before_open_record (kept_of a)
undone_reserved a j closed current room = same_undone (kept_of (record a { journal = j })) (kept_of a) (ap (λ es. put_back es (state_of a)) current) closed room

-- ---- a change whose place and room were made first

module _ (a : Inside) (t u : Tables) (j k : Records Change) (e : Change) (roomier : IsRoomier a.tables a.journal t j) (allowed : IsAllowed e)
    (state : shown_by u ≡ after_change (shown_by t) e) (entered : IsEntered t j e k) where
  pub kept_put : IsKept a → (n : ℕ) → IsPlaceOf t e n → MorePlaces (with_roster t e) u → IsKept (record a { tables = u; journal = k })
  kept_put kept n at more = kept_changed (record a { tables = t; journal = j }) (record a { tables = u; journal = k }) e n (kept_roomier a t j kept roomier) allowed at more state entered

  pub undone_put : before_open_record (kept_of (record a { tables = u; journal = k })) ≡ before_open_record (kept_of a)
  undone_put =
      undone_changed (record a { tables = t; journal = j }) (record a { tables = u; journal = k }) e allowed state entered
      ∙ undone_roomier a t j roomier

-- ---- the last entry

-- it is put back, and taken out
pub kept_undone : (a b : Inside) (e : Change) → IsKept a → MorePlaces (with_roster a.tables e) b.tables → b.journal.closed ≡ a.journal.closed → a.journal.current ≡ b.journal.current ++ e ∷ [] → state_of b ≡ after_change (state_of a) e → IsKept b
kept_undone a b e kept more closed current state = record {
  moment = subst (λ (t : State). t.moment ≤ latest_read) (sym state) (late_back a.tables (state_of a) e (last_is_sound a b.journal.current e kept current) kept.moment);
  sound = subst (λ es. AreSound es b.tables) (ap (λ rs. joined rs ++ b.journal.current) (sym closed))
      (all-more (joined a.journal.closed ++ b.journal.current) (with_roster a.tables e) b.tables more (last_entry a b.journal.current e kept current).0);
}
