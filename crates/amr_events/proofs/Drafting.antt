-- What is read of an alert, one member after the other.
use Rattle.std.proofs.Common.{◌≡◌, ℕ, ◌≤◌, List, [], reverse, codes, Option, Some, None, false, bytes_eq, sym, ◌∙◌, arith}
use Rattle.std.proofs.lemmas.Bool.{false≢true}
use Rattle.std.proofs.lemmas.Slice.Eq.{bytes_eq-Decides}
use Rattle.serde_json.specs.Data.{Data, object, Members, no_members, put}
use Rattle.serde_json.specs.Find.{get_member}
use Rattle.serde_json.proofs.Views.{get_member-put, get_member-put_other}
use Rattle.amr_labels.specs.Map.{from_entries}
use Rattle.amr_labels.specs.Labels.{Text}
use Rattle.amr_time.specs.Time.{Moment}
use Rattle.amr_config.specs.Read.Members.{unless_null}
use Rattle.amr_events.specs.Shapes.{texts_in}
use Rattle.amr_events.specs.Posted.{time_at, time_in, annotations_at, annotations_in, alert_of}
use Rattle.json.specs.Token.{Token}
use Rattle.amr_events.specs.Tokens.{States, IsDraft, Adds}
use Rattle.amr_events.proofs.Stating.{states_such}
use Rattle.amr_events.specs.declared.posted_tokens.Draft.{Draft}

-- an object of texts is present
texts_present : (d : Data) (texts : List (Text × Text)) → texts_in d ≡ Some texts → annotations_at (unless_null (Some d)) ≡ Some texts
unfolding texts_in
texts_present d texts is = grind arith

kept : (found : Members) (d : Data) (key other : Text) → bytes_eq other key ≡ false → get_member other (put key d found) ≡ get_member other found
kept found d key other apart = get_member-put_other other key d found (λ same. false≢true (sym apart ∙ (bytes_eq-Decides other key).1 same))

module _ (draft : Draft) (tokens rest : List Token) where
  pub adds_labels : (labels : List (Text × Text)) → ((depth : ℕ) → 1 ≤ depth → States (λ d. texts_in d ≡ Some labels) depth tokens rest) → Adds (codes "labels") draft (record draft { labels = Some labels }) tokens rest
  unfolding annotations_in time_in
  adds_labels labels read depth some found is =
      states_such depth (λ d. texts_in d ≡ Some labels) _ tokens rest (λ d stated. grind (arith, get_member-put (codes "labels") d found, kept found d (codes "labels"), is)) (read depth some)

  pub adds_annotations : (texts : List (Text × Text)) → ((depth : ℕ) → 1 ≤ depth → States (λ d. texts_in d ≡ Some texts) depth tokens rest) → Adds (codes "annotations") draft (record draft { annotations = from_entries (reverse texts) }) tokens rest
  unfolding annotations_in time_in
  adds_annotations texts read depth some found is =
      states_such depth (λ d. texts_in d ≡ Some texts) _ tokens rest (λ d stated. grind (arith, get_member-put (codes "annotations") d found, kept found d (codes "annotations"), texts_present d texts stated, is)) (read depth some)

  pub adds_start : (time : Option Moment) → ((depth : ℕ) → States (λ d. time_at (unless_null (Some d)) ≡ Some time) depth tokens rest) → Adds (codes "startsAt") draft (record draft { starts_at = time }) tokens rest
  unfolding annotations_in time_in
  adds_start time read depth some found is =
      states_such depth (λ d. time_at (unless_null (Some d)) ≡ Some time) _ tokens rest (λ d stated. grind (arith, get_member-put (codes "startsAt") d found, kept found d (codes "startsAt"), is)) (read depth)

  pub adds_end : (time : Option Moment) → ((depth : ℕ) → States (λ d. time_at (unless_null (Some d)) ≡ Some time) depth tokens rest) → Adds (codes "endsAt") draft (record draft { ends_at = time }) tokens rest
  unfolding annotations_in time_in
  adds_end time read depth some found is =
      states_such depth (λ d. time_at (unless_null (Some d)) ≡ Some time) _ tokens rest (λ d stated. grind (arith, get_member-put (codes "endsAt") d found, kept found d (codes "endsAt"), is)) (read depth)

-- nothing is read of an object without members
pub empty_draft : (draft : Draft) → draft.labels ≡ None → draft.annotations ≡ from_entries [] → draft.starts_at ≡ None → draft.ends_at ≡ None → IsDraft no_members draft
unfolding annotations_in time_in
empty_draft draft labels annotations starts ends = grind arith

-- the alert of a draft
pub finished : (found : Members) (draft : Draft) (labels : List (Text × Text)) → draft.labels ≡ Some labels → IsDraft found draft
    → alert_of (object found) ≡ Some (record { labels = labels; annotations = draft.annotations; starts_at = draft.starts_at; ends_at = draft.ends_at })
unfolding alert_of
finished found draft labels read is = grind (arith, is)
