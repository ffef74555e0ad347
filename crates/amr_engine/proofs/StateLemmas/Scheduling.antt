-- The moments of alerts and groups by number, as the tables change, and the first of them.
use Rattle.std.proofs.Common.{slice_set, Ordering, Equal, [], ◌≡◌, ◌≢◌, ◌≤◌, ◌<◌, ◌⊎◌, inl, inr, ℕ, true, false, IsTrue, is_some, List, Option, Some, None, refl, sym, ap, subst, ◌∙◌, arith}
use Rattle.std.specs.Option.{option_cmp}
use Rattle.std.specs.Ordering.{nat_cmp, eq_by_cmp, is_gt, is_eq}
use Rattle.std.specs.Cmp.{IsTotalOrder, nat_cmp_total, Equal-is}
use Rattle.std.specs.FinMap.{find, IsAntisymmetric, nat_cmp-IsAntisymmetric}
use Rattle.std.proofs.lemmas.Bool.{true≢false, and_parts, cases_eq, cond-false, false_from_ne_true}
use Rattle.std.proofs.lemmas.Bool.Decides.{nat_tests}
use Rattle.std.proofs.lemmas.Cmp.{tied_itself, tied_back}
use Rattle.std.proofs.lemmas.Map.Views.{tells_apart}
use Rattle.std.proofs.lemmas.Option.{same_Some}
use Rattle.amr_labels.specs.Map.{Map, get}
use Rattle.amr_labels.specs.Labels.{LabelSet, label_set_cmp_total, label_set_cmp-IsAntisymmetric}
use Rattle.amr_rules.specs.Muting.{Alerts}
use Rattle.amr_time.specs.Time.{Moment}
use Rattle.amr_tables.proofs.Placing.{value_apart}
use Rattle.amr_tables.specs.declared.schedule.NumberedMoment.{NumberedMoment}
use Rattle.amr_tables.specs.Places.{value_at}
use Rattle.amr_tables.specs.Numbered.{Numbered, map_of, has_place, number_of, next_number, key_with, key_at, rank_of, GetsNumber, IsNumber, IsNumbering}
use Rattle.amr_tables.specs.Earliest.{Earliest, room, changed_back, IsHeld, IsOrdered, IsEarliest}
use Rattle.amr_tables.proofs.Firsts.{apart_from, ordered_agrees}
use Rattle.amr_tables.specs.Members.{has}
use Rattle.amr_tables.proofs.Naming.{key_at_number, value_at_number, number_of_value}
use Rattle.amr_engine.specs.declared.state.notification.GroupTimer.{GroupTimer}
use Rattle.amr_config.specs.declared.route_labels.RouteLabels.{RouteLabels}
use Rattle.amr_engine.specs.declared.state.due.Kind.{Kind}
use Rattle.amr_engine.specs.declared.state.due.Kind.TheVariants.{AlertRemoval}
use Rattle.amr_config.specs.RouteLabels.{on_route, route_labels_cmp, route_labels_cmp_total, route_labels_cmp-IsAntisymmetric}
use Rattle.amr_engine.specs.State.Dues.{Due, due_cmp, dues_of}
use Rattle.amr_engine.specs.State.Timed.{IsScheduled, moments_in, alert_moment, group_moment, IsFirstOfKind}
use Rattle.amr_engine.proofs.StateLemmas.Least.{sooner, alike}
use Rattle.amr_engine.proofs.StateLemmas.Timing.{is_at, is_due, members}

pub not_none : {A : Type 0} (a : A) (P : Type 0) → Some a ≡ None → P
not_none a P e = cc

pub the_value : {A : Type 0} (x : Option A) → IsTrue (is_some x) → (a : A) × (x ≡ Some a)
the_value None h = absurd (true≢false (sym h))
the_value (Some a) h = (a, refl)

-- a key that had a number keeps it when another gets one
pub kept_number : {K V : Type 0} {R : K → K → Ordering} (exact : IsAntisymmetric R) (t u : Numbered K V) (k : K) (n : ℕ) → number_of R t k ≡ None → GetsNumber R t u k n → (key : K) (m : ℕ) → number_of R t key ≡ Some m → number_of R u key ≡ Some m
kept_number {R = R} exact t u k n new gets key m at =
    gets key ∙ cond-false (eq_by_cmp R key k) (Some n) (number_of R t key) (false_from_ne_true _ (λ same. not_none m ⊥ (sym at ∙ ap (number_of R t) (tells_apart exact key k same) ∙ new))) ∙ at

-- a key with a value has a place
pub placed : {K V : Type 0} {R : K → K → Ordering} (o : IsTotalOrder R) (exact : IsAntisymmetric R) (t : Numbered K V) → IsNumbering R t → (key : K) → IsTrue (is_some (get (map_of R t) key)) → IsTrue (has_place R t key)
unfolding has_place
placed {K} {V} {R} o exact t is key h = let value = the_value (get (map_of R t) key) h in ap is_some (number_of_value o exact t is key value.0 value.1).1

module _ {K V : Type 0} {R : K → K → Ordering} (o : IsTotalOrder R) (exact : IsAntisymmetric R) (moment_of : Option V → Option Moment) where
  -- ---- the moments as the table changes

  -- a number that has a moment is that of a key
  pub named_moment : (t : Numbered K V) (e : Earliest) → IsScheduled R moment_of t e → (n : ℕ) (m : Moment) → moments_in moment_of t n ≡ Some m → IsNumber R t n
  named_moment t e is n m at = is.named n (m, is.ordered.kept.stands (record { moment = m; number = n }) at)

  ranked : (ns ms : List (K × ℕ)) (moments : ℕ → Option Moment) (e : Earliest) → ms ≡ ns → IsOrdered (λ a b. option_cmp R (key_with ns a) (key_with ns b)) moments e → IsOrdered (λ a b. option_cmp R (key_with ms a) (key_with ms b)) moments e
  ranked ns ms moments e same ordered = subst (λ ns. IsOrdered (λ a b. option_cmp R (key_with ns a) (key_with ns b)) moments e) (sym same) ordered

  -- in a table with the same keys and values
  pub scheduled_same : (t u : Numbered K V) (e : Earliest) → u.numbers ≡ t.numbers → ((n : ℕ) → value_at u.cells n ≡ value_at t.cells n) → IsScheduled R moment_of t e → IsScheduled R moment_of u e
  scheduled_same t u e numbers values is = record {
    named = λ n h. let key = is.named n h in (key.0, ap (find R key.0) numbers ∙ key.1);
    room = λ key n at. is.room key n (ap (find R key) (sym numbers) ∙ at);
    ordered = subst (λ ms. IsOrdered (rank_of R u) ms e) (λ i n. moment_of (sym (values n) i)) (ranked t.numbers u.numbers (moments_in moment_of t) e numbers is.ordered);
  }

  -- with more room
  pub scheduled_roomier : (t : Numbered K V) (e f : Earliest) → room e ≤ room f → ((n : ℕ) → IsHeld f n → IsHeld e n) → ((rank : ℕ → ℕ → Ordering) (moments : ℕ → Option Moment) → IsOrdered rank moments e → IsOrdered rank moments f) → IsScheduled R moment_of t e → IsScheduled R moment_of t f
  scheduled_roomier t e f more held kept is = record {
    named = λ n h. is.named n (held n h);
    room = λ key n at. let less = is.room key n at in omega (arith, less, more);
    ordered = kept (rank_of R t) (moments_in moment_of t) is.ordered;
  }

  -- after the value at a number changed, the former moments are in order, if that of this number is changed back
  pub ordered_before : (t u : Numbered K V) (e : Earliest) (n : ℕ) (value : Option V) (former : Option Moment) → u.numbers ≡ t.numbers → u.cells ≡ slice_set t.cells n value → former ≡ moments_in moment_of t n → IsOrdered (rank_of R t) (moments_in moment_of t) e
      → IsOrdered (rank_of R u) (changed_back (moments_in moment_of u) n former) e
  ordered_before t u e n value former numbers cells is ordered =
      subst (λ ms. IsOrdered (rank_of R u) ms e) (λ i k. sym (each k) i) (ranked t.numbers u.numbers (moments_in moment_of t) e numbers ordered)
    where
      each : (k : ℕ) → changed_back (moments_in moment_of u) n former k ≡ moments_in moment_of t k
      each k = grind (arith, nat_tests, cases_eq k n, apart_from (moments_in moment_of u) n former k, value_apart t.cells n k value)

  -- the value of a key is another, and its moment, too
  pub scheduled_set : (t u : Numbered K V) (e f : Earliest) (k : K) (n : ℕ) → number_of R t k ≡ Some n → u.numbers ≡ t.numbers → room f ≡ room e → ((m : ℕ) → IsHeld f m → IsHeld e m ⊎ (m ≡ n))
      → IsOrdered (rank_of R u) (moments_in moment_of u) f → IsScheduled R moment_of t e → IsScheduled R moment_of u f
  scheduled_set t u e f k n at numbers roomy held ordered is = record {
    named = λ m h. elim (held m h) as (λ _. (key : K) × (number_of R u key ≡ Some m)) [
      | inl before ↦ let key = is.named m before in (key.0, ap (find R key.0) numbers ∙ key.1)
      | inr number ↦ (k, ap (find R k) numbers ∙ at ∙ ap (λ m. Some m) (sym number))
    ];
    room = λ key m there. let less = is.room key m (ap (find R key) (sym numbers) ∙ there) in omega (arith, less, roomy);
    ordered = ordered;
  }

  -- a key more, without a value
  pub scheduled_placed : (t u : Numbered K V) (e : Earliest) (k : K) → IsNumbering R t → IsNumbering R u → number_of R t k ≡ None → GetsNumber R t u k (next_number t) → ((n : ℕ) → value_at u.cells n ≡ value_at t.cells n) → next_number t < room e
      → IsScheduled R moment_of t e → IsScheduled R moment_of u e
  scheduled_placed t u e k before after new gets values roomy is =
      let n = next_number t in
      let keeps = kept_number {R = R} exact t u k n new gets in
      record {
        named = λ m h. let key = is.named m h in (key.0, keeps key.0 m key.1);
        room = λ key m there. grind (arith, gets key, is.room key m);
        ordered = subst (λ ms. IsOrdered (rank_of R u) ms e) (λ i n. moment_of (sym (values n) i)) (ordered_agrees (rank_of R t) (rank_of R u) e (λ a b held_a held_b.
            let key_a = is.named a held_a in
            let key_b = is.named b held_b in
            let same_a : key_at t a ≡ key_at u a = key_at_number o exact t before key_a.0 a key_a.1 ∙ sym (key_at_number o exact u after key_a.0 a (keeps key_a.0 a key_a.1)) in
            let same_b : key_at t b ≡ key_at u b = key_at_number o exact t before key_b.0 b key_b.1 ∙ sym (key_at_number o exact u after key_b.0 b (keeps key_b.0 b key_b.1)) in
            (λ i. option_cmp R (same_a i) (same_b i))) (moments_in moment_of t) is.ordered);
      }

  pub none_scheduled : (t : Numbered K V) (e : Earliest) → moment_of None ≡ None → t.numbers ≡ [] → t.cells ≡ [] → ((n : ℕ) → IsHeld e n → ⊥)
      → ((r : ℕ → ℕ → Ordering) (moments : ℕ → Option Moment) → ((n : ℕ) → moments n ≡ None) → IsOrdered r moments e) → IsScheduled R moment_of t e
  none_scheduled t e none numbers cells held ordered = record {
    named = λ n h. absurd (held n h);
    room = λ key n at. not_none n _ (sym at ∙ ap (find R key) numbers);
    ordered = ordered (rank_of R t) (moments_in moment_of t) (λ n. ap (λ l. moment_of (value_at l n)) cells ∙ none);
  }

  -- ---- the first of them

  -- the key's value has this moment, and no other has an earlier one, or the same and a lesser key
  abbrev pub IsFirstMoment : Map R V → K → Moment → Type 0
  IsFirstMoment values key moment = (moment_of (get values key) ≡ Some moment) × ((other : K) (x : Moment) → moment_of (get values other) ≡ Some x → (moment < x) ⊎ ((moment ≡ x) × (is_gt (R key other) ≡ false)))

  -- the number of a key whose value has a moment
  numbered_moment : (t : Numbered K V) → moment_of None ≡ None → IsNumbering R t → (key : K) (x : Moment) → moment_of (get (map_of R t) key) ≡ Some x → (n : ℕ) × ((number_of R t key ≡ Some n) × (moments_in moment_of t n ≡ Some x))
  numbered_moment t none numbering key x at =
      let value : (v : V) × (get (map_of R t) key ≡ Some v) = grind (arith, none, at) in
      let number = number_of_value o exact t numbering key value.0 value.1 in
      (number.0, (number.1, ap moment_of (sym (value_at_number o exact t numbering key number.0 number.1)) ∙ at))

  pub no_moment : (t : Numbered K V) → moment_of None ≡ None → IsNumbering R t → ((n : ℕ) → moments_in moment_of t n ≡ None) → (key : K) (x : Moment) → moment_of (get (map_of R t) key) ≡ Some x → ⊥
  no_moment t none numbering never key x at =
      let number = numbered_moment t none numbering key x at in
      not_none x _ (sym number.1.1 ∙ never number.0)

  -- the key that the number of the earliest moment names has this number
  number_of_first : (t : Numbered K V) (e : Earliest) (s : NumberedMoment) (key : K) → IsNumbering R t → IsScheduled R moment_of t e → IsEarliest (rank_of R t) (moments_in moment_of t) s → key_at t s.number ≡ Some key → number_of R t key ≡ Some s.number
  number_of_first t e s key numbering is earliest named =
      let by = named_moment t e is s.number s.moment earliest.0 in
      let same : by.0 ≡ key = same_Some by.0 key (sym (key_at_number o exact t numbering by.0 s.number by.1) ∙ named) in
      ap (number_of R t) (sym same) ∙ by.1

  pub first_moment : (t : Numbered K V) (e : Earliest) (s : NumberedMoment) (key : K) → moment_of None ≡ None → IsNumbering R t → IsScheduled R moment_of t e
      → IsEarliest (rank_of R t) (moments_in moment_of t) s → key_at t s.number ≡ Some key → IsFirstMoment (map_of R t) key s.moment
  first_moment t e s key none numbering is earliest named =
      let number : number_of R t key ≡ Some s.number = number_of_first t e s key numbering is earliest named in (
        ap moment_of (value_at_number o exact t numbering key s.number number) ∙ earliest.0,
        λ other x later.
            let found = numbered_moment t none numbering other x later in
            grind (arith, earliest.1 found.0 x found.1.1, key_at_number o exact t numbering other found.0 found.1.0),
      )

module _ {K V : Type 0} (R : K → K → Ordering) (t : Numbered K V) where
  pub unplaced : (k : K) → number_of R t k ≡ None → has_place R t k ≡ false
  unfolding has_place
  unplaced k none = ap is_some none

pub group_none : (kind : Kind) → group_moment kind None ≡ None
group_none kind = grind arith

-- ---- the first timer of a kind

at_then : (n : ℕ) (at : Option Moment) → IsTrue (is_at n at) → at ≡ Some n
at_then n at h = grind (arith, tells_apart nat_cmp-IsAntisymmetric n)

at_itself : (n : ℕ) → is_at n (Some n) ≡ true
at_itself n = ap is_eq (tied_itself nat_cmp_total n)

module _ (a : Alerts) (c : Map route_labels_cmp GroupTimer) where
  -- when an alert's removal is due
  alert_due : (other : Due) → other.kind ≡ AlertRemoval → IsTrue (has due_cmp (dues_of a c) other) → (nat_cmp other.route 0 ≡ Equal) × (alert_moment (get a other.labels) ≡ Some other.moment)
  alert_due other kind h =
      let parts = and_parts _ _ (sym (ap (λ k. is_due a c other.moment k other.route other.labels) kind) ∙ sym (members a c other) ∙ h) in
      ((Equal-is _).0 parts.0, at_then other.moment _ parts.1)

  pub first_alert : (labels : LabelSet) (moment : Moment) → IsFirstMoment label_set_cmp_total label_set_cmp-IsAntisymmetric alert_moment a labels moment
      → IsFirstOfKind AlertRemoval (dues_of a c) (Some (record { moment = moment; kind = AlertRemoval; route = 0; labels = labels }))
  first_alert labels moment first =
      let due : Due = record { moment = moment; kind = AlertRemoval; route = 0; labels = labels } in (
        refl,
        (
          members a c due ∙ ap (is_at moment) first.0 ∙ at_itself moment,
          λ other kind h.
              let is = alert_due other kind h in
              grind (arith, first.1 other.labels other.moment is.1, sooner due other, alike due other, kind, tied_back nat_cmp_total other.route 0 is.0),
        ),
      )

  pub no_alert : ((labels : LabelSet) (moment : Moment) → alert_moment (get a labels) ≡ Some moment → ⊥) → IsFirstOfKind AlertRemoval (dues_of a c) None
  no_alert none = λ other kind. false_from_ne_true (has due_cmp (dues_of a c) other) (λ h. none other.labels other.moment (alert_due other kind h).1)

  of_group : (kind : Kind) → kind ≢ AlertRemoval → (n : Moment) (route : ℕ) (labels : LabelSet) → is_due a c n kind route labels ≡ is_at n (group_moment kind (get c (on_route route labels)))
  of_group kind never n route labels = grind arith

  group_due : (kind : Kind) → kind ≢ AlertRemoval → (other : Due) → other.kind ≡ kind → IsTrue (has due_cmp (dues_of a c) other) → group_moment kind (get c (on_route other.route other.labels)) ≡ Some other.moment
  group_due kind never other same h =
      at_then other.moment _ (sym (ap (λ k. is_due a c other.moment k other.route other.labels) same ∙ of_group kind never other.moment other.route other.labels) ∙ sym (members a c other) ∙ h)

  pub first_group : (kind : Kind) → kind ≢ AlertRemoval → (group : RouteLabels) (moment : Moment) → IsFirstMoment route_labels_cmp_total route_labels_cmp-IsAntisymmetric (group_moment kind) c group moment
      → IsFirstOfKind kind (dues_of a c) (Some (record { moment = moment; kind = kind; route = group.route; labels = group.labels }))
  first_group kind never group moment first =
      let due : Due = record { moment = moment; kind = kind; route = group.route; labels = group.labels } in (
        refl,
        (
          members a c due ∙ of_group kind never moment group.route group.labels ∙ ap (is_at moment) first.0 ∙ at_itself moment,
          λ other same h. grind (arith, first.1 (on_route other.route other.labels) other.moment (group_due kind never other same h), sooner due other, alike due other, same),
        ),
      )

  pub no_group : (kind : Kind) → kind ≢ AlertRemoval → ((group : RouteLabels) (moment : Moment) → group_moment kind (get c group) ≡ Some moment → ⊥) → IsFirstOfKind kind (dues_of a c) None
  no_group kind never none = λ other same. false_from_ne_true (has due_cmp (dues_of a c) other) (λ h. none (on_route other.route other.labels) other.moment (group_due kind never other same h))
