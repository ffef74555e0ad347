-- What an event displaces is put back, entry by entry.
use Rattle.std.proofs.Common.{Ordering, [], ◌≡◌, suc, true, false, List, ◌∷◌, ◌++◌, Option, refl, sym, ap, ◌∙◌, length, arith}
use Rattle.std.proofs.Math.Seq.{take-append_seam}
use Rattle.std.specs.Ordering.{eq_by_cmp}
use Rattle.std.specs.Cmp.{IsTotalOrder, nat_cmp_total}
use Rattle.std.specs.FinMap.{IsAntisymmetric, nat_cmp-IsAntisymmetric}
use Rattle.std.proofs.lemmas.Cmp.{eq_by_cmp_equiv}
use Rattle.std.proofs.lemmas.Map.Views.{tells_apart}
use Rattle.amr_labels.specs.Map.{Map, set, get-set, set-back, same_map}
use Rattle.amr_labels.specs.Labels.{label_set_cmp_total, label_set_cmp-IsAntisymmetric}
use Rattle.amr_engine.specs.declared.state.notification.Notification.{Notification}
use Rattle.amr_engine.specs.declared.state.change.Change.{Change}
use Rattle.amr_engine.specs.declared.state.change.Change.TheVariants.{OfNotes}
use Rattle.amr_config.specs.RouteLabels.{route_labels_cmp_total, route_labels_cmp-IsAntisymmetric}
use Rattle.amr_engine.specs.State.State.{State, log_key_cmp_total, log_key_cmp-IsAntisymmetric}
use Rattle.amr_engine.specs.declared.state.tables.Tables.{Tables}
use Rattle.amr_engine.specs.State.Allowed.{IsAllowed}
use Rattle.amr_engine.specs.State.Records.{after_change, put_back, befores, before_all}
use Rattle.amr_engine.specs.State.Stored.{shown_by, change_back}
use Rattle.amr_engine.specs.State.Kept.{Kept, before_open_record}

-- a record with one more entry is put back from that entry on
pub put_back-push : (entries : List Change) (last : Change) (s : State) → put_back (entries ++ last ∷ []) s ≡ put_back entries (after_change s last)
unfolding put_back
put_back-push [] last s = refl
put_back-push (first ∷ rest) last s = ap (λ (x : State). after_change x first) (put_back-push rest last s)

-- a change of one place is put back by the value that the place had
pub put_back-change : (t : Tables) (change : Change) → IsAllowed change → after_change (after_change (shown_by t) change) (change_back t change) ≡ shown_by t
put_back-change t change h =
    let s = shown_by t in
    grind (
      arith,
      set-back label_set_cmp_total label_set_cmp-IsAntisymmetric s.alerts,
      set-back nat_cmp_total nat_cmp-IsAntisymmetric s.silences,
      set-back route_labels_cmp_total route_labels_cmp-IsAntisymmetric s.placements,
      set-back route_labels_cmp_total route_labels_cmp-IsAntisymmetric s.timers,
      set-back log_key_cmp_total log_key_cmp-IsAntisymmetric s.log,
    )

-- a change that is entered leaves what the open record gives
pub put_back-entered : (entries : List Change) (t : Tables) (change : Change) → IsAllowed change → put_back (entries ++ change_back t change ∷ []) (after_change (shown_by t) change) ≡ put_back entries (shown_by t)
put_back-entered entries t change h = put_back-push entries (change_back t change) (after_change (shown_by t) change) ∙ ap (put_back entries) (put_back-change t change h)

-- so does a notification that is appended
pub put_back-appended : (entries : List Change) (s : State) (notification : Notification) → put_back (entries ++ OfNotes (length s.notes) ∷ []) (record s { notes = s.notes ++ notification ∷ [] }) ≡ put_back entries s
put_back-appended entries s notification =
    put_back-push entries (OfNotes (length s.notes)) (record s { notes = s.notes ++ notification ∷ [] })
    ∙ ap (λ (notes : List Notification). put_back entries (record s { notes = notes })) (take-append_seam s.notes (notification ∷ []))

-- ---- two values in a map

module _ {K X : Type 0} {R : K → K → Ordering} (o : IsTotalOrder R) (same : IsAntisymmetric R) where
  -- of two values of one key the second counts
  pub set-set : (m : Map R X) (a b : K) (v w : Option X) → eq_by_cmp R a b ≡ true → set (set m a v) b w ≡ set m b w
  set-set m a b v w t = same_map o same _ _ (λ q. grind (arith, get-set o (set m a v) b w q, get-set o m a v q, get-set o m b w q, tells_apart same a b t))

  -- values of two keys are set in any order
  pub set-swap : (m : Map R X) (a b : K) (v w : Option X) → eq_by_cmp R a b ≡ false → set (set m a v) b w ≡ set (set m b w) a v
  set-swap m a b v w f = same_map o same _ _ (λ q.
      grind (arith, get-set o (set m a v) b w q, get-set o m a v q, get-set o (set m b w) a v q, get-set o m b w q, tells_apart same q a, tells_apart same q b, (eq_by_cmp_equiv o).refl a))

pub put_back-none : (s : State) → put_back [] s ≡ s
unfolding put_back
put_back-none s = refl

-- ---- the states before records

pub before_all-push : (rs : List (List Change)) (r : List Change) (s : State) → before_all (rs ++ r ∷ []) s ≡ before_all rs (put_back r s)
unfolding before_all
before_all-push [] r s = refl
before_all-push (first ∷ rs) r s = ap (put_back first) (before_all-push rs r s)

pub befores_push : (rs : List (List Change)) (r : List Change) (s : State) → befores (rs ++ r ∷ []) s ≡ befores rs (put_back r s) ++ put_back r s ∷ []
unfolding befores before_all
befores_push [] r s = refl
befores_push (first ∷ rs) r s = λ i. put_back first (before_all-push rs r s i) ∷ befores_push rs r s i

pub length-befores : (rs : List (List Change)) (s : State) → length (befores rs s) ≡ length rs
unfolding befores
length-befores [] s = refl
length-befores (first ∷ rs) s = ap suc (length-befores rs s)

-- ---- undoing the open record

pub undone-idle : (k : Kept) → k.current ≡ [] → before_open_record k ≡ k
unfolding before_open_record
undone-idle k e = λ i. record {
  state = (ap (λ es. put_back es k.state) e ∙ put_back-none k.state) i;
  current = sym e i;
  records = k.records;
  room = k.room;
}

pub same_undone : (k l : Kept) → put_back k.current k.state ≡ put_back l.current l.state → k.records ≡ l.records → k.room ≡ l.room → before_open_record k ≡ before_open_record l
unfolding before_open_record
same_undone k l state records room = λ i. record { state = state i; current = []; records = records i; room = room i }
