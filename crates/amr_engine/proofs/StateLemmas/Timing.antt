-- Which timers are pending.
use Rattle.std.proofs.Common.{option_map, Ordering, Less, Equal, [], ◌≡◌, ℕ, Bool, true, false, ◌||◌, ◌&&◌, T, List, ◌∷◌, ◌++◌, Option, Some, None, map, refl, sym, ap, ◌∙◌, arith, cond}
use Rattle.std.specs.List.{filter_map, cons_option}
use Rattle.std.specs.Ordering.{nat_cmp, eq_by_cmp, is_eq, ordering_then}
use Rattle.std.specs.Cmp.{IsTotalOrder, tied_itself, tied_then, Equal-is}
use Rattle.std.specs.FinMap.{find, is_sorted, IsAntisymmetric}
use Rattle.std.specs.FinMap.Entries.{below_all}
use Rattle.std.proofs.lemmas.Bool.{true≢false, and_parts, false_from_ne_true}
use Rattle.std.proofs.lemmas.List.Folds.{list_any-append}
use Rattle.std.proofs.Math.Bool.{or-false, and-true, and-false, and_comm}
use Rattle.amr_labels.specs.Labels.{LabelSet, label_set_cmp, label_set_cmp_total, label_set_cmp-IsAntisymmetric}
use Rattle.amr_labels.specs.Map.{Map, get, entries, get-entries, entries-sorted}
use Rattle.amr_labels.proofs.Sorted as sorted
use Rattle.amr_rules.specs.Muting.{Alerts}
use Rattle.amr_time.specs.Time.{Moment}
use Rattle.amr_tables.specs.Members.{has}
use Rattle.amr_engine.specs.declared.state.notification.GroupTimer.{GroupTimer}
use Rattle.amr_config.specs.declared.route_labels.RouteLabels.{RouteLabels}
use Rattle.amr_engine.specs.declared.state.due.Kind.{Kind}
use Rattle.amr_engine.specs.declared.state.due.Kind.TheVariants.{AlertRemoval, GroupRemoval, GroupFlush}
use Rattle.amr_config.specs.RouteLabels.{on_route, route_labels_cmp, route_labels_cmp_total, route_labels_cmp-IsAntisymmetric}
use Rattle.amr_engine.specs.State.Dues.{Due, kind_rank, due_cmp, dues_of, alert_removal_of, group_removal_at, group_removal_of, flush_of}
use Rattle.amr_engine.specs.State.Timed.{alert_moment, group_moment}
use Rattle.std.proofs.lemmas.Map.Views.{tells_apart}

-- ---- what is due of a map's entries

-- whether a moment is the given one
abbrev pub is_at : Moment → Option Moment → Bool
is_at moment None = false
is_at moment (Some other) = eq_by_cmp nat_cmp moment other

map_is : {A : Type 0} (h : A → Due) (es : List A) → map h es ≡ filter_map (λ e. Some (h e)) es
map_is h [] = refl
map_is h (e ∷ es) = ap (λ l. h e ∷ l) (map_is h es)

abbrev tied : Due → Option Due → Bool
tied d None = false
tied d (Some x) = eq_by_cmp due_cmp d x

has_cons : (d : Due) (o : Option Due) (rest : List Due) → has due_cmp (cons_option o rest) d ≡ (tied d o || has due_cmp rest d)
has_cons d o rest = grind arith

abbrev due_with : Kind → RouteLabels → Moment → Due
due_with kind name moment = record { moment = moment; kind = kind; route = name.route; labels = name.labels }

abbrev is_named : Due → RouteLabels → Bool
is_named d name = eq_by_cmp route_labels_cmp (on_route d.route d.labels) name

-- whether a timer is of the kind, with the name, and at the moment
abbrev is_with : Due → Kind → RouteLabels → Option Moment → Bool
is_with d kind name moment = (is_eq (nat_cmp (kind_rank d.kind) (kind_rank kind)) && is_named d name) && is_at d.moment moment

due_tied : (d : Due) (kind : Kind) (name : RouteLabels) (moment : Option Moment) → tied d (option_map (due_with kind name) moment) ≡ is_with d kind name moment
due_tied d kind name None = sym (and-false _)
due_tied d kind name (Some m) =
    let rest = ordering_then (nat_cmp (kind_rank d.kind) (kind_rank kind)) (route_labels_cmp (on_route d.route d.labels) name) in
    sym (tied_then (nat_cmp d.moment m) rest) ∙ and_comm (is_at d.moment (Some m)) (is_eq rest) ∙ ap (λ b. b && is_at d.moment (Some m)) (sym (tied_then _ _))

module _ {K X : Type 0} {R : K → K → Ordering} (o : IsTotalOrder R) (exact : IsAntisymmetric R) (d : Due) (kind : Kind) (name : K → RouteLabels) (q : K) (only : (k : K) → is_named d (name k) ≡ true → eq_by_cmp R q k ≡ true)
    (moment_of : Option X → Option Moment) (none : moment_of None ≡ None) (f : K × X → Option Due) (each : (e : K × X) → f e ≡ option_map (due_with kind (name e.0)) (moment_of (Some e.1))) where
  one_tied : (e : K × X) → tied d (f e) ≡ is_with d kind (name e.0) (moment_of (Some e.1))
  one_tied e = ap (tied d) (each e) ∙ due_tied d kind (name e.0) (moment_of (Some e.1))

  apart : (e : K × X) → eq_by_cmp R q e.0 ≡ false → tied d (f e) ≡ false
  apart e other = false_from_ne_true _ (λ t. true≢false (sym (only e.0 (and_parts _ _ (and_parts _ _ (sym (one_tied e) ∙ t)).0).1) ∙ other))

  none_below : (k : K) (es : List (K × X)) → R q k ≡ Equal → T (below_all R k es) → has due_cmp (filter_map f es) d ≡ false
  none_below k [] t h = refl
  none_below k (e ∷ es) t h =
      let above : R q e.0 ≡ Less = o.congr q k e.0 t ∙ sorted.less _ (sorted.first _ _ h) in
      has_cons d (f e) (filter_map f es) ∙ ap (λ b. b || has due_cmp (filter_map f es) d) (apart e (ap is_eq above)) ∙ none_below k es t (sorted.second _ _ h)

  found_in : (es : List (K × X)) → T (is_sorted R es) → has due_cmp (filter_map f es) d ≡ is_with d kind (name q) (moment_of (find R q es))
  found_in [] h = sym (ap (λ m. is_with d kind (name q) m) none ∙ and-false _)
  found_in (e ∷ es) h =
      has_cons d (f e) (filter_map f es)
      ∙ elim (eq_by_cmp R q e.0) as (λ b. eq_by_cmp R q e.0 ≡ b → (tied d (f e) || has due_cmp (filter_map f es) d) ≡ is_with d kind (name q) (moment_of (cond b (Some e.1) (find R q es)))) [
        | true ↦ λ t. ap (λ b. tied d (f e) || b) (none_below e.0 es ((Equal-is _).0 t) (sorted.first _ _ h)) ∙ or-false _ ∙ one_tied e ∙ ap (λ k. is_with d kind (name k) (moment_of (Some e.1))) (sym (tells_apart exact q e.0 t))
        | false ↦ λ t. ap (λ b. b || has due_cmp (filter_map f es) d) (apart e t) ∙ found_in es (sorted.second _ _ h)
      ] refl

  found_of : (m : Map R X) → has due_cmp (filter_map f (entries m)) d ≡ is_with d kind (name q) (moment_of (get m q))
  found_of m = found_in (entries m) (entries-sorted m) ∙ ap (λ x. is_with d kind (name q) (moment_of x)) (sym (get-entries m q))

-- ---- what is due, by kind

abbrev GroupTimers : Type 0
GroupTimers = Map route_labels_cmp GroupTimer

-- whether the timer of a kind, on a route, with labels is at the moment
abbrev pub is_due : Alerts → GroupTimers → Moment → Kind → ℕ → LabelSet → Bool
is_due a c moment AlertRemoval route labels = is_eq (nat_cmp route 0) && is_at moment (alert_moment (get a labels))
is_due a c moment GroupRemoval route labels = is_at moment (group_moment GroupRemoval (get c (on_route route labels)))
is_due a c moment GroupFlush route labels = is_at moment (group_moment GroupFlush (get c (on_route route labels)))

on_route_0 : (route : ℕ) (labels l : LabelSet) → (is_eq (nat_cmp route 0) && eq_by_cmp label_set_cmp labels l) ≡ eq_by_cmp route_labels_cmp (on_route route labels) (on_route 0 l)
on_route_0 route labels l = tied_then (nat_cmp route 0) (label_set_cmp labels l)

of_one_kind : (a : Alerts) (c : GroupTimers) (n : Moment) (kind : Kind) (route : ℕ) (labels : LabelSet) →
    let d = due_with kind (on_route route labels) n in
    ((is_with d AlertRemoval (on_route 0 labels) (alert_moment (get a labels)) || is_with d GroupRemoval (on_route route labels) (group_moment GroupRemoval (get c (on_route route labels))))
    || is_with d GroupFlush (on_route route labels) (group_moment GroupFlush (get c (on_route route labels)))) ≡ is_due a c n kind route labels
of_one_kind a c n AlertRemoval route labels =
    or-false _ ∙ or-false _ ∙ ap (λ b. b && is_at n (alert_moment (get a labels))) (sym (on_route_0 route labels labels) ∙ ap (λ o. is_eq (nat_cmp route 0) && is_eq o) (tied_itself label_set_cmp_total labels) ∙ and-true _)
of_one_kind a c n GroupRemoval route labels = or-false _ ∙ ap (λ o. is_eq o && is_at n (group_moment GroupRemoval (get c (on_route route labels)))) (tied_itself route_labels_cmp_total (on_route route labels))
of_one_kind a c n GroupFlush route labels = ap (λ o. is_eq o && is_at n (group_moment GroupFlush (get c (on_route route labels)))) (tied_itself route_labels_cmp_total (on_route route labels))

removal_is : (group : RouteLabels × GroupTimer) → group_removal_of group ≡ option_map (due_with GroupRemoval group.0) (group_removal_at group.1)
removal_is group = grind arith

-- a timer is in the list where it is at its moment
pub members : (a : Alerts) (c : GroupTimers) (d : Due) → has due_cmp (dues_of a c) d ≡ is_due a c d.moment d.kind d.route d.labels
members a c d =
    list_any-append (eq_by_cmp due_cmp d) (map alert_removal_of (entries a) ++ filter_map group_removal_of (entries c)) (map flush_of (entries c))
    ∙ ap (λ b. b || has due_cmp (map flush_of (entries c)) d) (list_any-append (eq_by_cmp due_cmp d) (map alert_removal_of (entries a)) (filter_map group_removal_of (entries c)))
    ∙ (λ i. (alerts i || removals i) || flushes i) ∙ of_one_kind a c d.moment d.kind d.route d.labels
  where
    key : RouteLabels
    key = on_route d.route d.labels

    alerts : has due_cmp (map alert_removal_of (entries a)) d ≡ is_with d AlertRemoval (on_route 0 d.labels) (alert_moment (get a d.labels))
    alerts = ap (λ l. has due_cmp l d) (map_is alert_removal_of (entries a))
        ∙ found_of label_set_cmp_total label_set_cmp-IsAntisymmetric d AlertRemoval (on_route 0) d.labels (λ l e. (and_parts (is_eq (nat_cmp d.route 0)) (eq_by_cmp label_set_cmp d.labels l) (on_route_0 d.route d.labels l ∙ e)).1) alert_moment refl (λ e. Some (alert_removal_of e)) (λ e. refl) a

    removals : has due_cmp (filter_map group_removal_of (entries c)) d ≡ is_with d GroupRemoval key (group_moment GroupRemoval (get c key))
    removals = found_of route_labels_cmp_total route_labels_cmp-IsAntisymmetric d GroupRemoval (λ k. k) key (λ k e. e) (group_moment GroupRemoval) refl group_removal_of removal_is c

    flushes : has due_cmp (map flush_of (entries c)) d ≡ is_with d GroupFlush key (group_moment GroupFlush (get c key))
    flushes = ap (λ l. has due_cmp l d) (map_is flush_of (entries c))
        ∙ found_of route_labels_cmp_total route_labels_cmp-IsAntisymmetric d GroupFlush (λ k. k) key (λ k e. e) (group_moment GroupFlush) refl (λ e. Some (flush_of e)) (λ e. refl) c
