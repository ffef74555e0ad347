-- Who was notified of some members needn't be notified of fewer.
use Rattle.std.proofs.Common.{[], ◌≡◌, Bool, true, false, List, ◌∷◌, Option, map, refl, sym, ◌∙◌, arith}
use Rattle.std.specs.List.{list_all, filter}
use Rattle.std.proofs.lemmas.List.Elements.{All-filter}
use Rattle.std.proofs.lemmas.List.Folds.{list_all-map}
use Rattle.std.proofs.lemmas.List.Sums.{AllPass-from_list_all, list_all-from_AllPass}
use Rattle.amr_labels.specs.Map.{get}
use Rattle.amr_labels.specs.Set.{is_subset, is_empty, contains}
use Rattle.amr_labels.specs.Labels.{LabelSet}
use Rattle.amr_time.specs.Time.{Moment, Span}
use Rattle.amr_config.specs.declared.stated.receiver.Integration.{Integration}
use Rattle.amr_config.specs.Routing.{integrations_of, repeat_interval_of}
use Rattle.amr_rules.specs.declared.alert.Alert.{Alert}
use Rattle.amr_rules.specs.declared.dedup.LogEntry.{LogEntry}
use Rattle.amr_rules.specs.Dedup.{LabelSets, needs_update}
use Rattle.amr_rules.proofs.Subsets.{all_in, some_listed}
use Rattle.amr_config.specs.declared.route_labels.RouteLabels.{RouteLabels}
use Rattle.amr_engine.specs.State.State.{State}
use Rattle.amr_engine.specs.Flush.{Members, labels_of, log_key_of}
use Rattle.amr_engine.specs.Quiet.{is_notified, are_notified}

-- a test of a list that follows from another for each item
pub all_weaker : {X : Type 0} (p q : X → Bool) → ((x : X) → p x ≡ true → q x ≡ true) → (xs : List X) → list_all p xs ≡ true → list_all q xs ≡ true
all_weaker p q then xs all = list_all-from_AllPass q xs (λ k d less. then _ (AllPass-from_list_all p xs all k d less))

-- a test of all items, for those that another test keeps
pub all_filter : {X : Type 0} (f p : X → Bool) (xs : List X) → list_all f xs ≡ true → list_all f (filter p xs) ≡ true
all_filter f p xs all = list_all-from_AllPass f (filter p xs) (All-filter p (λ x. f x ≡ true) xs (AllPass-from_list_all f xs all))

-- ---- a set of fewer members

all_kept : (f : LabelSet → Bool) (p : LabelSet × Alert → Bool) (ms : Members) → list_all f (map (λ member. member.0) ms) ≡ true → list_all f (map (λ member. member.0) (filter p ms)) ≡ true
all_kept f p ms all = list_all-map f (λ (m : LabelSet × Alert). m.0) (filter p ms) ∙ all_filter (λ m. f m.0) p ms (sym (list_all-map f (λ (m : LabelSet × Alert). m.0) ms) ∙ all)

fewer : (p : LabelSet × Alert → Bool) (ms : Members) (found : LabelSets) → is_subset (labels_of ms) found ≡ true → is_subset (labels_of (filter p ms)) found ≡ true
fewer p ms found all =
    all_in (contains found) (map (λ member. member.0) (filter p ms))
    ∙ all_kept (contains found) p ms (sym (all_in (contains found) (map (λ member. member.0) ms)) ∙ all)

some_labels : (m : LabelSet × Alert) (ms : Members) → is_empty (labels_of (m ∷ ms)) ≡ false
some_labels m ms = some_listed m.0 (map (λ member. member.0) ms)

-- ---- the dedup check

fewer_fire : (entry : Option LogEntry) (firing less resolved : LabelSets) (send_resolved : Bool) (now : Moment) (interval : Span) → is_empty firing ≡ false → is_empty less ≡ false
    → ((found : LabelSets) → is_subset firing found ≡ true → is_subset less found ≡ true)
    → needs_update entry firing resolved send_resolved now interval ≡ false → needs_update entry less resolved send_resolved now interval ≡ false
unfolding needs_update
fewer_fire entry firing less resolved send_resolved now interval some some_fewer then kept = grind arith

module _ (s : State) (group : RouteLabels) (from until : Moment) (firing fewer_firing : LabelSets) (some : is_empty firing ≡ false) (some_fewer : is_empty fewer_firing ≡ false)
    (then : (found : LabelSets) → is_subset firing found ≡ true → is_subset fewer_firing found ≡ true) where
  one_notified : (integration : Integration) → is_notified s group from until firing integration ≡ true → is_notified s group from until fewer_firing integration ≡ true
  one_notified integration notified =
      let entry : Option LogEntry = get s.log (log_key_of s.config group integration) in
      grind (arith, fewer_fire entry firing fewer_firing (labels_of []) integration.send_resolved from (repeat_interval_of s.config group.route) some some_fewer then)

module _ (s : State) (group : RouteLabels) (from until : Moment) where
  among_notified : (m : LabelSet × Alert) (ms kept : Members) → ((found : LabelSets) → is_subset (labels_of (m ∷ ms)) found ≡ true → is_subset (labels_of kept) found ≡ true)
      → are_notified s group from until (m ∷ ms) ≡ true → are_notified s group from until kept ≡ true
  among_notified m ms [] then notified = refl
  among_notified m ms (k ∷ kept) then notified =
      all_weaker (is_notified s group from until (labels_of (m ∷ ms))) (is_notified s group from until (labels_of (k ∷ kept)))
      (one_notified s group from until (labels_of (m ∷ ms)) (labels_of (k ∷ kept)) (some_labels m ms) (some_labels k kept) then) (integrations_of s.config group.route) notified

  -- who was notified of all members was notified of those that a test keeps
  pub fewer_notified : (p : LabelSet × Alert → Bool) (ms : Members) → are_notified s group from until ms ≡ true → are_notified s group from until (filter p ms) ≡ true
  fewer_notified p [] notified = refl
  fewer_notified p (m ∷ ms) notified = among_notified m ms (filter p (m ∷ ms)) (fewer p (m ∷ ms)) notified
