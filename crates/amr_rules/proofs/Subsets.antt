-- Which items of a list are in a set, and when the log is due for a new entry while a list of alerts
-- fires.
use Rattle.std.proofs.Common.{◌≡◌, ◌≤◌, ◌<◌, ℕ, suc, ◌+◌, Bool, Bor, Option, None, get_or, subst, true, false, not, ◌&&◌, ◌||◌, cond, nat_eq, nat_lt, Some, List, [], ◌∷◌, length, map, refl, ap, ◌∙◌, arith}
use Rattle.std.specs.Prelude.{IfSome, MatchOption}
use Rattle.std.specs.List.{AllByRecursion, list_all, HoldsAt}
use Rattle.std.specs.FinMap.{find, put}
use Rattle.std.proofs.lemmas.Bool.Decides.{nat_tests}
use Rattle.amr_labels.specs.Map.{entries, empty, entries-insert, entries-sorted, get-entries}
use Rattle.amr_labels.specs.Set.{is_empty, contains, from_list, items}
use Rattle.amr_labels.specs.Labels.{LabelSet, label_set_cmp, label_set_cmp_total, label_set_cmp-IsAntisymmetric}
use Rattle.amr_labels.proofs.Pairs.{own_values}
use Rattle.amr_time.specs.Time.{Moment, Span}
use Rattle.amr_rules.specs.declared.alert.Alert.{Alert}
use Rattle.amr_rules.specs.declared.dedup.LogEntry.{LogEntry}
use Rattle.amr_rules.specs.Dedup.{LabelSets, needs_update}

-- ---- the items of a set are in it

each_contained : (found : LabelSets) (es : List (LabelSet × Unit {0})) → AllByRecursion (λ e. find label_set_cmp e.0 (entries found) ≡ Some e.1) es → list_all (λ e. contains found e.0) es ≡ true
each_contained found [] own = refl
each_contained found (e ∷ es) own = grind (arith, get-entries found e.0, each_contained found es own.1)

pub items_contained : (found : LabelSets) → list_all (λ e. contains found e.0) (entries found) ≡ true
items_contained found = each_contained found (entries found) (own_values label_set_cmp_total (entries found) (entries-sorted found))

all_at : (f : LabelSet → Bool) (es : List (LabelSet × Unit {0})) (i : ℕ) (d : LabelSet) → list_all (λ e. f e.0) es ≡ true → i < length (map (λ e. e.0) es) → f (get_or (map (λ e. e.0) es) i d) ≡ true
all_at f (e ∷ es) (suc i) d all low = grind (arith, all_at f es i d)
all_at f es i d all low = grind arith

-- what is found at an index among them is in the set
pub item_contained : (found : LabelSets) (xs : List LabelSet) (i : ℕ) (item : Option (Bor LabelSet)) → xs ≡ items found → MatchOption item (length xs ≤ i) (λ x. (i < length xs) × HoldsAt (λ y. x.now ≡ y) xs i)
    → IfSome item (λ x. contains found x.now ≡ true)
item_contained found xs i None are is = tt
item_contained found xs i (Some x) are is =
    let at : x.now ≡ get_or (items found) i x.now = is.1 x.now ∙ ap (λ ys. get_or ys i x.now) are in
    ap (contains found) at ∙ all_at (contains found) (entries found) i x.now (items_contained found) (subst (λ ys. i < length ys) are is.0)

-- ---- the set of a list is a subset if all items of the list are in the other set

all_put : (f : LabelSet → Bool) (k : LabelSet) (es : List (LabelSet × Unit {0})) → list_all f (map (λ e. e.0) (put label_set_cmp k tt es)) ≡ (f k && list_all f (map (λ e. e.0) es))
all_put f k [] = refl
all_put f k (e ∷ es) = grind (arith, all_put f k es, label_set_cmp-IsAntisymmetric k e.0)

none_put : (f : LabelSet → Bool) → list_all f (map (λ e. e.0) (entries (empty {X = Unit {0}} {R = label_set_cmp}))) ≡ true
unfolding entries empty
none_put f = refl

pub all_in : (f : LabelSet → Bool) (ks : List LabelSet) → list_all f (map (λ e. e.0) (entries (from_list {R = label_set_cmp} ks))) ≡ list_all f ks
all_in f [] = none_put f
all_in f (k ∷ ks) = rw (entries-insert label_set_cmp_total (from_list ks) k tt, all_put, all_in f ks) refl

-- ---- the set of a list is empty if the list is

some_put : (k : LabelSet) (es : List (LabelSet × Unit {0})) → nat_eq (length (put label_set_cmp k tt es)) 0 ≡ false
some_put k [] = grind (arith, nat_tests)
some_put k (e ∷ es) = grind (arith, nat_tests)

pub some_listed : (k : LabelSet) (ks : List LabelSet) → is_empty (from_list {R = label_set_cmp} (k ∷ ks)) ≡ false
some_listed k ks = rw (entries-insert label_set_cmp_total (from_list ks) k tt) (some_put k (entries (from_list {R = label_set_cmp} ks)))

none_listed : is_empty (from_list {R = label_set_cmp} []) ≡ true
unfolding entries empty
none_listed = refl

-- ---- the dedup check while a list of alerts fires and none is resolved

pub due : (entry : LogEntry) (firing : List (LabelSet × Alert)) (send_resolved : Bool) (now : Moment) (interval : Span)
    → needs_update (Some entry) (from_list (map (λ alert. alert.0) firing)) empty send_resolved now interval
    ≡ cond (nat_eq (length firing) 0) (not (is_empty entry.firing)) (not (list_all (contains entry.firing) (map (λ alert. alert.0) firing)) || nat_lt (entry.time + interval) now)
unfolding needs_update
due entry [] send_resolved now interval = grind (arith, nat_tests, none_listed, all_in (contains entry.firing) [], none_put (contains entry.resolved))
due entry (alert ∷ firing) send_resolved now interval =
    grind (arith, nat_tests, some_listed alert.0 (map (λ alert. alert.0) firing), all_in (contains entry.firing) (alert.0 ∷ map (λ alert. alert.0) firing), none_put (contains entry.resolved))
