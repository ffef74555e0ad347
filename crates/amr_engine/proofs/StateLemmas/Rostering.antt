-- The members of groups by number, how a change of one of them goes on, and the members of a group.
use Rattle.std.proofs.Common.{◌==◌, slice_get, option_map, IsPermutation, Ordering, Less, [], ◌≡◌, ◌≤◌, ◌<◌, ℕ, Bool, true, false, IsTrue, cond, ◌||◌, ◌&&◌, T, List, ◌∷◌, Option, Some, None, is_some, map, length, get_or, ◌++◌, ◌+◌, refl, sym, ap, subst, ◌∙◌, arith}
use Rattle.std.specs.List.{All, AllByRecursion, IsDistinct, list_any, filter, filter_map, cons_option}
use Rattle.std.specs.List.Sorted.{IsStrictlySortedBy, IsSortedBy}
use Rattle.std.specs.Ordering.{nat_cmp, eq_by_cmp, is_eq, is_lt, ordering_then}
use Rattle.std.specs.Cmp.{nat_cmp_total, eq_by_cmp_equiv, tied_itself, both_ways}
use Rattle.std.specs.FinMap.{find, is_sorted}
use Rattle.std.specs.FinMap.Entries.{below_all, is_some-find}
use Rattle.std.proofs.lemmas.Bool.{true≢false, eq-eqb, eqb-true, or_right, false_from_ne_true, and_parts}
use Rattle.std.proofs.lemmas.Bool.Decides.{nat_tests}
use Rattle.std.proofs.lemmas.List.Elements.{All-nil, All-cons, All-head, All-tail, recursion_from_All}
use Rattle.std.proofs.lemmas.List.Sorted.{All-permutation, IsPermutation-map, list_any-IsPermutation}
use Rattle.std.proofs.lemmas.Map.Keys.{IsDistinct-IsPermutation}
use Rattle.std.proofs.lemmas.Option.{slice_get-get_or}
use Rattle.std.proofs.Math.Bool.{and-false}
use Rattle.std.proofs.lemmas.Map.Views.{tells_apart}
use Rattle.amr_labels.specs.Labels.{LabelSet, label_set_cmp, label_set_cmp_total, label_set_cmp-IsAntisymmetric}
use Rattle.amr_labels.specs.Map.{Map, get, set, entries, get-set, get-entries, entries-sorted}
use Rattle.amr_labels.proofs.Sorted.{first, second, less}
use Rattle.amr_config.specs.Stated.Config.{Config}
use Rattle.amr_rules.specs.declared.alert.Alert.{Alert}
use Rattle.amr_tables.specs.Places.{is_marked}
use Rattle.amr_tables.proofs.Placing.{length-push}
use Rattle.amr_tables.proofs.Present.{get_push, marked_push}
use Rattle.amr_tables.specs.Members.{has}
use Rattle.amr_tables.specs.Numbered.{Numbered, map_of, number_of, next_number, GetsNumber, IsNumber, IsNumbering}
use Rattle.amr_tables.specs.Grouped.{Grouped, IsIn, AreNumbersOf}
use Rattle.amr_tables.proofs.Naming.{key_at_number, one_key, value_at_number, number_of_value}
use Rattle.amr_tables.proofs.Sorting.{same_from_members}
use Rattle.amr_tables.proofs.Counting.{strictly}
use Rattle.amr_engine.specs.declared.state.notification.GroupTimer.{GroupTimer}
use Rattle.amr_config.specs.declared.route_labels.RouteLabels.{RouteLabels}
use Rattle.amr_config.specs.RouteLabels.{on_route, route_labels_cmp, route_labels_cmp_total, route_labels_cmp-IsAntisymmetric}
use Rattle.amr_engine.specs.State.State.{group_key, members_among}
use Rattle.amr_engine.specs.State.Rostered.{member_at, IsGrouped}
use Rattle.amr_engine.proofs.StateLemmas.Scheduling.{not_none, the_value, kept_number}
use Rattle.amr_engine.proofs.PlacedLists.{get-each}

-- ---- truth values

tied_key : (k other : RouteLabels) → is_eq (route_labels_cmp other k) ≡ true → other ≡ k
tied_key k other e = tells_apart route_labels_cmp-IsAntisymmetric other k e

-- each number of a list has what each that is among it has
all_among : (P : ℕ → Type 0) (ns : List ℕ) → ((n : ℕ) → IsTrue (list_any (λ m. n == m) ns) → P n) → AllByRecursion P ns
all_among P [] h = tt
all_among P (x ∷ ns) h = (h x (ap (λ b. b || list_any (λ m. x == m) ns) (eq-eqb x x refl)), all_among P ns (λ n e. h n (or_right (n == x) _ e)))

-- ---- places and numbers

-- a key with a value has a number
the_number : {V : Type 0} (t : Numbered RouteLabels V) → IsNumbering route_labels_cmp t → (key : RouteLabels) → IsTrue (is_some (get (map_of route_labels_cmp t) key)) → (n : ℕ) × (number_of route_labels_cmp t key ≡ Some n)
the_number t is key h =
    let value = the_value (get (map_of route_labels_cmp t) key) h in
    number_of_value route_labels_cmp_total route_labels_cmp-IsAntisymmetric t is key value.0 value.1

-- ---- the invariant

module _ (config : Config) (a : Numbered RouteLabels Alert) (gs : Numbered RouteLabels GroupTimer) (m : Grouped) (is : IsGrouped config a gs m) where
  home_within : (key : RouteLabels) (n : ℕ) → number_of route_labels_cmp a key ≡ Some n → n < length m.homes
  home_within key n at = let less = is.numbering.within key n at in omega (arith, less, is.homes)

  -- the same members, with room for more groups
  pub grouped_same : (b : Numbered RouteLabels Alert) (hs : Numbered RouteLabels GroupTimer) (k : Grouped) → IsNumbering route_labels_cmp b → b.numbers ≡ a.numbers → next_number b ≡ next_number a → map_of route_labels_cmp b ≡ map_of route_labels_cmp a
      → hs.numbers ≡ gs.numbers → next_number hs ≡ next_number gs → k.homes ≡ m.homes → k.present ≡ m.present → length m.rooms ≤ length k.rooms → IsGrouped config b hs k
  grouped_same b hs k numbering numbers next shows groups group_next homes present more = record {
    numbering = numbering;
    homes = ap length homes ∙ is.homes ∙ sym next;
    home = λ key n at. ap (find route_labels_cmp (group_key config key)) groups ∙ is.home key n (before key n at) ∙ ap (λ l. slice_get l n) (sym homes);
    present = λ key n at. ap (λ l. is_marked l n) present ∙ is.present key n (before key n at) ∙ ap (λ (s : Map route_labels_cmp Alert). is_some (get s key)) (sym shows);
    named = λ n marked. let by = is.named n (ap (λ l. is_marked l n) (sym present) ∙ marked) in (by.0, ap (find route_labels_cmp by.0) numbers ∙ by.1);
    groups = omega (arith, is.groups, group_next, more);
  }
    where
      before : (key : RouteLabels) (n : ℕ) → number_of route_labels_cmp b key ≡ Some n → number_of route_labels_cmp a key ≡ Some n
      before key n at = ap (find route_labels_cmp key) (sym numbers) ∙ at

  -- a member has come, has changed, or has left
  pub grouped_set : (b : Numbered RouteLabels Alert) (k : Grouped) (key : RouteLabels) (n : ℕ) (w : Option Alert) → IsNumbering route_labels_cmp b → number_of route_labels_cmp a key ≡ Some n → b.numbers ≡ a.numbers → next_number b ≡ next_number a → map_of route_labels_cmp b ≡ set (map_of route_labels_cmp a) key w
      → ((x : ℕ) → is_marked k.present x ≡ cond (x == n) (is_some w) (is_marked m.present x)) → k.homes ≡ m.homes → length k.rooms ≡ length m.rooms → IsGrouped config b gs k
  grouped_set b k key n w numbering at numbers next shows present homes rooms = record {
    numbering = numbering;
    homes = ap length homes ∙ is.homes ∙ sym next;
    home = λ other x there. is.home other x (before other x there) ∙ ap (λ l. slice_get l x) (sym homes);
    present = λ other x there.
        let one = one_key route_labels_cmp_total route_labels_cmp-IsAntisymmetric a is.numbering key other n at in
        let itself = (eq_by_cmp_equiv route_labels_cmp_total).refl key in
        grind (arith, nat_tests, present x, value other, is.present other x (before other x there), one, itself, tied_key key other);
    named = λ x marked. by_number_now x (x == n) refl (sym (present x) ∙ marked);
    groups = omega (arith, is.groups, rooms);
  }
    where
      before : (other : RouteLabels) (x : ℕ) → number_of route_labels_cmp b other ≡ Some x → number_of route_labels_cmp a other ≡ Some x
      before other x there = ap (find route_labels_cmp other) (sym numbers) ∙ there

      value : (other : RouteLabels) → get (map_of route_labels_cmp b) other ≡ cond (eq_by_cmp route_labels_cmp other key) w (get (map_of route_labels_cmp a) other)
      value other = ap (λ (s : Map route_labels_cmp Alert). get s other) shows ∙ get-set route_labels_cmp_total (map_of route_labels_cmp a) key w other

      by_number_now : (x : ℕ) (t : Bool) → (x == n) ≡ t → IsTrue (cond t (is_some w) (is_marked m.present x)) → IsNumber route_labels_cmp b x
      by_number_now x true e marked = (key, ap (find route_labels_cmp key) numbers ∙ at ∙ ap (λ n. Some n) (sym (eqb-true x n e)))
      by_number_now x false e marked = let by = is.named x marked in (by.0, ap (find route_labels_cmp by.0) numbers ∙ by.1)

  -- a place for a member is made, of a group
  pub grouped_placed : (b : Numbered RouteLabels Alert) (k : Grouped) (key : RouteLabels) (g : ℕ) → IsNumbering route_labels_cmp b → number_of route_labels_cmp a key ≡ None → GetsNumber route_labels_cmp a b key (next_number a) → next_number b ≡ next_number a + 1 → map_of route_labels_cmp b ≡ map_of route_labels_cmp a
      → number_of route_labels_cmp gs (group_key config key) ≡ Some g → k.homes ≡ m.homes ++ g ∷ [] → k.present ≡ m.present ++ false ∷ [] → length m.rooms ≤ length k.rooms → IsGrouped config b gs k
  grouped_placed b k key g numbering new gets next shows in_g homes present rooms = record {
    numbering = numbering;
    homes = ap length homes ∙ length-push m.homes g ∙ omega (arith, is.homes, next);
    home = λ other n at. grind (arith, nat_tests, gets other, tied_key key other, home_now n, is.home other n, home_within other n, is.homes);
    present = λ other n at. grind (arith, gets other, tied_key key other, present_now n, is.present other n, nobody, no_value);
    named = λ n marked. let by = is.named n (sym (present_now n) ∙ marked) in (by.0, kept_number route_labels_cmp-IsAntisymmetric a b key (next_number a) new gets by.0 n by.1);
    groups = omega (arith, is.groups, rooms);
  }
    where
      home_now : (n : ℕ) → slice_get k.homes n ≡ cond (n == length m.homes) (Some g) (slice_get m.homes n)
      home_now n = ap (λ l. slice_get l n) homes ∙ get_push m.homes g n

      present_now : (n : ℕ) → is_marked k.present n ≡ is_marked m.present n
      present_now n = ap (λ l. is_marked l n) present ∙ marked_push m.present n

      no_value : is_some (get (map_of route_labels_cmp a) key) ≡ false
      no_value = false_from_ne_true _ (λ h. let by = the_number a is.numbering key h in not_none by.0 ⊥ (sym by.1 ∙ new))

      nobody : is_marked m.present (next_number a) ≡ false
      nobody = false_from_ne_true _ (λ h. let by = is.named (next_number a) h in let less = is.numbering.within by.0 (next_number a) by.1 in omega (arith, less))

  -- a group gets a number
  pub group_placed : (hs : Numbered RouteLabels GroupTimer) (key : RouteLabels) → number_of route_labels_cmp gs key ≡ None → GetsNumber route_labels_cmp gs hs key (next_number gs) → next_number hs ≤ length m.rooms → IsGrouped config a hs m
  group_placed hs key new gets room = record {
    numbering = is.numbering;
    homes = is.homes;
    home = λ k n at.
        let own = slice_get-get_or m.homes n 0 (home_within k n at) in
        kept_number route_labels_cmp-IsAntisymmetric gs hs key (next_number gs) new gets (group_key config k) (get_or m.homes n 0) (is.home k n at ∙ own) ∙ sym own;
    present = is.present;
    named = is.named;
    groups = room;
  }

pub grouped_first : (config : Config) (a : Numbered RouteLabels Alert) (gs : Numbered RouteLabels GroupTimer) (m : Grouped) → IsNumbering route_labels_cmp a → a.numbers ≡ [] → a.cells ≡ [] → gs.cells ≡ [] → m ≡ record { homes = []; present = []; rooms = [] } → IsGrouped config a gs m
grouped_first config a gs m numbering none no_cells no_groups nothing = record {
  numbering = numbering;
  homes = ap (λ (m : Grouped). length m.homes) nothing ∙ ap length (sym no_cells);
  home = λ key n at. not_none n _ (sym at ∙ ap (find route_labels_cmp key) none);
  present = λ key n at. not_none n _ (sym at ∙ ap (find route_labels_cmp key) none);
  named = λ n marked. absurd (true≢false (sym marked ∙ ap (λ (m : Grouped). is_marked m.present n) nothing));
  groups = omega (arith, ap length no_groups);
}

-- ---- the number of a member of the group

module _ (config : Config) (a : Numbered RouteLabels Alert) (gs : Numbered RouteLabels GroupTimer) (m : Grouped) (is : IsGrouped config a gs m) (group : RouteLabels) (numbering : IsNumbering route_labels_cmp gs) (g : ℕ) (at : number_of route_labels_cmp gs group ≡ Some g) where
  -- who has a number in the group is a member of it
  pub member_of : (n : ℕ) → IsIn m n g → (key : RouteLabels) × (number_of route_labels_cmp a key ≡ Some n) × (IsTrue (is_some (get (map_of route_labels_cmp a) key)) × (group_key config key ≡ group))
  member_of n there =
      let by = is.named n there.1 in
      (by.0, by.1, (sym (is.present by.0 n by.1) ∙ there.1, one_key route_labels_cmp_total route_labels_cmp-IsAntisymmetric gs numbering (group_key config by.0) group g (is.home by.0 n by.1 ∙ there.0) at))

  -- a member of the group has a number in it
  pub number_in : (key : RouteLabels) → IsTrue (is_some (get (map_of route_labels_cmp a) key)) → group_key config key ≡ group → (n : ℕ) × (number_of route_labels_cmp a key ≡ Some n) × IsIn m n g
  number_in key h e =
      let by = the_number a is.numbering key h in
      (by.0, by.1, (sym (is.home key by.0 by.1) ∙ ap (number_of route_labels_cmp gs) e ∙ at, is.present key by.0 by.1 ∙ h))

-- ---- the members of a group, from the members of all

abbrev labels_of_members : List (LabelSet × Alert) → List LabelSet
labels_of_members members = map (λ member. member.0) members

-- the labels of a member on a route with its alert, if it has one
abbrev with_alert : Map route_labels_cmp Alert → ℕ → LabelSet → Option (LabelSet × Alert)
with_alert placements route labels = option_map (λ alert. (labels, alert)) (get placements (on_route route labels))

skips : (a b c : Bool) → (a ≡ true → b ≡ false) → (b && c) ≡ (b && (a || c))
skips a b c f = grind arith

keeps : (a b c : Bool) → (a ≡ true → b ≡ true) → (a || (b && c)) ≡ (b && (a || c))
keeps a b c f = grind arith

module _ (config : Config) (group : RouteLabels) where
  abbrev is_in : RouteLabels → Bool
  is_in key = eq_by_cmp route_labels_cmp (group_key config key) group

  abbrev among : List (RouteLabels × Alert) → List (LabelSet × Alert)
  among es = map (λ placement. (placement.0.labels, placement.1)) (filter (λ placement. is_in placement.0) es)

  -- a member of the group is on its route
  on_its_route : (key : RouteLabels) → is_in key ≡ true → on_route group.route key.labels ≡ key
  on_its_route key e = λ i. on_route (sym (ap (λ (r : RouteLabels). r.route) (tied_key group (group_key config key) e)) i) key.labels

  same_labels : (l : LabelSet) (key : RouteLabels) → is_in key ≡ true → eq_by_cmp route_labels_cmp (on_route group.route l) key ≡ eq_by_cmp label_set_cmp l key.labels
  same_labels l key e = grind (arith, tied_key group (group_key config key) e, tied_itself nat_cmp_total group.route)

  has_among : (l : LabelSet) (es : List (RouteLabels × Alert)) → has label_set_cmp (labels_of_members (among es)) l ≡ (is_in (on_route group.route l) && list_any (eq_by_cmp route_labels_cmp (on_route group.route l)) (map (λ e. e.0) es))
  has_among l [] = sym (and-false (is_in (on_route group.route l)))
  has_among l (e ∷ es) =
      let own = on_route group.route l in
      let rest = list_any (eq_by_cmp route_labels_cmp own) (map (λ e. e.0) es) in
      elim (is_in e.0) as (λ b. is_in e.0 ≡ b → has label_set_cmp (labels_of_members (map (λ placement. (placement.0.labels, placement.1)) (cond b (e ∷ filter (λ placement. is_in placement.0) es) (filter (λ placement. is_in placement.0) es)))) l
      ≡ (is_in own && (eq_by_cmp route_labels_cmp own e.0 || rest))) [
        | true ↦ λ in_e. ap (λ b. eq_by_cmp label_set_cmp l e.0.labels || b) (has_among l es) ∙ ap (λ b. b || (is_in own && rest)) (sym (same_labels l e.0 in_e))
            ∙ keeps (eq_by_cmp route_labels_cmp own e.0) (is_in own) rest (λ t. ap is_in (tied_key e.0 own t) ∙ in_e)
        | false ↦ λ in_e. has_among l es ∙ skips (eq_by_cmp route_labels_cmp own e.0) (is_in own) rest (λ t. ap is_in (tied_key e.0 own t) ∙ in_e)
      ] refl

  -- a label set is among the members of the group just where it is a member on the route
  has_member : (m : Map route_labels_cmp Alert) (l : LabelSet) → has label_set_cmp (labels_of_members (members_among config m group)) l ≡ (is_in (on_route group.route l) && is_some (get m (on_route group.route l)))
  has_member m l =
      has_among l (entries m) ∙ ap (λ b. is_in (on_route group.route l) && b) (sym (is_some-find route_labels_cmp (on_route group.route l) (entries m)) ∙ ap is_some (sym (get-entries m (on_route group.route l))))

  below_among : (k : RouteLabels) (es : List (RouteLabels × Alert)) → is_in k ≡ true → T (below_all route_labels_cmp k es) → AllByRecursion (λ y. label_set_cmp k.labels y ≡ Less) (labels_of_members (among es))
  below_among k [] in_k h = tt
  below_among k (f ∷ fs) in_k h =
      elim (is_in f.0) as (λ b. is_in f.0 ≡ b → AllByRecursion (λ y. label_set_cmp k.labels y ≡ Less) (labels_of_members (map (λ placement. (placement.0.labels, placement.1)) (cond b (f ∷ filter (λ placement. is_in placement.0) fs) (filter (λ placement. is_in placement.0) fs))))) [
        | true ↦ λ in_f. (by_labels in_f (less _ (first _ _ h)), below_among k fs in_k (second _ _ h))
        | false ↦ λ _. below_among k fs in_k (second _ _ h)
      ] refl
    where
      by_labels : is_in f.0 ≡ true → route_labels_cmp k f.0 ≡ Less → label_set_cmp k.labels f.0.labels ≡ Less
      by_labels in_f less = grind (arith, tied_key group (group_key config k) in_k, tied_key group (group_key config f.0) in_f, tied_itself nat_cmp_total f.0.route)

  sorted_among : (es : List (RouteLabels × Alert)) → T (is_sorted route_labels_cmp es) → IsStrictlySortedBy label_set_cmp (labels_of_members (among es))
  unfolding IsStrictlySortedBy
  sorted_among [] h = tt
  sorted_among (e ∷ es) h =
      elim (is_in e.0) as (λ b. is_in e.0 ≡ b → IsStrictlySortedBy label_set_cmp (labels_of_members (map (λ placement. (placement.0.labels, placement.1)) (cond b (e ∷ filter (λ placement. is_in placement.0) es) (filter (λ placement. is_in placement.0) es))))) [
        | true ↦ λ in_e. (below_among e.0 es in_e (first _ _ h), sorted_among es (second _ _ h))
        | false ↦ λ _. sorted_among es (second _ _ h)
      ] refl

  -- each label set of the group has its alert
  looked_up : (m : Map route_labels_cmp Alert) (es : List (RouteLabels × Alert)) → AllByRecursion (λ e. get m e.0 ≡ Some e.1) es → filter_map (with_alert m group.route) (labels_of_members (among es)) ≡ among es
  looked_up m [] h = refl
  looked_up m (e ∷ es) h = grind (arith, looked_up m es h.1, on_its_route e.0)

  pub members_are : (m : Map route_labels_cmp Alert) → filter_map (with_alert m group.route) (labels_of_members (members_among config m group)) ≡ members_among config m group
  members_are m = looked_up m (entries m) (recursion_from_All (λ (e : RouteLabels × Alert). get m e.0 ≡ Some e.1) (entries m) (get-each route_labels_cmp_total route_labels_cmp-IsAntisymmetric m))

  -- a list in order of the same label sets lists the members
  listed : (m : Map route_labels_cmp Alert) (ls : List LabelSet) → IsStrictlySortedBy label_set_cmp ls → ((l : LabelSet) → has label_set_cmp ls l ≡ (is_in (on_route group.route l) && is_some (get m (on_route group.route l)))) → ls ≡ labels_of_members (members_among config m group)
  listed m ls sorted same = same_from_members label_set_cmp label_set_cmp_total label_set_cmp-IsAntisymmetric ls _ sorted (sorted_among (entries m) (entries-sorted m)) (λ l. same l ∙ sym (has_member m l))

-- ---- the members by their numbers

module _ (config : Config) (a : Numbered RouteLabels Alert) (gs : Numbered RouteLabels GroupTimer) (m : Grouped) (is : IsGrouped config a gs m) (group : RouteLabels) where
  -- no member is in a group without a number
  pub no_members : number_of route_labels_cmp gs group ≡ None → [] ≡ members_among config (map_of route_labels_cmp a) group
  unfolding IsStrictlySortedBy
  no_members none = empty _ (listed config group (map_of route_labels_cmp a) [] tt (λ l. nobody (on_route group.route l)))
    where
      empty : (ms : List (LabelSet × Alert)) → [] ≡ labels_of_members ms → [] ≡ ms
      empty [] e = refl
      empty (x ∷ ms) e = absurd (cc)

      nobody : (key : RouteLabels) → false ≡ (is_in config group key && is_some (get (map_of route_labels_cmp a) key))
      nobody key = sym (false_from_ne_true _ (λ h.
          let parts = and_parts (is_in config group key) (is_some (get (map_of route_labels_cmp a) key)) h in
          let by = the_number a is.numbering key parts.1 in
          let own = slice_get-get_or m.homes by.0 0 (home_within config a gs m is key by.0 by.1) in
          not_none _ _ (sym own ∙ sym (is.home key by.0 by.1) ∙ ap (number_of route_labels_cmp gs) (tied_key group (group_key config key) parts.0) ∙ none)))

  module _ (numbering : IsNumbering route_labels_cmp gs) (g : ℕ) (at : number_of route_labels_cmp gs group ≡ Some g) where
    abbrev IsMember : ℕ → Type 0
    IsMember n = IsIn m n g

    -- the member of the group at a number
    record MemberAt (n : ℕ) : Type 0 where
      labels : LabelSet
      alert : Alert
      number : number_of route_labels_cmp a (on_route group.route labels) ≡ Some n
      value : get (map_of route_labels_cmp a) (on_route group.route labels) ≡ Some alert
      grouped : group_key config (on_route group.route labels) ≡ group

    the_member : (n : ℕ) → IsMember n → MemberAt n
    the_member n there =
        let by = member_of config a gs m is group numbering g at n there in
        let value = the_value (get (map_of route_labels_cmp a) by.0) by.2.0 in
        let route : by.0.route ≡ group.route = ap (λ (r : RouteLabels). r.route) by.2.1 in
        let same : on_route group.route by.0.labels ≡ by.0 = λ i. on_route (sym route i) by.0.labels in
        record {
          labels = by.0.labels;
          alert = value.0;
          number = ap (number_of route_labels_cmp a) same ∙ by.1;
          value = ap (get (map_of route_labels_cmp a)) same ∙ value.1;
          grouped = ap (group_key config) same ∙ by.2.1;
        }

    abbrev pair : (n : ℕ) → IsMember n → LabelSet × Alert
    pair n there = ((the_member n there).labels, (the_member n there).alert)

    found_at : (n : ℕ) (there : IsMember n) → member_at a n ≡ Some (pair n there)
    found_at n there =
        let it = the_member n there in
        let key = on_route group.route it.labels in
        grind (arith, key_at_number route_labels_cmp_total route_labels_cmp-IsAntisymmetric a is.numbering key n it.number, value_at_number route_labels_cmp_total route_labels_cmp-IsAntisymmetric a is.numbering key n it.number, it.value)

    abbrev members_at : (ns : List ℕ) → AllByRecursion IsMember ns → List (LabelSet × Alert)
    members_at [] all = []
    members_at (n ∷ ns) all = pair n all.0 ∷ members_at ns all.1

    found_are : (ns : List ℕ) (all : AllByRecursion IsMember ns) → filter_map (member_at a) ns ≡ members_at ns all
    found_are [] all = refl
    found_are (n ∷ ns) all = ap (λ o. cons_option o (filter_map (member_at a) ns)) (found_at n all.0) ∙ ap (λ l. pair n all.0 ∷ l) (found_are ns all.1)

    abbrev HasAlert : LabelSet × Alert → Type 0
    HasAlert p = with_alert (map_of route_labels_cmp a) group.route p.0 ≡ Some p

    have_alerts : (ns : List ℕ) (all : AllByRecursion IsMember ns) → All HasAlert (members_at ns all)
    have_alerts [] all = All-nil HasAlert
    have_alerts (n ∷ ns) all =
        let it = the_member n all.0 in
        All-cons HasAlert (pair n all.0) (members_at ns all.1) (ap (option_map (λ alert. (it.labels, alert))) it.value) (have_alerts ns all.1)

    from_alerts : (ps : List (LabelSet × Alert)) → All HasAlert ps → filter_map (with_alert (map_of route_labels_cmp a) group.route) (labels_of_members ps) ≡ ps
    from_alerts [] all = refl
    from_alerts (p ∷ ps) all = grind (arith, All-head HasAlert p ps all, from_alerts ps (All-tail HasAlert p ps all))

    -- the label set of a number among these is theirs
    has_labels : (ns : List ℕ) (all : AllByRecursion IsMember ns) (l : LabelSet) (n : ℕ) → number_of route_labels_cmp a (on_route group.route l) ≡ Some n → IsTrue (list_any (λ x. n == x) ns) → IsTrue (has label_set_cmp (labels_of_members (members_at ns all)) l)
    has_labels [] all l n there h = absurd (true≢false (sym h))
    has_labels (x ∷ ns) all l n there h =
        let it = the_member x all.0 in
        let one = one_key route_labels_cmp_total route_labels_cmp-IsAntisymmetric a is.numbering (on_route group.route l) (on_route group.route it.labels) n there in
        grind (arith, nat_tests, one, it.number, (eq_by_cmp_equiv label_set_cmp_total).refl l, has_labels ns all.1 l n there)

    -- a label set of theirs has a number among these
    has_number : (ns : List ℕ) (all : AllByRecursion IsMember ns) (l : LabelSet) → IsTrue (has label_set_cmp (labels_of_members (members_at ns all)) l) → IsTrue (is_in config group (on_route group.route l) && is_some (get (map_of route_labels_cmp a) (on_route group.route l)))
    has_number [] all l h = absurd (true≢false (sym h))
    has_number (x ∷ ns) all l h =
        let it = the_member x all.0 in
        grind (arith, tells_apart label_set_cmp-IsAntisymmetric l it.labels, it.value, it.grouped, (eq_by_cmp_equiv route_labels_cmp_total).refl group, has_number ns all.1 l)

    apart_from : (x : ℕ) (there : IsMember x) (ns : List ℕ) (all : AllByRecursion IsMember ns) → AllByRecursion (λ y. (x == y) ≡ false) ns → AllByRecursion (λ y. eq_by_cmp label_set_cmp (the_member x there).labels y ≡ false) (labels_of_members (members_at ns all))
    apart_from x there [] all differ = tt
    apart_from x there (y ∷ ns) all differ =
        let own = the_member x there in
        let it = the_member y all.0 in
        (grind (arith, nat_tests, tells_apart label_set_cmp-IsAntisymmetric own.labels it.labels, own.number, it.number, differ.0), apart_from x there ns all.1 differ.1)

    -- different numbers have different label sets
    labels_apart : (ns : List ℕ) (all : AllByRecursion IsMember ns) → IsDistinct (λ (a b : ℕ). a == b) ns → IsDistinct (eq_by_cmp label_set_cmp) (labels_of_members (members_at ns all))
    unfolding IsDistinct
    labels_apart [] all d = tt
    labels_apart (n ∷ ns) all d = (apart_from n all.0 ns all.1 d.0, labels_apart ns all.1 d.1)

    -- the members of the group are those at its numbers, in order of their labels
    pub members_found : (numbers : List ℕ) → AreNumbersOf m g numbers → (found members : List (LabelSet × Alert)) → found ≡ filter_map (member_at a) numbers → IsPermutation found members → IsSortedBy (λ x y. is_lt (label_set_cmp x.0 y.0)) members
        → members ≡ members_among config (map_of route_labels_cmp a) group
    members_found numbers those found members found_is moved up =
        sym (from_alerts members (All-permutation HasAlert _ members moved_at (have_alerts numbers all)))
        ∙ ap (filter_map (with_alert (map_of route_labels_cmp a) group.route)) (listed config group (map_of route_labels_cmp a) (labels_of_members members) in_order has_listed)
        ∙ members_are config group (map_of route_labels_cmp a)
      where
        all : AllByRecursion IsMember numbers
        all = all_among IsMember numbers those.members

        moved_at : IsPermutation (members_at numbers all) members
        moved_at = subst (λ l. IsPermutation l members) (found_is ∙ found_are numbers all) moved

        labels_moved : IsPermutation (labels_of_members (members_at numbers all)) (labels_of_members members)
        labels_moved = IsPermutation-map (λ (p : LabelSet × Alert). p.0) (members_at numbers all) members moved_at

        distinct : IsDistinct (eq_by_cmp label_set_cmp) (labels_of_members members)
        distinct = IsDistinct-IsPermutation (eq_by_cmp label_set_cmp) (eq_by_cmp_equiv label_set_cmp_total).symm (labels_of_members (members_at numbers all)) (labels_of_members members) labels_moved (labels_apart numbers all those.distinct)

        in_order : IsStrictlySortedBy label_set_cmp (labels_of_members members)
        in_order = strictly label_set_cmp_total (eq_by_cmp label_set_cmp) (λ x y. refl) (λ (p : LabelSet × Alert). (p.0, 0)) members (λ k d low high. same_less (label_set_cmp _ _) ∙ up k d low high) distinct
          where
            same_less : (r : Ordering) → is_lt (ordering_then r (nat_cmp 0 0)) ≡ is_lt r
            same_less r = grind (arith, tied_itself nat_cmp_total 0)

        has_listed : (l : LabelSet) → has label_set_cmp (labels_of_members members) l ≡ (is_in config group (on_route group.route l) && is_some (get (map_of route_labels_cmp a) (on_route group.route l)))
        has_listed l =
            let key = on_route group.route l in
            sym (list_any-IsPermutation (eq_by_cmp label_set_cmp l) (labels_of_members (members_at numbers all)) (labels_of_members members) labels_moved)
            ∙ both_ways (has label_set_cmp (labels_of_members (members_at numbers all)) l) (is_in config group key && is_some (get (map_of route_labels_cmp a) key)) (has_number numbers all l)
            (λ h.
            let parts = and_parts (is_in config group key) (is_some (get (map_of route_labels_cmp a) key)) h in
            let by = number_in config a gs m is group numbering g at key parts.1 (tied_key group (group_key config key) parts.0) in
            has_labels numbers all l by.0 by.1 (those.all by.0 by.2))
