-- The first route with each path, and which routes no other is like.
use Rattle.std.proofs.Common.{inl, inr, ◌≡◌, ℕ, zero, suc, ◌+◌, ◌-◌, ◌<◌, ◌≤◌, Bool, true, false, true≢false, cond, List, [], ◌∷◌, ◌++◌, length, get_or, set, Option, Some, None, MatchOption, option_and_then, unwrap_or, refl, sym, ap, subst, ◌∙◌, arith, IfSome, Decides, slice_get, Ordering, Equal}
use Rattle.std.specs.BTreeMap as tree
use Rattle.std.specs.Map.{lookup}
use Rattle.std.specs.Cmp.{IsTotalOrder, nat_cmp_total}
use Rattle.std.specs.Cmp.Lexicographic.{slice_cmp, lists_total, options_total}
use Rattle.std.specs.FinMap.{nat_cmp-IsAntisymmetric, slice_cmp-IsAntisymmetric}
use Rattle.std.specs.Option.{option_map_or, option_cmp}
use Rattle.std.specs.Ordering.{is_eq, nat_cmp, ordering_then}
use Rattle.std.proofs.lemmas.Bool.{cases_Bool, cases_eq}
use Rattle.std.proofs.lemmas.Cmp.{tied_itself, on_total, then_total}
use Rattle.std.proofs.lemmas.List.{length-map, length-reverse, length-set, length_push, get_or_append_left, get_or_push, get_or-set_same, get_or-set_other, same_from_push}
use Rattle.std.proofs.lemmas.Map.Views.{tells_apart}
use Rattle.std.proofs.lemmas.Map.Lookups.{exact_pairs}
use Rattle.std.proofs.lemmas.Option.{slice_get-get_or}
use Rattle.amr_labels.specs.Matcher.Matchers.{Matcher, matcher_cmp, matcher_cmp_total, matcher_cmp-IsAntisymmetric}
use Rattle.amr_config.specs.declared.stated.route.Route.{Route}
use Rattle.amr_config.specs.Stated.Config.{Config}
use Rattle.amr_config.specs.Paths.{Path, path_hash, IsFirst, IsFirstLike, AreFirsts, AreOwn, AreFirstIndexes, IsAlone, AreAlone}
use Rattle.amr_config.specs.Routing.{parent_of, path_of, sorted_matchers}
use Rattle.amr_config.specs.declared.settings.Settings.{Settings}
use Rattle.amr_config.specs.Settled.{settings_of, settings_of_all, AreParentsFirst}
use Rattle.amr_config.proofs.Inherited.{get_or-settled}
use Rattle.amr_config.proofs.Settling.{path_at}

decides_no : {P : Type 0} (r : Bool) → r ≡ false → (P → ⊥) → Decides r P
decides_no r e none = (λ is. let h : ◌≡◌ {A = Bool} false true = sym e ∙ is in absurd (cc), λ p. absurd (none p))

-- ---- keys of paths

-- what tells paths apart that have one number
abbrev EndKey : Type 0
EndKey = Option ℕ × List Matcher

-- the number of the path; the first route with the parent's path, if there is a parent; and the sorted matchers
abbrev pub PathKey : Type 0
PathKey = ℕ × EndKey

abbrev end_key_cmp : EndKey → EndKey → Ordering
end_key_cmp a b = ordering_then (option_cmp nat_cmp a.0 b.0) (slice_cmp matcher_cmp a.1 b.1)

abbrev pub path_key_cmp : PathKey → PathKey → Ordering
path_key_cmp a b = ordering_then (nat_cmp a.0 b.0) (end_key_cmp a.1 b.1)

path_key_cmp_total : IsTotalOrder path_key_cmp
path_key_cmp_total =
    then_total (on_total (λ (q : PathKey). q.0) nat_cmp_total) (on_total (λ (q : PathKey). q.1)
    (then_total (on_total (λ (q : EndKey). q.0) (options_total nat_cmp_total)) (on_total (λ (q : EndKey). q.1) (lists_total matcher_cmp_total))))

-- keys that compare as equal are the same
keys_alike : (p q : PathKey) → path_key_cmp p q ≡ Equal → p ≡ q
keys_alike =
    exact_pairs nat_cmp end_key_cmp nat_cmp-IsAntisymmetric
    (exact_pairs (option_cmp nat_cmp) (slice_cmp matcher_cmp) (λ p q e. grind (arith, nat_cmp-IsAntisymmetric)) (slice_cmp-IsAntisymmetric matcher_cmp-IsAntisymmetric))

-- the value under a key
abbrev pub value_at : List (PathKey × ℕ) → PathKey → Option ℕ
value_at entries key = lookup (tree.is_at (path_key_cmp key)) entries

-- ---- the first route with each path

path_not_empty : (config : Config) (n : ℕ) → path_of config n ≡ [] → ⊥
unfolding path_of
path_not_empty config zero e = absurd (cc)
path_not_empty config (suc n) e = omega (arith, simp (length-reverse, length-map) at (ap length e))

pub path_settled : (config : Config) (settings : List Settings) (n : ℕ) (its : Settings) → settings ≡ settings_of_all config → its ≡ get_or settings n its → n < length config.routes → its.path ≡ path_of config n
unfolding settings_of
path_settled config settings n its same is within =
    ap (λ (s : Settings). s.path) (is ∙ ap (λ ss. get_or ss n its) same ∙ get_or-settled config n its within)

-- the last matchers of a path
abbrev pub own_of : Path → List Matcher
own_of path = unwrap_or (slice_get path (length path - 1)) []

own_of_push : (front : Path) (own : List Matcher) → own_of (front ++ own ∷ []) ≡ own
own_of_push front own = grind (arith, length_push front own, slice_get-get_or (front ++ own ∷ []) (length front) own, get_or_push front own own (length front))

module _ (config : Config) where
  abbrev path_of_key : PathKey → Path
  path_of_key key = option_map_or (path_of config) key.1.0 [] ++ key.1.1 ∷ []

  -- a key that a path may have
  pub record IsSound (key : PathKey) : Type 0 where
    pub first : IfSome key.1.0 (IsFirst config)
    pub hash_value : key.0 ≡ path_hash (path_of_key key)

  -- the key is that of route n
  pub record IsKeyOf (n : ℕ) (key : PathKey) : Type 0 where
    pub sound : IsSound key
    pub path : path_of_key key ≡ path_of config n

  -- this is the first route with the path of the key, and before the limit
  pub record HasFirst (limit : ℕ) (key : PathKey) (first : ℕ) : Type 0 where
    pub within : first < limit
    pub same : path_of config first ≡ path_of_key key
    pub is_first : IsFirst config first

  abbrev IsUnseen : ℕ → PathKey → Type 0
  IsUnseen limit key = (n : ℕ) → n < limit → path_of config n ≡ path_of_key key → ⊥

  abbrev IsAnswered : ℕ → PathKey → Option ℕ → Type 0
  IsAnswered limit key found = MatchOption found (IsUnseen limit key) (HasFirst limit key)

  -- the first of the first routes with each path is known
  abbrev pub AreKnown : ℕ → List (PathKey × ℕ) → Type 0
  AreKnown limit known = (key : PathKey) → IsSound key → IsAnswered limit key (value_at known key)

  pub known_same : (limit : ℕ) (a b : List (PathKey × ℕ)) → a ≡ b → AreKnown limit a → AreKnown limit b
  known_same limit a b same are = subst (AreKnown limit) same are

  two_firsts : (a b : ℕ) → IsFirst config a → IsFirst config b → path_of config a ≡ path_of config b → a ≡ b
  two_firsts a b first_a first_b same = grind (arith, first_a b, first_b a)

  same_above : (a b : Option ℕ) → IfSome a (IsFirst config) → IfSome b (IsFirst config) → option_map_or (path_of config) a [] ≡ option_map_or (path_of config) b [] → a ≡ b
  same_above a b sound_a sound_b same = grind (arith, path_not_empty config, two_firsts)

  -- keys of the same path are the same
  same_key : (p q : PathKey) → IsSound p → IsSound q → path_of_key p ≡ path_of_key q → p ≡ q
  same_key p q sound_p sound_q same =
      let parts = same_from_push (option_map_or (path_of config) p.1.0 []) (option_map_or (path_of config) q.1.0 []) p.1.1 q.1.1 same in
      let fronts = same_above p.1.0 q.1.0 sound_p.first sound_q.first parts.0 in
      let hashes = sound_p.hash_value ∙ ap path_hash same ∙ sym sound_q.hash_value in
      λ i. (hashes i, (fronts i, parts.1 i))

  pub firsts_more : (limit : ℕ) (firsts : List ℕ) (first : ℕ) → AreFirsts config limit firsts → IsFirstLike config limit first → AreFirsts config (limit + 1) (firsts ++ first ∷ [])
  firsts_more limit firsts first are is = record {
    each = λ n within. elim (cases_eq n limit) [
      | inl e ↦ rw (get_or_push firsts first 0 n (are.all ∙ sym e), e) is
      | inr ne ↦ rw (get_or_append_left firsts (first ∷ []) 0 n (omega (arith, within, ne, are.all))) (are.each n (omega (arith, within, ne)))
    ];
    all = grind (arith, length_push firsts first, are.all);
  }

  module _ (parents : AreParentsFirst config) (limit : ℕ) (route : Route) (here : slice_get config.routes limit ≡ Some route) (firsts : List ℕ) (are : AreFirsts config limit firsts) where
    abbrev key_under : Option ℕ → PathKey
    key_under parent = (path_hash (path_of config limit), (option_and_then (slice_get firsts) parent, sorted_matchers route.matchers))

    is_key_at : (key : PathKey) → IfSome key.1.0 (IsFirst config) → key.0 ≡ path_hash (path_of config limit) → path_of_key key ≡ path_of config limit → IsKeyOf limit key
    is_key_at key first hash_value path = record { sound = record { first = first; hash_value = hash_value ∙ ap path_hash (sym path) }; path = path }

    is_key_under : (parent : Option ℕ) → parent_of config limit ≡ parent → IsKeyOf limit (key_under parent)
    is_key_under None e = is_key_at (key_under None) tt refl (sym (path_at config parents limit route here None e))
    is_key_under (Some parent) e =
        let less = parents limit parent e in
        let its = are.each parent less in
        let found = slice_get-get_or firsts parent 0 (omega (arith, less, are.all)) in
        subst (λ (o : Option ℕ). IsKeyOf limit (path_hash (path_of config limit), (o, sorted_matchers route.matchers))) (sym found)
        (is_key_at (path_hash (path_of config limit), (Some (get_or firsts parent 0), sorted_matchers route.matchers)) its.is_first refl
        (ap (λ (p : Path). p ++ sorted_matchers route.matchers ∷ []) its.same ∙ sym (path_at config parents limit route here (Some parent) e)))

    pub is_key : (path : Path) (key : PathKey) → path ≡ path_of config limit → key ≡ (path_hash path, (option_and_then (slice_get firsts) route.parent, own_of path)) → IsKeyOf limit key
    is_key path key same e =
        let under = is_key_under route.parent (ap (λ o. option_map_or (λ (r : Route). r.parent) o None) here) in
        let own : own_of path ≡ sorted_matchers route.matchers =
        ap own_of (same ∙ sym under.path) ∙ own_of_push (option_map_or (path_of config) (key_under route.parent).1.0 []) (sorted_matchers route.matchers) in
        subst (IsKeyOf limit) (sym (e ∙ (λ i. (path_hash (same i), (option_and_then (slice_get firsts) route.parent, own i))))) under

  module _ (limit : ℕ) (key : PathKey) (is : IsKeyOf limit key) (known : List (PathKey × ℕ)) (are : AreKnown limit known) where
    first_by : (found : Option ℕ) → IsAnswered limit key found → IsFirstLike config limit (unwrap_or found limit)
    first_by None none = record { within = omega arith; same = refl; is_first = λ n less same. none n less (same ∙ sym is.path) }
    first_by (Some w) has = record { within = omega (arith, has.within); same = has.same ∙ is.path; is_first = has.is_first }

    -- the first route with the path, which is the one that is known, or this one
    pub first_like : (first : ℕ) → first ≡ unwrap_or (value_at known key) limit → IsFirstLike config limit first
    first_like first e = rw e (first_by (value_at known key) (are key is.sound))

    answered_more : (other : PathKey) (found : Option ℕ) → IsSound other → (key ≡ other → ⊥) → IsAnswered limit other found → IsAnswered (limit + 1) other found
    answered_more other None sound apart none = λ n within same. grind (arith, none n, same_key key other is.sound sound, is.path)
    answered_more other (Some first) sound apart found = record { within = omega (arith, found.within); same = found.same; is_first = found.is_first }

    module _ (first : ℕ) (like : IsFirstLike config limit first) (more : List (PathKey × ℕ)) (up : (q : PathKey) → value_at more q ≡ cond (is_eq (path_key_cmp key q)) (Some first) (value_at known q)) where
      pub known_more : AreKnown (limit + 1) more
      known_more other sound =
          elim (cases_Bool (is_eq (path_key_cmp key other))) [
            | inl tie ↦
                rw (up other, tie) (record { within = omega (arith, like.within); same = like.same ∙ sym is.path ∙ ap path_of_key (tells_apart keys_alike key other tie); is_first = like.is_first })
            | inr not_tied ↦ rw (up other, not_tied) (answered_more other (value_at known other) sound
                (λ same. true≢false (sym (ap is_eq (ap (path_key_cmp key) (sym same) ∙ tied_itself path_key_cmp_total key)) ∙ not_tied)) (are other sound))
          ]

  -- ---- the first routes tell which paths are of one route alone

  module _ (limit : ℕ) (firsts : List ℕ) (are : AreFirsts config limit firsts) where
    its : (n : ℕ) → n < length firsts → IsFirstLike config n (get_or firsts n 0)
    its n there = are.each n (omega (arith, there, are.all))

    pub are_first_indexes : AreFirstIndexes firsts
    are_first_indexes n there =
        let first = its n there in
        let again = its (get_or firsts n 0) (omega (arith, there, first.within)) in
        (first.within, two_firsts (get_or firsts (get_or firsts n 0) 0) (get_or firsts n 0) again.is_first first.is_first again.same)

    pub are_own : (own : List Bool) → limit ≡ length config.routes → AreAlone firsts (length firsts) own → AreOwn config own
    are_own own e alone = record {
      each = λ n within.
          let there : n < limit = omega (arith, within, e) in
          let known = alone.each n (omega (arith, there, are.all)) in (
            λ is other less same. known.0 is other (omega (arith, less, e, are.all)) (grind (arith, two_firsts (get_or firsts other 0) (get_or firsts n 0), are.each other, are.each n)),
            λ only. known.1 (λ other less same. only other (omega (arith, less, are.all, e)) (grind (arith, are.each other, are.each n))),
          );
      all = alone.all ∙ are.all ∙ e;
    }

-- ---- which indexes have a number alone

module _ (numbers : List ℕ) where
  abbrev IsAloneBelow : ℕ → ℕ → Type 0
  IsAloneBelow limit n = IsAlone (λ index. get_or numbers index 0) limit n

  -- one more index leaves it open whether an earlier one is alone, unless the two have the same number
  alone_more : (limit n : ℕ) → (get_or numbers limit 0 ≡ get_or numbers n 0 → limit ≡ n) → IsAloneBelow limit n → IsAloneBelow (limit + 1) n
  alone_more limit n next only other within same = grind (arith, only other)

  still_alone : (limit n : ℕ) (r : Bool) → (IsAloneBelow limit n → get_or numbers limit 0 ≡ get_or numbers n 0 → limit ≡ n) → Decides r (IsAloneBelow limit n) → Decides r (IsAloneBelow (limit + 1) n)
  still_alone limit n r next d = (λ is. alone_more limit n (next (d.0 is)) (d.0 is), λ only. d.1 (λ other within same. only other (omega (arith, within)) same))

  module _ (are : AreFirstIndexes numbers) (limit : ℕ) (there : limit < length numbers) (alone : List Bool) (known : AreAlone numbers limit alone) where
    -- ---- a number that has not been seen

    module _ (late : limit ≤ get_or numbers limit 0) where
      no_other : (n : ℕ) → n < limit → get_or numbers n 0 ≡ get_or numbers limit 0 → ⊥
      no_other n less same = omega (arith, less, same, late, (are n (omega (arith, less, there))).0)

      pub alone_unseen : AreAlone numbers (limit + 1) (alone ++ true ∷ [])
      alone_unseen = record {
        each = λ n within. elim (cases_eq n limit) [
          | inl e ↦ (λ is. alone_more limit n (λ same. sym e) (λ other less same. absurd (no_other other less (same ∙ ap (λ k. get_or numbers k 0) e))), λ only. get_or_push alone true false n (known.all ∙ sym e))
          | inr ne ↦
              let less : n < limit = omega (arith, within, ne) in
              rw (get_or_append_left alone (true ∷ []) false n (omega (arith, less, known.all))) (still_alone limit n _ (λ only same. absurd (no_other n less (sym same))) (known.each n less))
        ];
        all = grind (arith, length_push alone true, known.all);
      }

    -- ---- a number that has been seen

    module _ (first : ℕ) (is : first ≡ get_or numbers limit 0) (before : first < limit) where
      first_has_it : get_or numbers first 0 ≡ get_or numbers limit 0
      first_has_it = ap (λ k. get_or numbers k 0) is ∙ (are limit there).1

      abbrev left : List Bool
      left = set alone first false ++ false ∷ []

      pub alone_seen : AreAlone numbers (limit + 1) left
      alone_seen = record {
        each = λ n within. elim (cases_eq n limit) [
          | inl e ↦ decides_no (get_or left n false) (get_or_push (set alone first false) false false n (length-set alone first false ∙ known.all ∙ sym e))
              (λ only. let h : first ≡ n = only first (omega (arith, before)) (first_has_it ∙ ap (λ k. get_or numbers k 0) (sym e)) in omega (arith, h, e, before))
          | inr ne ↦
              let less : n < limit = omega (arith, within, ne) in
              let early : get_or left n false ≡ get_or (set alone first false) n false = get_or_append_left (set alone first false) (false ∷ []) false n (omega (arith, less, known.all, length-set alone first false)) in
              elim (cases_eq n first) [
                | inl e ↦ decides_no (get_or left n false) (grind (arith, early, get_or-set_same alone first false false, known.all))
                    (λ only. let h : limit ≡ n = only limit (omega arith) (sym first_has_it ∙ ap (λ k. get_or numbers k 0) (sym e)) in omega (arith, h, less))
                | inr apart ↦ rw (early, get_or-set_other alone first n false false apart)
                    (still_alone limit n _ (λ only same. absurd (apart (sym (only first before (first_has_it ∙ same))))) (known.each n less))
              ]
        ];
        all = grind (arith, length_push (set alone first false) false, length-set alone first false, known.all);
      }
