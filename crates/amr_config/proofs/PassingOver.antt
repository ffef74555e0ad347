-- The walk through the routes may pass over those below a route that isn't open.
use Rattle.std.proofs.Common.{◌≡◌, ℕ, zero, suc, ◌+◌, ◌-◌, ◌<◌, ◌≤◌, true, false, List, [], ◌∷◌, ◌++◌, length, get_or, take, replicate, Option, Some, None, inl, inr, refl, sym, ◌∙◌, arith, IsSomeAnd, OnOk, Result, Ok, Err, is_ok, slice_get}
use Rattle.std.specs.Option.{option_map_or}
use Rattle.std.proofs.Math.Bool.{and-false}
use Rattle.std.proofs.lemmas.Bool.{cases_Bool}
use Rattle.std.proofs.lemmas.Grind.{common_steps}
use Rattle.std.proofs.lemmas.Option.{slice_get-get_or}
use Rattle.std.proofs.lemmas.List.FromFn.{get_or-map-range_with_len}
use Rattle.std.proofs.lemmas.List.{append-nil, append_assoc, replicate_more}
use Rattle.amr_labels.specs.Labels.{LabelSet}
use Rattle.amr_config.specs.declared.routing.Standing.{Standing}
use Rattle.amr_config.specs.Stated.Config.{Config}
use Rattle.amr_config.specs.Routing.{parent_of, matches_route}
use Rattle.amr_config.specs.Settled.{AreParentsFirst}
use Rattle.amr_config.specs.Standings.{IsMoreSeen, is_open, standing_of, standings_at, is_chosen_standing, chosen_numbers}
use Rattle.amr_config.specs.Subtrees.{IsSubtreeEnd}
use Rattle.amr_config.proofs.Chosen.{standing, open_root, open_child, cut_child, root_step, shut_step, unmatched_step, length-standings_at, chosen_more_at}

abbrev pub shut : Standing
shut = standing false false false

pub without_error : {X E : Type 0} (r : Result X E) {P : Type 0} → (is_ok r ≡ true → P) → OnOk r P
without_error (Ok x) h = h refl
without_error (Err e) h = tt

module _ (config : Config) (labels : LabelSet) (first : AreParentsFirst config) where
  -- a route that isn't open changes no standing, whatever keeps it from being open
  step_under : (n : ℕ) → n ≤ length config.routes → is_open config labels n ≡ false → (above : Option ℕ) → parent_of config n ≡ above → standings_at config labels n ++ shut ∷ [] ≡ standings_at config labels (n + 1)
  unfolding standing_of
  step_under n le o None e = root_step config labels first n false e (sym o ∙ open_root config labels first n e)
  step_under n le o (Some parent) e =
      elim (cases_Bool (matches_route config labels n)) [
        | inl m ↦ shut_step config labels first n parent le e (standing_of config labels n parent) refl (grind (arith, cut_child config labels first n parent, open_child config labels first n parent))
        | inr m ↦ unmatched_step config labels first n parent e m
      ]

  -- a route whose parent is at or below one that isn't open, isn't open
  under_shut : (n m : ℕ) → ((q : ℕ) → n ≤ q → q < m → is_open config labels q ≡ false) → (above : Option ℕ) → parent_of config m ≡ above → IsSomeAnd above (λ parent. n ≤ parent) → is_open config labels m ≡ false
  under_shut n m before None e from = absurd from
  under_shut n m before (Some parent) e from = grind (arith, and-false, open_child config labels first m parent e, before parent from (first m parent e))

  -- none below a route that isn't open is open
  pub below_shut : (most n stop : ℕ) → IsSubtreeEnd config.routes n stop → is_open config labels n ≡ false → (m : ℕ) → n ≤ m → m < stop → m < most → is_open config labels m ≡ false
  below_shut zero n stop ends o m le lt h = absurd (omega (arith, h))
  below_shut (suc most) n stop ends o m le lt h =
      let here = under_shut n m (λ q from to. below_shut most n stop ends o q from (omega (arith, to, lt)) (omega (arith, to, h))) (parent_of config m) refl in
      grind (arith, ends.inside m)

  fill : (k n : ℕ) → n + k ≤ length config.routes → ((m : ℕ) → n ≤ m → m < n + k → is_open config labels m ≡ false) → standings_at config labels n ++ replicate k shut ≡ standings_at config labels (n + k)
  fill zero n le none = grind (arith, append-nil)
  fill (suc k) n le none =
      let rest = fill k n (omega (arith, le)) (λ m from to. none m from (omega (arith, to))) in
      let more = step_under (n + k) (omega (arith, le)) (none (n + k) (omega arith) (omega arith)) (parent_of config (n + k)) refl in
      grind (arith, append_assoc, replicate_more k shut)

  -- a route that doesn't match isn't open
  pub unmatched_shut : (n parent : ℕ) → parent_of config n ≡ Some parent → matches_route config labels n ≡ false → is_open config labels n ≡ false
  unmatched_shut n parent e m = grind (arith, open_child config labels first n parent)

  -- what is known when a route that isn't open was passed over with those below it
  pub passed_over : (n stop : ℕ) (former latter : List Standing) → IsSubtreeEnd config.routes n stop → former ≡ standings_at config labels n → is_open config labels n ≡ false → latter ≡ take stop former ++ replicate (stop - n) shut → IsMoreSeen config labels n stop latter
  passed_over n stop former latter ends known o made =
      let filled = fill (stop - n) n (omega (arith, ends.after, ends.within)) (λ m from to. below_shut stop n stop ends o m from (omega (arith, to, ends.after)) (omega (arith, to, ends.after))) in
      record { more = ends.after; within = ends.within; seen = grind (arith, common_steps, length-standings_at config labels n) }

-- no more are chosen than below n if none from there on is open
none_chosen : (k n : ℕ) (standings : List Standing) → ((m : ℕ) → n ≤ m → m < n + k → option_map_or is_chosen_standing (slice_get standings m) false ≡ false) → chosen_numbers standings (n + k) ≡ chosen_numbers standings n
none_chosen zero n standings none = grind arith
none_chosen (suc k) n standings none =
    let rest = none_chosen k n standings (λ m from to. none m from (omega (arith, to))) in
    grind (arith, chosen_more_at standings (n + k) false, none (n + k), append-nil)

module _ (config : Config) (labels : LabelSet) (standings : List Standing) (known : standings ≡ standings_at config labels (length standings)) where
  -- the standing of a route says whether it is open
  pub open_as_known : (n : ℕ) (d : Standing) → n < length standings → (get_or standings n d).is_open ≡ is_open config labels n
  unfolding standings_at standing_of
  open_as_known n d h = grind (arith, get_or-map-range_with_len (standing_of config labels (length standings)) 0 (length standings) n n d)

  -- those that are chosen below the next route to see are those below this one, and this one if it is
  pub chosen_to_next : (n next : ℕ) → n < next → next ≤ length standings → ((m : ℕ) → n < m → m < next → is_open config labels m ≡ false) → chosen_numbers standings next ≡ chosen_numbers standings (n + 1)
  chosen_to_next n next lt le none =
      let all = none_chosen (next - (n + 1)) (n + 1) standings (λ m from to. grind (arith, slice_get-get_or standings m shut, open_as_known m shut, none m)) in
      grind arith
