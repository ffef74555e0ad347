-- What is true of every configuration that was read.
use Rattle.std.proofs.Common.{◌≡◌, ℕ, zero, suc, ◌<◌, Bool, true, false, true≢false, List, [], ◌∷◌, length, Option, Some, None, Ok, refl, sym, ◌∙◌, arith}
use Rattle.std.specs.List.{Contains, list_any, slice_get}
use Rattle.std.specs.Option.{option_map_or, is_none}
use Rattle.std.proofs.lemmas.Bool.{false_from_ne_true}
use Rattle.std.proofs.lemmas.List.Folds.{list_any_at}
use Rattle.std.proofs.lemmas.List.Elements.{Contains-append_right}
use Rattle.amr_labels.specs.Labels.{Text}
use Rattle.amr_config.specs.declared.stated.route.Route.{Route}
use Rattle.amr_config.specs.Read.Keys.{HasOrderedKeys}
use Rattle.amr_config.proofs.ReadLemmas.Integrations.{walked_in_order}
use Rattle.serde_json.specs.Data.{Data}
use Rattle.amr_config.specs.declared.stated.stated.Stated.{Stated}
use Rattle.amr_config.specs.Read.Readings.{plain, next}
use Rattle.amr_config.specs.Read.RouteParts.{is_too_deep}
use Rattle.amr_config.specs.Read.Walking.{walked_at}
use Rattle.amr_config.proofs.ReadLemmas.Readings.{bind_ok}
use Rattle.amr_config.specs.Stated.Config.{Config}
use Rattle.amr_config.specs.Routing.{parent_of, line_of}
use Rattle.amr_config.specs.Settled.{stated_config, AreParentsFirst}
use Rattle.amr_config.specs.Read.Shape.{IsPreorder, IsConfig, stated_receiver, is_receiver}
use Rattle.amr_config.specs.Read.Judging.{refusal_of, is_lost, is_known, are_named_apart, root_is_bad, is_bad_root}
use Rattle.amr_config.specs.Read.Reading.{unless_refused, reading_of, config_of}
use Rattle.amr_config.specs.Read.ReadLaws.{RoutesAreInPreorder, ReadConfigsAreWhole}
use Rattle.amr_config.proofs.Lines.{line_of-child}
use Rattle.amr_config.proofs.ReadLemmas.NameSets.{named_apart}
use Rattle.amr_config.proofs.ReadLemmas.TreeOrder.{IsAbove, Itself, Further, IsTree, walked_tree, parent_within, parents_first}
use Rattle.std.proofs.lemmas.Option.{same_Some, slice_get_cases}

-- what was parsed for a configuration, and was validated
pub record WasJudged (d : Data) (config : Config) : Type 0 where
  pub stated : Stated
  pub shallow : is_too_deep d ≡ false
  pub walked : (walked_at d).value ≡ Ok stated
  pub accepted : refusal_of stated ≡ None
  pub is : config ≡ stated_config stated

pub was_judged : (d : Data) (config : Config) → config_of d ≡ Ok config → WasJudged d config
unfolding reading_of
was_judged d config e =
    let shallow = false_from_ne_true (is_too_deep d) (λ deep. let refused = rw (deep, config_of) at e in cc) in
    let read : (next (walked_at d) (λ stated. plain (unless_refused stated (refusal_of stated)))).value ≡ Ok config = rw (shallow, config_of) at e in
    let (stated, walked, rest) = bind_ok (walked_at d) (λ stated. plain (unless_refused stated (refusal_of stated))) config read in
    record { stated = stated; shallow = shallow; walked = walked; accepted = grind arith; is = grind arith }

in_line : (config : Config) (n : ℕ) → Contains (line_of config n) n
in_line config zero = (0, omega arith, refl)
in_line config (suc n) = (0, omega arith, refl)

above_in_line : (config : Config) → AreParentsFirst config → (n above : ℕ) → IsAbove config.routes n above → Contains (line_of config n) above
above_in_line config first _ _ (Itself n) = in_line config n
above_in_line config first _ _ (Further n parent above e up) =
    rw (line_of-child config first n parent e) (Contains-append_right (n ∷ []) (line_of config parent) above (above_in_line config first parent above up))

preorder : (config : Config) → AreParentsFirst config → IsTree config.routes → IsPreorder config
preorder config first tree n parent e =
    let e' : parent_of config (suc n) ≡ Some parent = grind arith in
    let (p, is, up) = tree.linked n (parent_within config.routes (suc n) parent e') in
    let same : p ≡ parent = same_Some p parent (sym is ∙ e') in
    rw (← same) (above_in_line config first n p up)

pub routes_are_in_preorder : RoutesAreInPreorder
routes_are_in_preorder d config e =
    let was = was_judged d config e in
    rw was.is (preorder (stated_config was.stated) (parents_first d was.stated was.shallow was.walked) (walked_tree d was.stated was.shallow was.walked))

-- what was parsed passes the validation

record IsGood (stated : Stated) : Type 0 where
  none_lost : list_any (is_lost stated.receivers) stated.routes ≡ false
  apart : are_named_apart stated.receivers ≡ true
  root : root_is_bad stated.routes ≡ false

good : (stated : Stated) → refusal_of stated ≡ None → IsGood stated
unfolding refusal_of
good stated h = record { none_lost = grind arith; apart = grind arith; root = grind arith }

none_of : {X : Type 0} (p : X → Bool) (xs : List X) (n : ℕ) → list_any p xs ≡ false → option_map_or p (slice_get xs n) false ≡ false
none_of p xs n none = grind (arith, list_any_at p xs n, slice_get_cases xs n)

-- ---- receivers

all_known : (stated : Stated) → IsGood stated → (n : ℕ) (name : Text) → stated_receiver (stated_config stated) n ≡ Some name → is_receiver (stated_config stated) name ≡ true
unfolding is_known is_lost
all_known stated is n name states = grind (arith, none_of (is_lost stated.receivers) stated.routes n is.none_lost)

-- ---- the root

not_none : {X : Type 0} (o : Option X) → is_none o ≡ false → (x : X) × (o ≡ Some x)
not_none None e = absurd (true≢false e)
not_none (Some x) e = (x, refl)

root_names : (routes : List Route) → root_is_bad routes ≡ false → (name : Text) × (option_map_or (λ (route : Route). route.receiver) (slice_get routes 0) None ≡ Some name)
unfolding is_bad_root
root_names [] e = absurd (cc)
root_names (root ∷ routes) e = not_none root.receiver (grind arith)

-- ---- parents

parent_there : (config : Config) → AreParentsFirst config → IsTree config.routes → (n : ℕ) → 0 < n → n < length config.routes → (parent : ℕ) × (parent_of config n ≡ Some parent) × (parent < n)
parent_there config first tree zero some lt = absurd (omega (arith, some))
parent_there config first tree (suc n) some lt =
    let (parent, is, up) = tree.linked n lt in
    (parent, is, first (suc n) parent is)

whole : (d : Data) (stated : Stated) → HasOrderedKeys d → is_too_deep d ≡ false → (walked_at d).value ≡ Ok stated → refusal_of stated ≡ None → IsConfig (stated_config stated)
whole d stated ordered shallow walked accepted =
    let tree = walked_tree d stated shallow walked in
    let is = good stated accepted in
    record {
      root = tree.root;
      root_receiver = root_names stated.routes is.root;
      parents = parent_there (stated_config stated) (parents_first d stated shallow walked) tree;
      known_receivers = all_known stated is;
      different_receivers = named_apart stated.receivers ∙ is.apart;
      integrations = walked_in_order d stated ordered walked;
    }

pub read_configs_are_whole : ReadConfigsAreWhole
read_configs_are_whole d config ordered e =
    let was = was_judged d config e in
    rw was.is (whole d was.stated ordered was.shallow was.walked was.accepted)
