-- Indexes of receivers for routes.
use Rattle.std.proofs.Common.{◌≡◌, ℕ, ◌+◌, ◌<◌, List, [], ◌∷◌, ◌++◌, length, get_or, take, map, Option, None, Some, ap, ◌∙◌, arith, slice_get, BTreeMap}
use Rattle.std.specs.Option.{option_map_or}
use Rattle.std.specs.BTreeMap as tree
use Rattle.std.proofs.lemmas.List.{map_more, map-append, length-take-le, get_or-take}
use Rattle.std.proofs.lemmas.Option.{slice_get-get_or, slice_get-map}
use Rattle.amr_labels.specs.Labels.{Text, text_cmp}
use Rattle.amr_config.specs.declared.stated.receiver.Receiver.{Receiver}
use Rattle.amr_config.specs.declared.stated.route.Route.{Route}
use Rattle.amr_config.specs.Stated.Config.{Config}
use Rattle.amr_config.specs.declared.settings.Settings.{Settings}
use Rattle.amr_config.specs.Receivers.{receiver_named, receiver_at, AreIndexes, AreReceivers, receiver_parent, index_at}
use Rattle.amr_config.specs.Routing.{receiver_name_of}
use Rattle.amr_config.specs.Settled.{settings_of, settings_of_all, AreParentsFirst}
use Rattle.amr_config.proofs.Inherited.{length-settled, get_or-settled}
use Rattle.amr_config.proofs.Settling.{heir}

receiver_by : (receivers : List Receiver) (known : BTreeMap Text ℕ) (indexes : List (Option ℕ)) (its : Settings) (o : Option ℕ) → AreIndexes receivers known
    → ((parent : ℕ) → o ≡ Some parent → slice_get (map (receiver_at receivers) indexes) parent ≡ Some (receiver_named receivers its.receiver))
    → receiver_at receivers (option_map_or (index_at indexes) o (tree.get text_cmp known its.receiver)) ≡ receiver_named receivers its.receiver
receiver_by receivers known indexes its None are above = are its.receiver
receiver_by receivers known indexes its (Some parent) are above = grind (arith, slice_get-map (receiver_at receivers) indexes parent, above parent)

pub as_many : (config : Config) (settings : List Settings) → settings ≡ settings_of_all config → length settings ≡ length config.routes
as_many config settings e = ap length e ∙ length-settled config

module _ (receivers : List Receiver) (config : Config) (settings : List Settings) (are_settled : settings ≡ settings_of_all config) (n : ℕ) (within : n < length config.routes) where
  receiver_above : (indexes : List (Option ℕ)) (parent : ℕ) → AreReceivers receivers (take n settings) indexes → parent < n
      → slice_get (map (receiver_at receivers) indexes) parent ≡ Some (receiver_named receivers (receiver_name_of config parent))
  unfolding settings_of
  receiver_above indexes parent so_far lt =
      let long = as_many config settings are_settled in
      let taken : length (take n settings) ≡ n = length-take-le n settings (omega arith) in
      let here = slice_get-get_or (take n settings) parent (settings_of config parent) (omega arith) in
      grind (arith, slice_get-map (λ (its : Settings). receiver_named receivers its.receiver) (take n settings) parent, get_or-take n settings parent (settings_of config parent) lt, get_or-settled config parent (settings_of config parent))

  -- the indexes for the first routes, and for one more
  pub receivers_more : (known : BTreeMap Text ℕ) (indexes more : List (Option ℕ)) (route : Route) (its : Settings) (index : Option ℕ) → AreParentsFirst config → AreIndexes receivers known
      → route ≡ get_or config.routes n route → its ≡ get_or settings n its → AreReceivers receivers (take n settings) indexes
      → index ≡ option_map_or (index_at indexes) (receiver_parent route) (tree.get text_cmp known its.receiver) → more ≡ indexes ++ index ∷ [] → AreReceivers receivers (take (n + 1) settings) more
  unfolding settings_of
  receivers_more known indexes more route its index first are is its_is so_far pl mr =
      let here : slice_get config.routes n ≡ Some route = grind (arith, slice_get-get_or config.routes n route) in
      let long = as_many config settings are_settled in
      let name : its.receiver ≡ receiver_name_of config n = grind (arith, get_or-settled config n its) in
      let new : receiver_at receivers index ≡ receiver_named receivers its.receiver =
      rw pl (receiver_by receivers known indexes its (receiver_parent route) are
      (λ parent e. let from = heir config first n route here parent e in rw (name, ← from.1) (receiver_above indexes parent so_far from.0))) in
      grind (arith, map-append (receiver_at receivers) indexes (index ∷ []), map_more (λ (s : Settings). receiver_named receivers s.receiver) settings n its)
