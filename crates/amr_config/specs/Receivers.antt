-- Which receiver each route has.
use Rattle.std.specs.Prelude.{◌≡◌, ℕ, List, Option, None, map, slice_get, option_and_then}
use Rattle.std.specs.BTreeMap as tree
use Rattle.std.specs.BTreeMap.{BTreeMap}
use Rattle.std.specs.List.{find}
use Rattle.std.specs.Option.{option_map_or}
use Rattle.std.specs.Ordering.{eq_by_cmp}
use Rattle.amr_labels.specs.Labels.{Text, text_cmp}
use Rattle.amr_config.specs.declared.stated.receiver.Receiver.{Receiver}
use Rattle.amr_config.specs.declared.stated.route.Route.{Route}
use Rattle.amr_config.specs.declared.settings.Settings.{Settings}

-- the first receiver with this name
abbrev pub receiver_named : List Receiver → Text → Option Receiver
receiver_named receivers name = find (λ receiver. eq_by_cmp text_cmp receiver.name name) receivers

-- the receiver at this index, if there is one
abbrev pub receiver_at : List Receiver → Option ℕ → Option Receiver
receiver_at receivers index = option_and_then (slice_get receivers) index

-- under each name is the index of the receiver with that name
abbrev pub AreIndexes : List Receiver → BTreeMap Text ℕ → Type 0
AreIndexes receivers indexes = (name : Text) → receiver_at receivers (tree.get text_cmp indexes name) ≡ receiver_named receivers name

-- at these indexes are the receivers that the routes name
abbrev pub AreReceivers : List Receiver → List Settings → List (Option ℕ) → Type 0
AreReceivers receivers settings indexes = map (receiver_at receivers) indexes ≡ map (λ its. receiver_named receivers its.receiver) settings

-- the parent from which a route inherits its receiver; none if it states one
abbrev pub receiver_parent : Route → Option ℕ
receiver_parent route = option_map_or (λ name. None) route.receiver route.parent

-- the index of the receiver of the route with this number, if there is one
abbrev pub index_at : List (Option ℕ) → ℕ → Option ℕ
index_at indexes route = option_and_then (λ index. index) (slice_get indexes route)
