-- Names of receivers, and sets of names.
use Rattle.std.specs.Prelude.{◌≡◌, List, map, Bool, false, not}
use Rattle.std.specs.Option.{option_map_or}
use Rattle.std.specs.BTreeSet.{BTreeSet, contains}
use Rattle.std.specs.List.{list_any}
use Rattle.std.specs.Ordering.{eq_by_cmp}
use Rattle.amr_labels.specs.Labels.{Text, text_cmp}
use Rattle.amr_config.specs.declared.stated.receiver.Receiver.{Receiver}
use Rattle.amr_config.specs.declared.stated.route.Route.{Route}

-- the names of the receivers, in their order
abbrev pub names_of : List Receiver → List Text
names_of receivers = map (λ receiver. receiver.name) receivers

-- the set has exactly these names
abbrev pub IsSetOf : List Text → BTreeSet Text → Type 0
IsSetOf names set = (name : Text) → contains text_cmp set name ≡ list_any (eq_by_cmp text_cmp name) names

-- the route names a receiver whose name isn't in the set
abbrev pub is_missing : BTreeSet Text → Route → Bool
is_missing set route = option_map_or (λ name. not (contains text_cmp set name)) route.receiver false
