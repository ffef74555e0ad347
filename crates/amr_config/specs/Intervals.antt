-- Time intervals by their names.
use Rattle.std.specs.Prelude.{◌≡◌, ℕ, List, Option, slice_get, option_and_then}
use Rattle.std.specs.BTreeMap as tree
use Rattle.std.specs.BTreeMap.{BTreeMap}
use Rattle.std.specs.List.{find}
use Rattle.std.specs.Ordering.{eq_by_cmp}
use Rattle.amr_labels.specs.Labels.{Text, text_cmp}
use Rattle.amr_config.specs.declared.stated.interval.NamedInterval.{NamedInterval}

-- the first time interval with this name
abbrev pub interval_named : List NamedInterval → Text → Option NamedInterval
interval_named intervals name = find (λ found. eq_by_cmp text_cmp found.name name) intervals

-- the time interval at this index, if there is one
abbrev pub interval_at : List NamedInterval → Option ℕ → Option NamedInterval
interval_at intervals index = option_and_then (slice_get intervals) index

-- under each name is the index of the time interval with that name
abbrev pub AreIntervals : List NamedInterval → BTreeMap Text ℕ → Type 0
AreIntervals intervals indexes = (name : Text) → interval_at intervals (tree.get text_cmp indexes name) ≡ interval_named intervals name
