-- Sets of the names of time intervals: of those that a whole configuration defines, and of those that
-- were read.
use Rattle.std.specs.Prelude.{◌≡◌, List, Bool, ◌||◌}
use Rattle.std.specs.BTreeSet.{BTreeSet, contains}
use Rattle.serde_json.specs.Data.{Data}
use Rattle.amr_labels.specs.Labels.{Text, text_cmp}
use Rattle.amr_config.specs.declared.stated.interval.NamedInterval.{NamedInterval}
use Rattle.amr_config.specs.Read.ReadIntervals.{is_defined, is_taken}

-- the set has exactly the names that the whole configuration defines
abbrev pub AreDefinedIn : Data → BTreeSet Text → Type 0
AreDefinedIn whole names = (name : Text) → contains text_cmp names name ≡ is_defined whole name

-- the new set has the names of the old one and those that are found, and no others
abbrev pub Adds : BTreeSet Text → BTreeSet Text → (Text → Bool) → Type 0
Adds old new is_found = (name : Text) → contains text_cmp new name ≡ (contains text_cmp old name || is_found name)

-- the set has exactly the names of these intervals
abbrev pub AreTakenIn : List NamedInterval → BTreeSet Text → Type 0
AreTakenIn intervals names = (name : Text) → contains text_cmp names name ≡ is_taken name intervals
