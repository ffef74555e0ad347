-- The lines of `explain`.
use Rattle.std.specs.Prelude.{ℕ, List, [], ◌∷◌, ◌++◌, Option, None, Some, codes}
use Rattle.std.specs.List.{flat_map, filter}
use Rattle.std.specs.Ordering.{is_lt}
use Rattle.json.specs.Print.{quoted}
use Rattle.serde_json.specs.Data.{Data, string, object}
use Rattle.serde_json.specs.Written.{compact_text}
use Rattle.amr_labels.specs.Labels.{Text, text_cmp}
use Rattle.amr_engine.specs.declared.verdict.Finding.{Finding}
use Rattle.amr_engine.specs.declared.verdict.Finding.TheVariants.{Waiting, Inhibited, OutsideActive, TimeMuted, Silenced, Nowhere, Told, Due}
use Rattle.amr_engine.specs.declared.verdict.Verdict.{Verdict}
use Rattle.amr_engine.specs.declared.verdict.Verdict.TheVariants.{Unknown, Ended, AtRoute}
use Rattle.amr_events.specs.Posts.Ids.{id_text}
use Rattle.amreplay.specs.Lines.Printed.{object_of, number_data, moment_data, labels_data, data_line}

abbrev pub finding_name : Finding → Text
finding_name (Waiting due) = codes "Waiting"
finding_name (Inhibited rule source) = codes "Inhibited"
finding_name OutsideActive = codes "OutsideActive"
finding_name TimeMuted = codes "TimeMuted"
finding_name (Silenced id) = codes "Silenced"
finding_name Nowhere = codes "Nowhere"
finding_name (Told at) = codes "Told"
finding_name (Due at) = codes "Due"

-- what a finding has besides its name
abbrev pub finding_members : Finding → List (Text × Data)
finding_members (Waiting due) = (codes "due", moment_data due) ∷ []
finding_members (Inhibited rule source) = (codes "rule", number_data rule) ∷ (codes "source", labels_data source) ∷ []
finding_members OutsideActive = []
finding_members TimeMuted = []
finding_members (Silenced id) = (codes "id", string (id_text id)) ∷ []
finding_members Nowhere = []
finding_members (Told at) = (codes "at", moment_data at) ∷ []
finding_members (Due at) = (codes "at", moment_data at) ∷ []

-- an integration by its kind and its index, if the receiver has any
abbrev pub integration_members : Option (Text × ℕ) → List (Text × Data)
integration_members None = []
integration_members (Some integration) = (codes "integration", string integration.0) ∷ (codes "place", number_data integration.1) ∷ []

abbrev pub verdict_members : Verdict → List (Text × Data)
verdict_members Unknown = (codes "verdict", string (codes "Unknown")) ∷ []
verdict_members Ended = (codes "verdict", string (codes "Ended")) ∷ []
verdict_members (AtRoute route receiver integration finding) =
    finding_members finding ++ (integration_members integration
    ++ ((codes "receiver", string receiver) ∷ (codes "route", number_data route) ∷ (codes "verdict", string (finding_name finding)) ∷ []))

unfoldable pub verdict_data : Verdict → Data
verdict_data verdict = object (object_of (verdict_members verdict))

-- a verdict
abbrev pub verdict_line : Verdict → Text
verdict_line verdict = data_line (verdict_data verdict)

-- members of an object as they are printed, each with a comma after it
abbrev pub with_commas : List (Text × Data) → Text
with_commas ms = flat_map (λ m. quoted m.0 ++ 58 ∷ (compact_text m.1 ++ codes ",")) ms

-- what a finding has under names that come before `integration`
abbrev pub members_before : Finding → List (Text × Data)
members_before finding = filter (λ m. is_lt (text_cmp m.0 (codes "integration"))) (finding_members finding)

-- what a finding has under names that come after `route`
abbrev pub members_after : Finding → List (Text × Data)
members_after finding = filter (λ m. is_lt (text_cmp (codes "route") m.0)) (finding_members finding)
