-- The text of a finding at a route, from its parts.
use Rattle.std.proofs.Common.{◌≡◌, ◌++◌, ◌∷◌, [], ℕ, Option, None, Some, codes, decimal, append_assoc}
use Rattle.json.specs.Print.{quoted}
use Rattle.serde_json.proofs.OnLiterals.{serde_json_on_literals}
use Rattle.serde_json.specs.Data.{Data, string, object}
use Rattle.serde_json.specs.Written.{compact_text}
use Rattle.amr_labels.specs.Labels.{Text}
use Rattle.amr_engine.specs.declared.verdict.Finding.{Finding}
use Rattle.amr_engine.specs.declared.verdict.Finding.TheVariants.{Inhibited}
use Rattle.amr_engine.specs.declared.verdict.Verdict.TheVariants.{AtRoute}
use Rattle.amreplay.specs.Lines.Printed.{object_of, number_data, labels_data}
use Rattle.amreplay.specs.Lines.Verdicts.{finding_name, integration_members, members_before, members_after, with_commas, verdict_data}

-- whatever the source is
inhibited_text : (route : ℕ) (receiver : Text) (integration : Option (Text × ℕ)) (rule : ℕ) (source : Data)
    → codes "{" ++ (with_commas (integration_members integration)
    ++ ((codes "\"receiver\":" ++ (quoted receiver ++ codes ",")) ++ ((codes "\"route\":" ++ (decimal route ++ codes ","))
    ++ (with_commas ((codes "rule", number_data rule) ∷ (codes "source", source) ∷ [])
    ++ ((codes "\"verdict\":" ++ quoted (codes "Inhibited")) ++ codes "}")))))
    ≡ compact_text (object (object_of ((codes "rule", number_data rule) ∷ (codes "source", source) ∷ (integration_members integration
    ++ ((codes "receiver", string receiver) ∷ (codes "route", number_data route) ∷ (codes "verdict", string (codes "Inhibited")) ∷ [])))))
unfolding serde_json_on_literals
inhibited_text route receiver None rule source = simp append_assoc
inhibited_text route receiver (Some integration) rule source = simp append_assoc

pub at_route_text : (route : ℕ) (receiver : Text) (integration : Option (Text × ℕ)) (finding : Finding)
    → codes "{" ++ (with_commas (members_before finding) ++ (with_commas (integration_members integration)
    ++ ((codes "\"receiver\":" ++ (quoted receiver ++ codes ",")) ++ ((codes "\"route\":" ++ (decimal route ++ codes ","))
    ++ (with_commas (members_after finding)
    ++ ((codes "\"verdict\":" ++ quoted (finding_name finding)) ++ codes "}")))))) ≡ compact_text (verdict_data (AtRoute route receiver integration finding))
unfolding verdict_data serde_json_on_literals
at_route_text route receiver integration (Inhibited rule source) = inhibited_text route receiver integration rule (labels_data source)
at_route_text route receiver None finding = simp append_assoc
at_route_text route receiver (Some integration) finding = simp append_assoc
