-- Laws of the values that configurations are read from, and of what they state.
use Rattle.std.specs.Prelude.{◌≡◌, ℕ, List, Some, Ok, true}
use Rattle.std.specs.List.{list_all}
use Rattle.serde_json.specs.Data.{Data}
use Rattle.serde_json.specs.Read.{read}
use Rattle.amr_config.specs.declared.stated.stated.Stated.{Stated}
use Rattle.amr_config.specs.Read.Keys.{HasOrderedKeys}
use Rattle.amr_config.specs.Read.Order.{are_in_order}
use Rattle.amr_config.specs.Read.Walking.{walked_at}

abbrev pub ReadValuesHaveOrderedKeys : Type 0
ReadValuesHaveOrderedKeys = (text : List ℕ) (d : Data) → read text ≡ Some d → HasOrderedKeys d

-- the integrations of each receiver are ordered by name, then by index
abbrev pub IntegrationsAreInOrder : Type 0
IntegrationsAreInOrder = (d : Data) (stated : Stated) → HasOrderedKeys d → (walked_at d).value ≡ Ok stated → list_all (λ receiver. are_in_order receiver.integrations) stated.receivers ≡ true
