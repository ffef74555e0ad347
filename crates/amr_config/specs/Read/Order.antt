-- The order of integrations.
use Rattle.std.specs.Prelude.{Bool, true, ◌&&◌, List, [], ◌∷◌}
use Rattle.std.specs.declared.cmp.Ordering.{Ordering}
use Rattle.std.specs.Ordering.{nat_cmp, ordering_then, is_lt}
use Rattle.amr_labels.specs.Labels.{text_cmp}
use Rattle.amr_config.specs.declared.stated.receiver.Integration.{Integration}

-- integrations are ordered by name, then by index
abbrev pub integration_cmp : Integration → Integration → Ordering
integration_cmp a b = ordering_then (text_cmp a.kind b.kind) (nat_cmp a.place b.place)

abbrev pub goes_before : Integration → List Integration → Bool
goes_before integration [] = true
goes_before integration (next ∷ rest) = is_lt (integration_cmp integration next)

-- each integration sorts before the next
abbrev pub are_in_order : List Integration → Bool
are_in_order [] = true
are_in_order (integration ∷ rest) = goes_before integration rest && are_in_order rest
