-- Routes with label sets.
use Rattle.std.specs.Prelude.{ℕ}
use Rattle.std.specs.declared.cmp.Ordering.{Ordering}
use Rattle.std.specs.Ordering.{nat_cmp, ordering_then}
use Rattle.std.specs.Cmp.{IsTotalOrder, nat_cmp_total}
use Rattle.std.specs.FinMap.{IsAntisymmetric}
use Rattle.std.proofs.Common.{ap}
use Rattle.std.proofs.lemmas.Cmp.{on_total, then_total}
use Rattle.std.proofs.lemmas.Map.Lookups.{exact_pairs, exact_unsigned}
use Rattle.amr_labels.specs.Labels.{LabelSet, label_set_cmp, label_set_cmp_total, label_set_cmp-IsAntisymmetric}
use Rattle.amr_config.specs.declared.route_labels.RouteLabels.{RouteLabels}

-- a label set on a route: an alert on it, or a group's key
abbrev pub on_route : ℕ → LabelSet → RouteLabels
on_route route labels = record { route = route; labels = labels }

-- by route, then by labels
abbrev pub route_labels_cmp : RouteLabels → RouteLabels → Ordering
route_labels_cmp a b = ordering_then (nat_cmp a.route b.route) (label_set_cmp a.labels b.labels)

pub route_labels_cmp_total : IsTotalOrder route_labels_cmp
route_labels_cmp_total = then_total (on_total (λ (route_labels : RouteLabels). route_labels.route) nat_cmp_total) (on_total (λ (route_labels : RouteLabels). route_labels.labels) label_set_cmp_total)

pub route_labels_cmp-IsAntisymmetric : IsAntisymmetric route_labels_cmp
route_labels_cmp-IsAntisymmetric a b tie =
    ap (λ (p : ℕ × LabelSet). on_route p.0 p.1) (exact_pairs nat_cmp label_set_cmp exact_unsigned label_set_cmp-IsAntisymmetric (a.route, a.labels) (b.route, b.labels) tie)
