use Rattle.std.proofs.Common.{◌≡◌, drop, find}
use Rattle.std.specs.Ordering.{eq_by_cmp}
use Rattle.amr_labels.specs.Labels.{text_cmp}
use Rattle.amr_config.specs.declared.stated.receiver.Receiver.{Receiver}
use Rattle.amr_config.proofs.config.receiver_named.Given as goal

abbrev pub invariant-loop-receiver : goal.invariant-loop-receiver
invariant-loop-receiver l =
    find (λ (r : Receiver). eq_by_cmp text_cmp r.name l.name) l.receivers ≡ find (λ (r : Receiver). eq_by_cmp text_cmp r.name l.name) (drop l.receiver-index l.receivers)
