use Rattle.std.proofs.Common.{option_map}
use Rattle.amr_labels.specs.Labels.{label_set_cmp}
use Rattle.amr_tables.specs.Numbered.{map_of}
use Rattle.amr_config.specs.RouteLabels.{route_labels_cmp}
use Rattle.amr_engine.specs.State.Dues.{dues_of}
use Rattle.amr_engine.specs.State.Timed.{due_of}
use Rattle.amr_engine.proofs.StateLemmas.Least.{first_of_kinds}
use Rattle.amr_engine.proofs.state.tables.Tables.next_due.Goals as goal

pub returns : goal.returns
returns c =
    let a = map_of label_set_cmp c.args.self.now.alerts in
    let b = map_of route_labels_cmp c.args.self.now.roster.timers in
    let x = option_map due_of c.first_removal-alert.result in
    let y = option_map due_of c.first_removal-removal.result in
    let z = option_map due_of c.first_flush-flush.result in
    rw (first_of_kinds (dues_of a b) x y z (c.first_removal-alert.ensures b) (c.first_removal-removal.ensures a) (c.first_flush-flush.ensures a), ← c.earlier.ensures, ← c.earlier-2.ensures) c.if_due.ensures
