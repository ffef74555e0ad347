-- What a proof unfolds to compute the text of an object from its members.
use Rattle.std.specs.Prelude.{⊤}
use Rattle.serde_json.proofs.OnLiterals.{serde_json_on_literals}
use Rattle.amreplay.specs.Lines.Printed.{firing_data, resolved_data, notification_data, alert_data, matcher_data, silence_data, group_data, log_data}
use Rattle.amreplay.specs.Lines.LastLines.{position_data}
use Rattle.amreplay.specs.Lines.Verdicts.{verdict_data}

unfoldable pub object_texts : ⊤
unfolding firing_data resolved_data notification_data alert_data matcher_data silence_data group_data log_data position_data verdict_data serde_json_on_literals
object_texts = tt
