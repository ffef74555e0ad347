use Rattle.std.proofs.Common.{◌++◌, codes}
use Rattle.std.specs.String.{string_bytes}
use Rattle.serde_json.specs.Written.{compact_text}
use Rattle.amr_labels.specs.Map.{entries}
use Rattle.amreplay.specs.Lines.Printed.{texts_data, labels_data, moment_data}
use Rattle.amreplay.proofs.LinesLemmas.ObjectTexts.{object_texts}
use Rattle.amreplay.proofs.LinesLemmas.Pushed.{push_last, followed}
use Rattle.amreplay.proofs.lines.notification_text.ResolvedAlertToJson.push_json.Goals as goal

pub returns : goal.returns
unfolding object_texts
returns c =
    (followed _ (string_bytes c.args.out.now) (string_bytes c.push.new.out) _ (codes "{\"annotations\":" ++ compact_text (texts_data (entries c.args.self.now.annotations))) _ c.in_ok-push.ensures
    (followed _ (string_bytes c.push.new.out) (string_bytes c.push-2.new.out) _ (codes ",\"endsAt\":" ++ compact_text (moment_data c.args.self.now.ends_at)) _ c.in_ok-push-2.ensures
    (followed _ (string_bytes c.push-2.new.out) (string_bytes c.push-3.new.out) _ (codes ",\"labels\":" ++ compact_text (labels_data c.args.self.now.labels)) _ c.in_ok-push-3.ensures
    (followed _ (string_bytes c.push-3.new.out) (string_bytes c.push-4.new.out) _ (codes ",\"startsAt\":" ++ compact_text (moment_data c.args.self.now.starts_at)) _ c.in_ok-push-4.ensures
    (push_last _ (string_bytes c.push-4.new.out) (string_bytes c.push_str.new.self) (codes "}") c.push_str.ensures.bytes)))))
