use Rattle.std.proofs.Common.{◌++◌, codes, map}
use Rattle.std.specs.String.{string_bytes}
use Rattle.serde_json.specs.Data.{string, array}
use Rattle.serde_json.specs.View.{items_of}
use Rattle.serde_json.specs.Written.{compact_text}
use Rattle.amreplay.specs.Lines.Printed.{labels_data, firing_data, resolved_data, moment_data, number_data}
use Rattle.amreplay.proofs.LinesLemmas.ObjectTexts.{object_texts}
use Rattle.amreplay.proofs.LinesLemmas.Pushed.{push_last, followed}
use Rattle.amreplay.proofs.lines.notification_text.NotificationToJson.push_json.Goals as goal

pub returns : goal.returns
unfolding object_texts
returns c =
    (followed _ (string_bytes c.args.out.now) (string_bytes c.push.new.out) _ (codes "{\"at\":" ++ compact_text (moment_data c.args.self.now.at)) _ c.in_ok-push.ensures
    (followed _ (string_bytes c.push.new.out) (string_bytes c.push_array.new.out) _ (codes ",\"firing\":" ++ compact_text (array (items_of (map firing_data c.args.self.now.firing)))) _ (rw c.as_slice.ensures at c.in_ok-push_array.ensures)
    (followed _ (string_bytes c.push_array.new.out) (string_bytes c.push-2.new.out) _ (codes ",\"groupLabels\":" ++ compact_text (labels_data c.args.self.now.key.group)) _ c.in_ok-push-2.ensures
    (followed _ (string_bytes c.push-2.new.out) (string_bytes c.push-3.new.out) _ (codes ",\"integration\":" ++ compact_text (string c.args.self.now.key.kind)) _ c.in_ok-push-3.ensures
    (followed _ (string_bytes c.push-3.new.out) (string_bytes c.push-4.new.out) _ (codes ",\"place\":" ++ compact_text (number_data c.args.self.now.key.place)) _ c.in_ok-push-4.ensures
    (followed _ (string_bytes c.push-4.new.out) (string_bytes c.push-5.new.out) _ (codes ",\"receiver\":" ++ compact_text (string c.args.self.now.key.receiver)) _ c.in_ok-push-5.ensures
    (followed _ (string_bytes c.push-5.new.out) (string_bytes c.push_array-2.new.out) _ (codes ",\"resolved\":" ++ compact_text (array (items_of (map resolved_data c.args.self.now.resolved)))) _ (rw c.as_slice-2.ensures at c.in_ok-push_array-2.ensures)
    (followed _ (string_bytes c.push_array-2.new.out) (string_bytes c.push-6.new.out) _ (codes ",\"route\":" ++ compact_text (number_data c.args.self.now.route)) _ c.in_ok-push-6.ensures
    (push_last _ (string_bytes c.push-6.new.out) (string_bytes c.push_str.new.self) (codes "}") c.push_str.ensures.bytes)))))))))
