use Rattle.std.proofs.Common.{◌++◌, codes}
use Rattle.std.specs.String.{string_bytes}
use Rattle.serde_json.specs.Data.{boolean}
use Rattle.serde_json.specs.Written.{compact_text}
use Rattle.amreplay.specs.Lines.Printed.{since_data, labels_data, label_sets_data, moment_data, number_data}
use Rattle.amreplay.proofs.LinesLemmas.ObjectTexts.{object_texts}
use Rattle.amreplay.proofs.LinesLemmas.Pushed.{push_last, followed}
use Rattle.amreplay.proofs.lines.listed_text.GroupToJson.push_json.Goals as goal

pub returns : goal.returns
unfolding object_texts
returns c =
    (followed _ (string_bytes c.args.out.now) (string_bytes c.push.new.out) _ (codes "{\"emptySince\":" ++ compact_text (since_data c.args.self.now.empty_since)) _ c.in_ok-push.ensures
    (followed _ (string_bytes c.push.new.out) (string_bytes c.push-2.new.out) _ (codes ",\"flushed\":" ++ compact_text (boolean c.args.self.now.flushed)) _ c.in_ok-push-2.ensures
    (followed _ (string_bytes c.push-2.new.out) (string_bytes c.push-3.new.out) _ (codes ",\"groupLabels\":" ++ compact_text (labels_data c.args.self.now.labels)) _ c.in_ok-push-3.ensures
    (followed _ (string_bytes c.push-3.new.out) (string_bytes c.push_array.new.out) _ (codes ",\"members\":" ++ compact_text (label_sets_data c.args.self.now.members)) _ (rw c.as_slice.ensures at c.in_ok-push_array.ensures)
    (followed _ (string_bytes c.push_array.new.out) (string_bytes c.push-4.new.out) _ (codes ",\"nextFlush\":" ++ compact_text (moment_data c.args.self.now.next_flush)) _ c.in_ok-push-4.ensures
    (followed _ (string_bytes c.push-4.new.out) (string_bytes c.push-5.new.out) _ (codes ",\"route\":" ++ compact_text (number_data c.args.self.now.route)) _ c.in_ok-push-5.ensures
    (push_last _ (string_bytes c.push-5.new.out) (string_bytes c.push_str.new.self) (codes "}") c.push_str.ensures.bytes)))))))
