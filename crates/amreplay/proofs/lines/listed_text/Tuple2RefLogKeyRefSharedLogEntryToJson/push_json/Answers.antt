use Rattle.std.proofs.Common.{◌≡◌, ◌++◌, OnOk, codes, map, subst}
use Rattle.std.specs.String.{string_bytes}
use Rattle.serde_json.specs.Data.{string, array}
use Rattle.serde_json.specs.View.{items_of}
use Rattle.serde_json.specs.Written.{compact_text}
use Rattle.amr_labels.specs.Set.{items}
use Rattle.amr_rules.specs.declared.dedup.LogEntry.{LogEntry}
use Rattle.amreplay.specs.Lines.Printed.{labels_data, label_sets_data, matchers_data, moment_data, number_data, log_data}
use Rattle.amreplay.proofs.LinesLemmas.ObjectTexts.{object_texts}
use Rattle.amreplay.proofs.LinesLemmas.Pushed.{push_last, followed}
use Rattle.amreplay.proofs.lines.listed_text.Tuple2RefLogKeyRefSharedLogEntryToJson.push_json.Goals as goal

pub returns : goal.returns
unfolding object_texts
returns c =
    subst (λ (entry : LogEntry). OnOk c.push_str.result (string_bytes c.push_str.new.self ≡ string_bytes c.args.out.now ++ compact_text (log_data (c.args.self.now.0.now, entry)))) c.get-entry.ensures
    (followed _ (string_bytes c.args.out.now) (string_bytes c.push.new.out) _ (codes "{\"at\":" ++ compact_text (moment_data c.get-entry.result.now.time)) _ c.in_ok-push.ensures
    (followed _ (string_bytes c.push.new.out) (string_bytes c.push-2.new.out) _ (codes ",\"firing\":" ++ compact_text (label_sets_data (items c.get-entry.result.now.firing))) _ c.in_ok-push-2.ensures
    (followed _ (string_bytes c.push-2.new.out) (string_bytes c.push-3.new.out) _ (codes ",\"groupLabels\":" ++ compact_text (labels_data c.args.self.now.0.now.group)) _ c.in_ok-push-3.ensures
    (followed _ (string_bytes c.push-3.new.out) (string_bytes c.push-4.new.out) _ (codes ",\"integration\":" ++ compact_text (string c.args.self.now.0.now.kind)) _ c.in_ok-push-4.ensures
    (followed _ (string_bytes c.push-4.new.out) (string_bytes c.push_array.new.out) _ (codes ",\"path\":" ++ compact_text (array (items_of (map matchers_data c.args.self.now.0.now.path)))) _ (rw (c.as_slice.ensures, c.get.ensures) at c.in_ok-push_array.ensures)
    (followed _ (string_bytes c.push_array.new.out) (string_bytes c.push-5.new.out) _ (codes ",\"place\":" ++ compact_text (number_data c.args.self.now.0.now.place)) _ c.in_ok-push-5.ensures
    (followed _ (string_bytes c.push-5.new.out) (string_bytes c.push-6.new.out) _ (codes ",\"receiver\":" ++ compact_text (string c.args.self.now.0.now.receiver)) _ c.in_ok-push-6.ensures
    (followed _ (string_bytes c.push-6.new.out) (string_bytes c.push-7.new.out) _ (codes ",\"resolved\":" ++ compact_text (label_sets_data (items c.get-entry.result.now.resolved))) _ c.in_ok-push-7.ensures
    (push_last _ (string_bytes c.push-7.new.out) (string_bytes c.push_str.new.self) (codes "}") c.push_str.ensures.bytes)))))))))
