use Rattle.std.proofs.Common.{◌≡◌, ◌++◌, OnOk, codes, subst}
use Rattle.std.specs.String.{string_bytes}
use Rattle.serde_json.specs.Data.{boolean}
use Rattle.serde_json.specs.Written.{compact_text}
use Rattle.amr_labels.specs.Map.{entries}
use Rattle.amr_rules.specs.declared.alert.Alert.{Alert}
use Rattle.amreplay.specs.Lines.Printed.{texts_data, labels_data, moment_data, alert_data}
use Rattle.amreplay.proofs.LinesLemmas.ObjectTexts.{object_texts}
use Rattle.amreplay.proofs.LinesLemmas.Pushed.{push_last, followed}
use Rattle.amreplay.proofs.lines.listed_text.Tuple2RefLabelsRefSharedAlertToJson.push_json.Goals as goal

pub returns : goal.returns
unfolding object_texts
returns c =
    subst (λ (alert : Alert). OnOk c.push_str.result (string_bytes c.push_str.new.self ≡ string_bytes c.args.out.now ++ compact_text (alert_data (c.args.self.now.0.now, alert)))) c.get-alert.ensures
    (followed _ (string_bytes c.args.out.now) (string_bytes c.push.new.out) _ (codes "{\"annotations\":" ++ compact_text (texts_data (entries c.get-alert.result.now.annotations))) _ c.in_ok-push.ensures
    (followed _ (string_bytes c.push.new.out) (string_bytes c.push-2.new.out) _ (codes ",\"endsAt\":" ++ compact_text (moment_data c.get-alert.result.now.ends_at)) _ c.in_ok-push-2.ensures
    (followed _ (string_bytes c.push-2.new.out) (string_bytes c.push-3.new.out) _ (codes ",\"labels\":" ++ compact_text (labels_data c.args.self.now.0.now)) _ c.in_ok-push-3.ensures
    (followed _ (string_bytes c.push-3.new.out) (string_bytes c.push-4.new.out) _ (codes ",\"startsAt\":" ++ compact_text (moment_data c.get-alert.result.now.starts_at)) _ c.in_ok-push-4.ensures
    (followed _ (string_bytes c.push-4.new.out) (string_bytes c.push-5.new.out) _ (codes ",\"timeout\":" ++ compact_text (boolean c.get-alert.result.now.timed_out)) _ c.in_ok-push-5.ensures
    (followed _ (string_bytes c.push-5.new.out) (string_bytes c.push-6.new.out) _ (codes ",\"updatedAt\":" ++ compact_text (moment_data c.get-alert.result.now.last_post)) _ c.in_ok-push-6.ensures
    (push_last _ (string_bytes c.push-6.new.out) (string_bytes c.push_str.new.self) (codes "}") c.push_str.ensures.bytes)))))))
