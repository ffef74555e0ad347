use Rattle.std.proofs.Common.{◌++◌, codes}
use Rattle.std.specs.String.{string_bytes}
use Rattle.serde_json.specs.Data.{string, boolean}
use Rattle.serde_json.specs.Written.{compact_text}
use Rattle.amreplay.specs.Lines.Printed.{is_equal, is_regex}
use Rattle.amreplay.proofs.LinesLemmas.ObjectTexts.{object_texts}
use Rattle.amreplay.proofs.LinesLemmas.Pushed.{push_last, followed}
use Rattle.amreplay.proofs.lines.listed_text.MatcherToJson.push_json.Goals as goal

pub returns : goal.returns
unfolding object_texts
returns c =
    (followed _ (string_bytes c.args.out.now) (string_bytes c.push.new.out) _ (codes "{\"isEqual\":" ++ compact_text (boolean (is_equal c.args.self.now.operator))) _ (rw c.is_equal.ensures at c.in_ok-push.ensures)
    (followed _ (string_bytes c.push.new.out) (string_bytes c.push-2.new.out) _ (codes ",\"isRegex\":" ++ compact_text (boolean (is_regex c.args.self.now.operator))) _ (rw c.is_regex.ensures at c.in_ok-push-2.ensures)
    (followed _ (string_bytes c.push-2.new.out) (string_bytes c.push-3.new.out) _ (codes ",\"name\":" ++ compact_text (string c.args.self.now.name)) _ (rw c.name.ensures at c.in_ok-push-3.ensures)
    (followed _ (string_bytes c.push-3.new.out) (string_bytes c.push-4.new.out) _ (codes ",\"value\":" ++ compact_text (string c.args.self.now.value)) _ (rw c.value.ensures at c.in_ok-push-4.ensures)
    (push_last _ (string_bytes c.push-4.new.out) (string_bytes c.push_str.new.self) (codes "}") c.push_str.ensures.bytes)))))
