use Rattle.std.proofs.Common.{◌≡◌, rules, sym, ap, ◌∙◌}
use Rattle.std.specs.Option.{option_copied}
use Rattle.serde_json.specs.Written.{compact_text}
use Rattle.amr_labels.specs.Map as map
use Rattle.amreplay.specs.Lines.Printed.{labels_data}
use Rattle.amreplay.proofs.LinesLemmas.PlainObjects.{labels_as_they_are}
use Rattle.amreplay.proofs.lines.json_text.LabelsToJson.push_json.Goals as goal

pub push_texts-requires : goal.push_texts-requires
push_texts-requires c = rw c.entries.ensures (map.entries-sorted c.args.self.now)

pub returns-in-Some : goal.returns-in-Some
returns-in-Some c =
    let same : c.in-Some.text.now ≡ compact_text (labels_data c.args.self.now) =
    labels_as_they_are c.args.self.now c.in-Some.text.now (sym c.printed.ensures ∙ ap option_copied c.in-Some.is) in
    rw (← same) (search rules)
