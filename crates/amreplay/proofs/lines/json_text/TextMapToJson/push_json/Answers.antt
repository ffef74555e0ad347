use Rattle.amr_labels.specs.Map as map
use Rattle.amreplay.proofs.lines.json_text.TextMapToJson.push_json.Goals as goal

pub push_texts-requires : goal.push_texts-requires
push_texts-requires c = rw c.entries.ensures (map.entries-sorted c.args.self.now)
