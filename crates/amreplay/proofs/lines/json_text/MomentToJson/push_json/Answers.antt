use Rattle.std.proofs.Common.{◌≡◌, ◌∷◌, [], ◌++◌, codes, append_assoc, arith}
use Rattle.std.proofs.lemmas.Grind.{common_steps}
use Rattle.std.specs.String.{string_bytes}
use Rattle.amr_time.specs.MomentText.{moment_text}
use Rattle.amreplay.proofs.LinesLemmas.MomentTexts.{moment_json}
use Rattle.amreplay.proofs.LinesLemmas.Pushed.{joined}
use Rattle.amreplay.proofs.lines.json_text.MomentToJson.push_json.Goals as goal

pub returns : goal.returns
returns c =
    let first : string_bytes c.push.new.self ≡ string_bytes c.args.out.now ++ codes "\"" = grind (arith, common_steps) in
    rw (moment_json c.args.self.now)
    (joined c.push-2.result (string_bytes c.push-2.new.self) (string_bytes c.push_moment.new.out ++ codes "\"") (string_bytes c.args.out.now ++ 34 ∷ (moment_text c.args.self.now ++ 34 ∷ []))
    (grind (arith, common_steps)) (simp (c.in_ok-push_moment.ensures, first, append_assoc)))
