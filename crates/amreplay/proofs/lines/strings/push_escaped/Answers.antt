use Rattle.std.proofs.Common.{◌≡◌, [], ◌∷◌, ◌++◌, rules, ap, ◌∙◌}
use Rattle.json.specs.Token as token
use Rattle.json.specs.Print.{print, quoted}
use Rattle.amreplay.proofs.LinesLemmas.Pushed.{print_string}
use Rattle.amreplay.proofs.lines.strings.push_escaped.Goals as goal

pub returns : goal.returns
returns c =
    let tokens : c.string.new.self.tokens ≡ token.string c.args.text.now ∷ [] = c.in_ok-string.ensures.ok ∙ ap (λ ts. ts ++ token.string c.args.text.now ∷ []) c.new-writer.ensures.tokens in
    let before : c.string.new.self.before ≡ [] = c.string.ensures.room.0 ∙ c.new-writer.ensures.before ∙ c.new.ensures.items in
    let written : c.into_inner.result.items ≡ quoted c.args.text.now = c.into_inner.ensures.items ∙ ap (λ b. b ++ print c.string.new.self.tokens) before ∙ ap print tokens ∙ print_string c.args.text.now in
    let same : c.in-Ok.text.now ≡ quoted c.args.text.now = c.in-Ok.ensures.cases.0 ∙ c.as_slice.ensures.value ∙ written in
    rw (← same) (search rules)
