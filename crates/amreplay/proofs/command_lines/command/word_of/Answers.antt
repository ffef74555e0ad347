use Rattle.std.proofs.Common.{◌≡◌, ◌+◌, false, ◌∷◌, drop, get_or, refl, sym, ap, ◌∙◌}
use Rattle.std.specs.Str.{bytes_eq}
use Rattle.std.proofs.lemmas.List.{at_drop_more}
use Rattle.amreplay.specs.declared.lines.word.Word.TheVariants.{Step}
use Rattle.amreplay.specs.Lines.LastLines.{word_text}
use Rattle.amreplay.specs.CommandLines.Command.{known_words, named_among}
use Rattle.amreplay.proofs.command_lines.command.word_of.Goals as goal

-- the word was compared and isn't the text
pub loop-word-preserved : goal.loop-word-preserved
loop-word-preserved c =
    let text = c.args.text.now in
    let i = c.loop-word.word-index in
    let not_it : bytes_eq text (word_text (get_or known_words i Step)) ≡ false = ap (bytes_eq text) (sym (c.as_bytes.ensures.value ∙ c.word_text.ensures)) ∙ sym c.eq.ensures ∙ c.if-eq.false in
    let same : named_among (get_or known_words i Step ∷ drop (i + 1) known_words) text ≡ named_among (drop (i + 1) known_words) text = rw not_it refl in
    sym (at_drop_more (λ ws. named_among ws text) known_words i Step c.loop-word-test.true ∙ same) ∙ c.loop-word.invariant
