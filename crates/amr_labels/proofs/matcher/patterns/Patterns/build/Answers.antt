use Rattle.std.proofs.Common.{arith, ◌≡◌, sym, ◌∙◌, ap}
use Rattle.std.specs.FinMap.{find}
use Rattle.std.specs.Cmp.Lexicographic.{nat_list_cmp_total}
use Rattle.std.specs.BTreeMap.{BTreeMap, insert_entry}
use Rattle.std.specs.FinMap.Entries.{find-put}
use Rattle.std.proofs.lemmas.Map.Views.{tells_apart}
use Rattle.amr_labels.specs.Labels.{Text, text_cmp, text_cmp-IsAntisymmetric}
use Rattle.amr_labels.proofs.Trees.{put_is}
use Rattle.amr_labels.specs.Matcher.Patterns.{AreUnderTheirTexts}
use Rattle.amr_labels.proofs.matcher.patterns.Patterns.build.Goals as goal

-- the patterns that were built, with one more, and with none when memory runs out
one_more : (built more : BTreeMap Text Text) (text pattern : Text) → AreUnderTheirTexts built → pattern ≡ text → more.entries ≡ insert_entry text_cmp built.entries text pattern → AreUnderTheirTexts more
one_more built more text pattern are is entries other cached at =
    let there = find-put text_cmp nat_list_cmp_total other text pattern built.entries in
    let found = sym there ∙ ap (find text_cmp other) (sym (put_is text_cmp built.entries text pattern) ∙ sym entries) ∙ at in
    let tied = tells_apart text_cmp-IsAntisymmetric other text in
    let before = are other cached in
    grind arith

as_before : (built same : BTreeMap Text Text) → AreUnderTheirTexts built → same.entries ≡ built.entries → AreUnderTheirTexts same
as_before built same are entries text pattern at = are text pattern (ap (find text_cmp text) (sym entries) ∙ at)

pub invariant_of-self : goal.invariant_of-self
invariant_of-self c =
    as_before c.self.inside.built c.insert.new.self c.self.invariant c.in_err-insert.ensures.err

pub invariant_of-self-2 : goal.invariant_of-self-2
invariant_of-self-2 c =
    one_more c.self.inside.built c.insert.new.self _ _ c.self.invariant
    (c.in_ok-kept.ensures.cases ∙ c.in_ok-shared.ensures ∙ c.in_ok-pattern.ensures.read) c.in_ok-insert.ensures.entries
