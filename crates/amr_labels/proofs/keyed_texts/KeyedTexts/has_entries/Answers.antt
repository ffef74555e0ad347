use Rattle.std.proofs.Common.{◌≡◌, arith, length}
use Rattle.std.proofs.lemmas.List.{length-map}
use Rattle.amr_labels.specs.Map.{entries}
use Rattle.amr_labels.specs.Lent.{lent_texts}
use Rattle.amr_labels.proofs.KeyTexts.{of_sort_key}
use Rattle.amr_labels.proofs.keyed_texts.KeyedTexts.has_entries.Goals as goal

pub returns-then-self-stated-clause-equal : goal.returns-then-self-stated-clause-equal
returns-then-self-stated-clause-equal c joined =
    let mine = rw c.in-Some.is at c.self.invariant.0 in
    let own = of_sort_key (entries c.self.inside.texts) (lent_texts c.args.stated.now) mine.1 in
    let count : length (lent_texts c.args.stated.now) ≡ length c.args.stated.now = length-map c.args.stated.now _ in
    grind (arith, own, c.is_joined.ensures.equal joined)
