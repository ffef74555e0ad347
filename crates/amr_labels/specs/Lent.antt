-- Names and texts that are lent.
use Rattle.std.specs.Prelude.{List, map}
use Rattle.std.specs.Borrow.{Bor}
use Rattle.amr_labels.specs.Labels.{Text}

-- names and texts that are lent
abbrev pub lent_texts : List (Bor Text × Bor Text) → List (Text × Text)
lent_texts = map (λ pair. (pair.0.now, pair.1.now))
