-- A text whose bytes need no escape is what JSON has between its quotes.
use Rattle.std.proofs.Common.{◌≡◌, ℕ, Bool, true, false, List, sym}
use Rattle.std.specs.Bool.{OnTrue}
use Rattle.std.specs.List.{list_all}
use Rattle.std.proofs.lemmas.Bool.{true_from_ne_false, both_ways}
use Rattle.std.proofs.lemmas.List.Folds.{list_all_at}
use Rattle.json.specs.Print.{escape}
use Rattle.json.specs.Run.{is_plain}
use Rattle.json.proofs.Printed.Plain.{escape_on_plain}

pub own_escape : (is_known : Bool) (bytes : List ℕ) → is_known ≡ list_all is_plain bytes → OnTrue is_known (escape bytes ≡ bytes)
own_escape true bytes e = escape_on_plain true bytes (λ k _ h. true_from_ne_false _ (λ no. both_ways _ (list_all_at is_plain bytes k 0 h no) (sym e)))
own_escape false bytes e = tt
