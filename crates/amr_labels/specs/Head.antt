-- Numbers that tell most label sets apart in their order: if two heads differ, the sort key with the
-- lesser one is the lesser. Most sort keys begin with the name `alertname`, so the head of such a one
-- is made of what follows it. The head of another is made of its own first bytes.
use Rattle.std.specs.Prelude.{ℕ, zero, suc, ◌+◌, ◌*◌, [], ◌∷◌, codes, length, drop}
use Rattle.std.specs.declared.cmp.Ordering.{Ordering}
use Rattle.std.specs.declared.cmp.Ordering.TheVariants.{Less, Equal}
use Rattle.std.specs.Ordering.{nat_cmp, ordering_then, match_ordering}
use Rattle.amr_labels.specs.Labels.{Text}
use Rattle.amr_labels.specs.SortKey.{key_of_text}

-- a number with the first bytes of a text as its next digits, and zeros after the end of the text
abbrev pub with_head : ℕ → ℕ → Text → ℕ
with_head zero number text = number
with_head (suc n) number [] = with_head n (number * 256) []
with_head (suc n) number (b ∷ bs) = with_head n (number * 256 + b) bs

-- whether a text is before all that begin with a prefix, among them or after them
abbrev pub standing : Text → Text → Ordering
standing [] text = Equal
standing (p ∷ ps) [] = Less
standing (p ∷ ps) (b ∷ bs) = ordering_then (nat_cmp b p) (standing ps bs)

-- the head of a text among those that begin with a prefix and the others
abbrev pub head_past : Text → Text → ℕ
head_past prefix text = match_ordering (standing prefix text) (with_head 7 0 text) (with_head 7 1 (drop (length prefix) text)) (with_head 7 2 text)

-- the name that most label sets begin with, as it stands in a sort key
abbrev pub usual_name : Text
usual_name = key_of_text (codes "alertname")

unfoldable pub text_head : Text → ℕ
text_head text = head_past usual_name text
