-- An object of texts whose names ascend has them in that order.
use Rattle.std.proofs.Common.{◌≡◌, List, [], ◌∷◌, T, fold, refl, ap, ◌∙◌}
use Rattle.std.specs.Ordering.{match_ordering, ordering_reverse, is_lt}
use Rattle.std.specs.Cmp.Lexicographic.{nat_list_cmp_total}
use Rattle.std.specs.FinMap.{is_sorted}
use Rattle.std.specs.FinMap.Entries.{below_all}
use Rattle.serde_json.specs.Data.{Data, Members, no_members, member, put, string}
use Rattle.amr_labels.specs.Labels.{Text, text_cmp}
use Rattle.amr_labels.proofs.Sorted.{first, second, less}
use Rattle.amreplay.specs.Lines.Printed.{with_text}

-- a later name goes behind an earlier one
put_behind : (k l : Text) (d e : Data) (ms : Members) → T (is_lt (text_cmp l k)) → put k d (member l e ms) ≡ member l e (put k d ms)
put_behind k l d e ms h =
    ap (λ o. match_ordering o (member k d (member l e ms)) (member l d ms) (member l e (put k d ms)))
    (nat_list_cmp_total.antisymm k l ∙ ap ordering_reverse (less (text_cmp l k) h))

all_behind : (l : Text) (e : Data) (ms : Members) (es : List (Text × Text)) → T (below_all text_cmp l es) → fold with_text (member l e ms) es ≡ member l e (fold with_text ms es)
all_behind l e ms [] h = refl
all_behind l e ms (x ∷ es) h =
    ap (λ ns. fold with_text ns es) (put_behind x.0 l (string x.1) e ms (first (is_lt (text_cmp l x.0)) (below_all text_cmp l es) h))
    ∙ all_behind l e (with_text ms x) es (second (is_lt (text_cmp l x.0)) (below_all text_cmp l es) h)

unfoldable pub in_order : List (Text × Text) → Members
in_order [] = no_members
in_order (e ∷ es) = member e.0 (string e.1) (in_order es)

pub fold_in_order : (es : List (Text × Text)) → T (is_sorted text_cmp es) → fold with_text no_members es ≡ in_order es
unfolding in_order
fold_in_order [] h = refl
fold_in_order (e ∷ es) h =
    all_behind e.0 (string e.1) no_members es (first (below_all text_cmp e.0 es) (is_sorted text_cmp es) h)
    ∙ ap (member e.0 (string e.1)) (fold_in_order es (second (below_all text_cmp e.0 es) (is_sorted text_cmp es) h))
