-- The text of an object or an array, from the texts that are pushed one after another.
use Rattle.std.proofs.Common.{◌≡◌, ℕ, ◌+◌, ◌<◌, ◌≤◌, Bool, true, false, T, List, [], ◌∷◌, ◌++◌, length, drop, get_or, Result, Ok, Err, OnOk, is_ok, if◌then◌else◌, sym, ap, ◌∙◌, append_assoc, append-nil}
use Rattle.std.proofs.lemmas.Result.{on_ok_weaker}
use Rattle.std.proofs.lemmas.List.{at_drop_more, at_drop_all}
use Rattle.std.specs.FinMap.{is_sorted}
use Rattle.json.specs.Token as token
use Rattle.json.specs.Print.{quoted, print, print_from}
use Rattle.serde_json.specs.Data.{object}
use Rattle.serde_json.specs.Written.{compact_text, members_text, comma_if}
use Rattle.amr_labels.specs.Labels.{Text, text_cmp}
use Rattle.amreplay.specs.Lines.Printed.{texts_data}
use Rattle.amreplay.proofs.LinesLemmas.Members.{in_order, fold_in_order}

-- ---- one push after another

-- a push that succeeded
pub push_done : {E : Type 0} (r : Result (Unit {0}) E) (u : Unit {0}) (old new x : List ℕ) → r ≡ Ok u → new ≡ (if is_ok r then old ++ x else old) → new ≡ old ++ x
push_done r u old new x was made = made ∙ ap (λ q. if is_ok q then old ++ x else old) was

-- the last push, which may still fail
pub push_last : {E : Type 0} (r : Result (Unit {0}) E) (old new x : List ℕ) → new ≡ (if is_ok r then old ++ x else old) → OnOk r (new ≡ old ++ x)
push_last (Ok u) old new x made = made
push_last (Err e) old new x made = tt

-- one push, and those that follow it
pub followed : {E : Type 0} (r : Result (Unit {0}) E) (a b c x y : List ℕ) → b ≡ a ++ x → OnOk r (c ≡ b ++ y) → OnOk r (c ≡ a ++ (x ++ y))
followed r a b c x y first next = on_ok_weaker r (λ e. e ∙ ap (λ l. l ++ y) first ∙ append_assoc a x y) next

-- the last piece, which may still fail, is pushed onto what makes up the whole with it
pub joined : {E : Type 0} (r : Result (Unit {0}) E) (new pushed whole : List ℕ) → OnOk r (new ≡ pushed) → pushed ≡ whole → OnOk r (new ≡ whole)
joined r new pushed whole last same = on_ok_weaker r (λ made. made ∙ same) last

-- a piece more is pushed of the text that is left
pub kept : (out next piece rest left whole : List ℕ) → next ≡ out ++ piece → rest ≡ piece ++ left → out ++ rest ≡ whole → next ++ left ≡ whole
kept out next piece rest left whole made split all =
    ap (λ l. l ++ left) made ∙ append_assoc out piece left ∙ ap (λ l. out ++ l) (sym split) ∙ all

-- the bracket that closes is pushed last
pub closed : {E : Type 0} (r : Result (Unit {0}) E) (before start out end bracket all close rest : List ℕ)
    → start ≡ before ++ bracket → out ++ rest ≡ start ++ all → rest ≡ close → OnOk r (end ≡ out ++ close) → OnOk r (end ≡ before ++ (bracket ++ all))
closed r before start out end bracket all close rest begun kept none made =
    on_ok_weaker r (λ m. m ∙ ap (λ l. out ++ l) (sym none) ∙ kept ∙ ap (λ l. l ++ all) begun ∙ append_assoc before bracket all) made

-- ---- an object of texts whose names ascend

pub texts_text : (es : List (Text × Text)) → T (is_sorted text_cmp es) → compact_text (texts_data es) ≡ 123 ∷ members_text false (in_order es)
texts_text es h = ap (λ ms. compact_text (object ms)) (fold_in_order es h)

abbrev pub member_text : Text × Text → List ℕ
member_text e = quoted e.0 ++ 58 ∷ quoted e.1

pub first_member : (later : Bool) (e : Text × Text) (es : List (Text × Text)) → members_text later (in_order (e ∷ es)) ≡ (comma_if later ++ member_text e) ++ members_text true (in_order es)
unfolding in_order
first_member later e es =
    ap (λ l. comma_if later ++ l) (sym (append_assoc (quoted e.0) (58 ∷ quoted e.1) (members_text true (in_order es))))
    ∙ sym (append_assoc (comma_if later) (member_text e) (members_text true (in_order es)))

pub next_member : (later : Bool) (es : List (Text × Text)) (i : ℕ) (d : Text × Text) → i < length es
    → members_text later (in_order (drop i es)) ≡ (comma_if later ++ member_text (get_or es i d)) ++ members_text true (in_order (drop (i + 1) es))
next_member later es i d h =
    at_drop_more (λ rest. members_text later (in_order rest)) es i d h ∙ first_member later (get_or es i d) (drop (i + 1) es)

pub no_member : (later : Bool) (es : List (Text × Text)) (i : ℕ) → length es ≤ i → members_text later (in_order (drop i es)) ≡ 125 ∷ []
unfolding in_order
no_member later es i h = at_drop_all (λ rest. members_text later (in_order rest)) es i h

-- ---- a string alone, as a writer of tokens prints it

pub print_string : (s : List ℕ) → print (token.string s ∷ []) ≡ quoted s
unfolding print_from
print_string s = append-nil (quoted s)
