-- Values that the tokens of a line state, a member or an item at a time.
use Rattle.std.proofs.Common.{◌≡◌, ℕ, ◌-◌, ◌<◌, ◌≤◌, List, [], ◌∷◌, ◌++◌, length, append_assoc, append-nil, Option, Some, None, option_map, refl, ap, ◌∙◌, arith}
use Rattle.json.specs.Token.{Token}
use Rattle.json.specs.Lex.{tokens}
use Rattle.json.specs.Json.{parse_map, after_end_array, read_key, items, members, value}
use Rattle.json.proofs.Grammar.{value_is, value-begin_array, value-begin_object, items_end, items_more, members_end, members_more}
use Rattle.serde_json.specs.Data.{Data, string, array, object, Items, item, Members, no_members, put}
use Rattle.serde_json.specs.Read.{of_json, of_items, of_members, converted, read}
use Rattle.amr_events.specs.Shapes.{each_item}
use Rattle.amr_events.specs.Tokens.{States}

-- what was read and converted had been read
was_read : {A B : Type 0} (f : A → Option B) (o : Option (A × List Token)) (b : B) (rest : List Token) → converted f o ≡ Some (b, rest) → (a : A) × (o ≡ Some (a, rest)) × (f a ≡ Some b)
was_read f o b rest e = grind arith

item_read : (depth n : ℕ) (ts r : List Token) (d : Data) → 0 < n → after_end_array ts ≡ None → converted of_json (value depth ts) ≡ Some (d, r)
    → converted of_items (items (value depth) n ts) ≡ parse_map (item d) (converted of_items (items (value depth) (n - 1) r))
item_read depth n ts r d some going e =
    let j = was_read of_json (value depth ts) d r e in
    grind (arith, items_more (value depth) n ts r j.0 some going j.1, j.2)

member_read : (depth n : ℕ) (k : List ℕ) (ts s r : List Token) (d : Data) (old : Members) → 0 < n → read_key ts ≡ Some (Some k, s) → converted of_json (value depth s) ≡ Some (d, r)
    → converted (λ ms. of_members ms old) (members (value depth) n ts) ≡ converted (λ ms. of_members ms (put k d old)) (members (value depth) (n - 1) r)
member_read depth n k ts s r d old some key e =
    let j = was_read of_json (value depth s) d r e in
    grind (arith, members_more (value depth) n k ts s r j.0 some key j.1, j.2)

module _ (depth : ℕ) where
  pub states_text : (Is : Data → Type 0) (tokens rest : List Token) (text : List ℕ) → tokens ≡ Token.string text ∷ rest → Is (string text) → States Is depth tokens rest
  states_text Is tokens rest text is such = record {
    stated = string text;
    read = rw (is, value_is depth _) refl;
    such = such;
  }

  pub states_such : (Is Such : Data → Type 0) (tokens rest : List Token) → ((d : Data) → Is d → Such d) → States Is depth tokens rest → States Such depth tokens rest
  states_such Is Such tokens rest more stated = record { stated = stated.stated; read = stated.read; such = more stated.stated stated.such }

  pub states_object : (Is : Data → Type 0) (tokens inner rest : List Token) (found : Members) → 0 < depth → tokens ≡ Token.begin_object ∷ inner
      → converted (λ ms. of_members ms no_members) (members (value (depth - 1)) (length inner) inner) ≡ Some (found, rest) → Is (object found) → States Is depth tokens rest
  states_object Is tokens inner rest found some is read such = record {
    stated = object found;
    read = grind (arith, ap (value depth) is, value-begin_object depth inner some);
    such = such;
  }

  pub states_array : (Is : Data → Type 0) (tokens inner rest : List Token) (found : Items) → 0 < depth → tokens ≡ Token.begin_array ∷ inner
      → converted of_items (items (value (depth - 1)) (length inner) inner) ≡ Some (found, rest) → Is (array found) → States Is depth tokens rest
  states_array Is tokens inner rest found some is read such = record {
    stated = array found;
    read = grind (arith, ap (value depth) is, value-begin_array depth inner some);
    such = such;
  }

  -- the members of an object that begins at one position have been read up to another
  pub record MembersLeft (start now : List Token) (found : Members) : Type 0 where
    pub turns : ℕ
    pub enough : length now ≤ turns
    pub same : converted (λ ms. of_members ms no_members) (members (value depth) (length start) start) ≡ converted (λ ms. of_members ms found) (members (value depth) turns now)

  pub no_member_read : (start : List Token) → MembersLeft start start no_members
  no_member_read start = record { turns = length start; enough = omega arith; same = refl }

  pub one_more_member : (Is : Data → Type 0) (start now after rest : List Token) (found : Members) (key : List ℕ) → MembersLeft start now found → read_key now ≡ Some (Some key, after) → length after < length now → length rest < length after
      → (stated : States Is depth after rest) → MembersLeft start rest (put key stated.stated found)
  one_more_member Is start now after rest found key left named less lesser stated =
      let n = left.turns in
      let enough = left.enough in
      record {
        turns = n - 1;
        enough = omega arith;
        same = left.same ∙ member_read depth n key now after rest stated.stated found (omega arith) named stated.read;
      }

  pub one_more_text : (start now after rest : List Token) (found : Members) (key text : List ℕ) → MembersLeft start now found → read_key now ≡ Some (Some key, after) → length after < length now → length rest < length after
      → after ≡ Token.string text ∷ rest → MembersLeft start rest (put key (string text) found)
  unfolding states_text
  one_more_text start now after rest found key text left named less lesser is =
      one_more_member (λ d. d ≡ string text) start now after rest found key left named less lesser (states_text (λ d. d ≡ string text) after rest text is refl)

  pub all_members_read : (start now rest : List Token) (found : Members) → MembersLeft start now found → read_key now ≡ Some (None, rest)
      → converted (λ ms. of_members ms no_members) (members (value depth) (length start) start) ≡ Some (found, rest)
  all_members_read start now rest found left closed = left.same ∙ rw (members_end (value depth) left.turns now rest left.enough closed) refl

-- ---- the items of an array, each read as something

module _ {A : Type 0} (reads : Data → Option A) (depth : ℕ) where
  abbrev pub items_read : ℕ → List Token → Option (List A × List Token)
  items_read turns now = converted (each_item reads) (converted of_items (items (value depth) turns now))

  abbrev pub onto : List A → Option (List A × List Token) → Option (List A × List Token)
  onto front read = option_map (λ p. (front ++ p.0, p.1)) read

  -- the items of an array that begins at one position have been read up to another
  pub record ItemsLeft (start now : List Token) (front : List A) : Type 0 where
    pub turns : ℕ
    pub enough : length now ≤ turns
    pub same : items_read (length start) start ≡ onto front (items_read turns now)

  pub one_more_item : (start now rest : List Token) (front : List A) (x : A) → ItemsLeft start now front → after_end_array now ≡ None → length rest < length now
      → States (λ d. reads d ≡ Some x) depth now rest → ItemsLeft start rest (front ++ x ∷ [])
  one_more_item start now rest front x left going less stated =
      let n = left.turns in
      let enough = left.enough in
      record {
        turns = n - 1;
        enough = omega arith;
        same = grind (arith, left.same, item_read depth n now rest stated.stated (omega arith) going stated.read, stated.such, append_assoc front (x ∷ []));
      }

  pub all_items_read : (start now rest : List Token) (front : List A) → ItemsLeft start now front → after_end_array now ≡ Some rest
      → (ds : Items) × (converted of_items (items (value depth) (length start) start) ≡ Some (ds, rest)) × (each_item reads ds ≡ Some front)
  all_items_read start now rest front left closed =
      was_read (each_item reads) _ front rest (left.same ∙ rw (items_end (value depth) left.turns now rest left.enough closed) (simp append-nil))

-- a text that states a value and nothing else
pub whole_read : (text : List ℕ) (d : Data) → converted of_json (value 127 (tokens text)) ≡ Some (d, []) → read text ≡ Some d
whole_read text d e =
    let j = was_read of_json (value 127 (tokens text)) d [] e in
    grind (arith, j.1, j.2)
