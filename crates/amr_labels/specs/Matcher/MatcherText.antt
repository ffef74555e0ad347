-- The grammar of matcher texts: which texts spell a list of matchers.
use Rattle.std.specs.Prelude.{◌≡◌, ℕ, ◌&&◌, ◌||◌, ◌==◌, List, [], ◌∷◌, ◌++◌, length, Bool, true, false, not, if◌then◌else◌, nat_le, encode_utf8_all}
use Rattle.std.specs.List.{list_all}
use Rattle.std.specs.Char.{is_whitespace}
use Rattle.amr_labels.specs.declared.matcher.Operator.{Operator}
use Rattle.amr_labels.specs.declared.matcher.Operator.TheVariants.{Equal, NotEqual, Matches, NotMatches}
use Rattle.amr_labels.specs.Matcher.Matchers.{Matcher}

-- the characters { } ! = ~ , \ " ' and the backquote
abbrev pub is_mark : ℕ → Bool
is_mark c = (c == 123) || (c == 125) || (c == 33) || (c == 61) || (c == 126) || (c == 44) || (c == 92) || (c == 34) || (c == 39) || (c == 96)

-- an unquoted literal has no white space and no mark
abbrev pub is_literal : ℕ → Bool
is_literal c = not (is_whitespace c) && not (is_mark c)

-- in quotes a backslash is refused before a b f r v x u U ' and the digits 0 to 7
abbrev pub is_refused : ℕ → Bool
is_refused c = (c == 97) || (c == 98) || (c == 102) || (c == 114) || (c == 118) || (c == 120) || (c == 117) || (c == 85) || (c == 39) || (nat_le 48 c && nat_le c 55)

-- what a backslash and a character mean: a quote, a backslash, a line feed, a tab, and otherwise
-- both
abbrev pub meaning_of_escape : ℕ → List ℕ
meaning_of_escape c =
    if c == 34 then 34 ∷ [] else (if c == 92 then 92 ∷ [] else (if c == 110 then 10 ∷ [] else (if c == 116 then 9 ∷ [] else 92 ∷ c ∷ [])))

-- what may be in quotes: a character, or a backslash and a character
pub data Piece : Type 0 where
  Character : ℕ → Piece
  Escape : ℕ → Piece

abbrev pub piece_text : Piece → List ℕ
piece_text (Character c) = c ∷ []
piece_text (Escape c) = 92 ∷ c ∷ []

abbrev pub piece_value : Piece → List ℕ
piece_value (Character c) = c ∷ []
piece_value (Escape c) = meaning_of_escape c

abbrev pub is_piece : Piece → Bool
is_piece (Character c) = not (c == 34) && not (c == 92)
is_piece (Escape c) = not (is_refused c)

abbrev pub pieces_text : List Piece → List ℕ
pieces_text [] = []
pieces_text (p ∷ ps) = piece_text p ++ pieces_text ps

abbrev pub pieces_value : List Piece → List ℕ
pieces_value [] = []
pieces_value (p ∷ ps) = piece_value p ++ pieces_value ps

-- a name or a value: an unquoted literal, or a text in quotes
pub data Term : Type 0 where
  Literal : List ℕ → Term
  Quoted : List Piece → Term

abbrev pub term_text : Term → List ℕ
term_text (Literal cs) = cs
term_text (Quoted ps) = 34 ∷ (pieces_text ps ++ (34 ∷ []))

abbrev pub term_value : Term → List ℕ
term_value (Literal cs) = cs
term_value (Quoted ps) = pieces_value ps

abbrev pub is_term : Term → Bool
is_term (Literal cs) = list_all is_literal cs
is_term (Quoted ps) = list_all is_piece ps

-- a name isn't empty
abbrev pub is_name : Term → Bool
is_name (Literal []) = false
is_name (Literal (c ∷ cs)) = list_all is_literal (c ∷ cs)
is_name (Quoted []) = false
is_name (Quoted (p ∷ ps)) = list_all is_piece (p ∷ ps)

abbrev pub operator_text : Operator → List ℕ
operator_text Equal = 61 ∷ []
operator_text NotEqual = 33 ∷ 61 ∷ []
operator_text Matches = 61 ∷ 126 ∷ []
operator_text NotMatches = 33 ∷ 126 ∷ []

abbrev pub is_blank : List ℕ → Bool
is_blank = list_all is_whitespace

-- A matcher as it is written, with the white space before and after its name, operator and value.
-- No value begins with `~`, so the operator is the longest possible. A value that is left out is
-- the empty literal.
pub record Written : Type 0 where
  pub before : List ℕ
  pub name : Term
  pub after_name : List ℕ
  pub operator : Operator
  pub before_value : List ℕ
  pub value : Term
  pub after : List ℕ

abbrev pub written_text : Written → List ℕ
written_text w =
    w.before ++ (term_text w.name ++ (w.after_name ++ (operator_text w.operator ++ (w.before_value ++ (term_text w.value ++ w.after)))))

abbrev pub written_matcher : Written → Matcher
written_matcher w = record { name = encode_utf8_all (term_value w.name); operator = w.operator; value = encode_utf8_all (term_value w.value) }

abbrev pub IsWritten : Written → Type 0
IsWritten w =
    (is_blank w.before ≡ true) × (is_name w.name ≡ true) × (is_blank w.after_name ≡ true) × (is_blank w.before_value ≡ true) × (is_term w.value ≡ true) × (is_blank w.after ≡ true)

-- Matchers separated by commas: white space only, one matcher, or a matcher, a comma and the rest.
-- So a comma may follow the last matcher, but a comma never comes first.
pub data Listed : Type 0 where
  Alone : List ℕ → Listed
  Last : Written → Listed
  Then : Written → Listed → Listed

abbrev pub listed_text : Listed → List ℕ
listed_text (Alone space) = space
listed_text (Last w) = written_text w
listed_text (Then w rest) = written_text w ++ (44 ∷ listed_text rest)

abbrev pub listed_matchers : Listed → List Matcher
listed_matchers (Alone space) = []
listed_matchers (Last w) = written_matcher w ∷ []
listed_matchers (Then w rest) = written_matcher w ∷ listed_matchers rest

abbrev pub IsListed : Listed → Type 0
IsListed (Alone space) = is_blank space ≡ true
IsListed (Last w) = IsWritten w
IsListed (Then w rest) = IsWritten w × IsListed rest

-- the whole in braces or not
pub data Whole : Type 0 where
  Bare : Listed → Whole
  Braced : List ℕ → Listed → List ℕ → Whole

abbrev pub whole_text : Whole → List ℕ
whole_text (Bare listed) = listed_text listed
whole_text (Braced before listed after) = before ++ (123 ∷ (listed_text listed ++ (125 ∷ after)))

abbrev pub whole_matchers : Whole → List Matcher
whole_matchers (Bare listed) = listed_matchers listed
whole_matchers (Braced before listed after) = listed_matchers listed

abbrev pub IsWhole : Whole → Type 0
IsWhole (Bare listed) = IsListed listed
IsWhole (Braced before listed after) = (is_blank before ≡ true) × IsListed listed × (is_blank after ≡ true)

-- the characters are a text that spells the matchers
abbrev pub Spells : List ℕ → List Matcher → Type 0
Spells cs matchers = (whole : Whole) × IsWhole whole × (cs ≡ whole_text whole) × (matchers ≡ whole_matchers whole)

-- some matcher text begins with these characters
abbrev pub Begins : List ℕ → Type 0
Begins cs = (rest : List ℕ) × (matchers : List Matcher) × Spells (cs ++ rest) matchers

-- n is the length in bytes of the longest prefix of cs with which some matcher text begins
abbrev pub IsLongest : List ℕ → ℕ → Type 0
IsLongest cs n =
    (front back : List ℕ) × (cs ≡ front ++ back) × (n ≡ length (encode_utf8_all front)) × Begins front × ((c : ℕ) (more : List ℕ) → back ≡ c ∷ more → ¬ (Begins (front ++ c ∷ [])))
