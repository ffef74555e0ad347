-- What is read is spelled: what may follow in each state of the machine, in the terms of the
-- grammar.
use Rattle.std.proofs.Common.{arith, ◌≡◌, ℕ, List, [], ◌∷◌, ◌++◌, Bool, true, false, not, Option, Some, None, if◌then◌else◌, refl, sym, ap, subst, ◌∙◌, append_assoc, ◌==◌, ◌⊎◌, inl, inr, encode_utf8, encode_utf8_all, option_and_then, chars, append-nil}
use Rattle.std.specs.List.{list_all}
use Rattle.std.specs.Char.{is_whitespace}
use Rattle.std.proofs.lemmas.Bool.{and_from, false≢true, true≢false, eqb-true}
use Rattle.amr_labels.specs.declared.matcher.Operator.{Operator}
use Rattle.amr_labels.specs.declared.matcher.Operator.TheVariants.{Equal, NotEqual, Matches, NotMatches}
use Rattle.amr_labels.specs.declared.matcher.matcher_steps.Kind.{Kind}
use Rattle.amr_labels.specs.declared.matcher.matcher_steps.Kind.TheVariants.{Blank, Opening, Closing, Bang, Equals, Tilde, Comma, Quote, Plain}
use Rattle.amr_labels.specs.declared.matcher.matcher_steps.Mode.{Mode}
use Rattle.amr_labels.specs.declared.matcher.matcher_steps.Mode.TheVariants.{Start, Opened, NameLiteral, NameOpened, NameQuoted, NameEscape, AfterName, AfterBang, AfterEquals, ValueStart, ValueLiteral, ValueQuoted, ValueEscape, AfterValue, AfterComma, Closed}
use Rattle.amr_labels.specs.declared.matcher.matcher_steps.Part.TheVariants.{Nothing, Name, NameEscaped, Value, ValueEscaped}
use Rattle.amr_labels.specs.declared.matcher.matcher_steps.Step.{Step}
use Rattle.amr_labels.specs.Labels.{Text}
use Rattle.amr_labels.specs.Matcher.Matchers.{Matcher}
use Rattle.amr_labels.specs.Matcher.MatcherText.{is_literal, is_refused, meaning_of_escape, Piece, Character, Escape, is_piece, pieces_text, pieces_value, Term, Literal, Quoted, term_text, term_value, is_term, is_name, operator_text, is_blank, Written, written_matcher, Listed, Alone, Last, Then, listed_text, listed_matchers, IsListed, Bare, Braced, Spells}
use Rattle.amr_labels.specs.Matcher.MatcherReading.{Reading, kind_of, begins_matcher, after_name, ends_value, begins_value, in_name, in_value, after_bang, after_equals, at_start, after_braces, step_at, step_from, with_part, run, ending, matchers_at_end, matchers_of_chars, matchers_of, go}
use Rattle.amr_labels.specs.Matcher.MatcherLaws.{ReadIsSpelled}
use Rattle.amr_labels.proofs.MatcherLemmas.MatcherRuns.{run-none}
use Rattle.amr_labels.proofs.MatcherLemmas.MatcherKinds.{means}
use Rattle.amr_labels.proofs.MatcherLemmas.MatcherSpelled.{reading, moved, pieces_encoded}

-- from a reading, and from a step, the characters lead to an end with these matchers
abbrev Accepts : Reading → List ℕ → List Matcher → Type 0
Accepts r cs out = option_and_then matchers_at_end (run (Some r) cs) ≡ Some out

abbrev Taken : Reading → Option Step → List ℕ → List Matcher → Type 0
Taken r step cs out = option_and_then matchers_at_end (run (moved r step) cs) ≡ Some out

refused : (r : Reading) (cs : List ℕ) (out : List Matcher) → Taken r None cs out → ⊥
refused r cs out h = grind (arith, run-none cs)

cons_same : (c d : ℕ) (cs ds : List ℕ) → c ≡ d → cs ≡ ds → c ∷ cs ≡ d ∷ ds
cons_same c d cs ds e f = λ i. e i ∷ f i

abbrev with_matcher : List Matcher → Text → Operator → Text → List Matcher
with_matcher ms n o v = ms ++ record { name = n; operator = o; value = v } ∷ []

-- what follows a list of matchers: the end, or the closing brace
abbrev Back : Bool → List ℕ → Type 0
Back false back = back ≡ []
Back true back = (space : List ℕ) × (back ≡ 125 ∷ space) × (is_blank space ≡ true)

abbrev FollowsListed : Bool → List Matcher → List ℕ → List Matcher → Type 0
FollowsListed b ms cs out = (l : Listed) × (back : List ℕ) × IsListed l × (cs ≡ listed_text l ++ back) × Back b back × (out ≡ ms ++ listed_matchers l)

-- the end, or a comma and more matchers
abbrev FollowsValue : Bool → List Matcher → List ℕ → List Matcher → Type 0
FollowsValue b ms cs out =
    (space : List ℕ) × (rest : List ℕ) × (is_blank space ≡ true) × (cs ≡ space ++ rest) × ((Back b rest × (out ≡ ms)) ⊎ ((more : List ℕ) × (rest ≡ 44 ∷ more) × FollowsListed b ms more out))

-- where P follows a text with what was read: after more characters of a literal, after pieces in
-- quotes, and after at least one piece
abbrev AfterLiteral : (Text → List ℕ → Type 0) → Text → List ℕ → Type 0
AfterLiteral P t cs =
    (literal : List ℕ) × (rest : List ℕ) × (list_all is_literal literal ≡ true) × (cs ≡ literal ++ rest) × P (t ++ encode_utf8_all literal) rest

abbrev AfterPieces : (Text → List ℕ → Type 0) → Text → List ℕ → Type 0
AfterPieces P t cs =
    (ps : List Piece) × (rest : List ℕ) × (list_all is_piece ps ≡ true) × (cs ≡ pieces_text ps ++ (34 ∷ rest)) × P (t ++ encode_utf8_all (pieces_value ps)) rest

abbrev AfterPiece : (Text → List ℕ → Type 0) → Text → List ℕ → Type 0
AfterPiece P t cs =
    (piece : Piece) × (ps : List Piece) × (rest : List ℕ) × (list_all is_piece (piece ∷ ps) ≡ true) × (cs ≡ pieces_text (piece ∷ ps) ++ (34 ∷ rest)) × P (t ++ encode_utf8_all (pieces_value (piece ∷ ps))) rest

-- after a value
abbrev ByValue : Bool → Text → Operator → List Matcher → List Matcher → Text → List ℕ → Type 0
ByValue b n o ms out v cs = FollowsValue b (with_matcher ms n o v) cs out

abbrev FollowsOperator : Bool → Text → Operator → Text → List Matcher → List ℕ → List Matcher → Type 0
FollowsOperator b n o v ms cs out =
    (space : List ℕ) × (value : Term) × (rest : List ℕ) × (is_blank space ≡ true) × (is_term value ≡ true) × (cs ≡ space ++ (term_text value ++ rest)) × FollowsValue b (with_matcher ms n o (v ++ encode_utf8_all (term_value value))) rest out

abbrev FollowsName : Bool → Text → Text → List Matcher → List ℕ → List Matcher → Type 0
FollowsName b n v ms cs out =
    (space : List ℕ) × (operator : Operator) × (rest : List ℕ) × (is_blank space ≡ true) × (cs ≡ space ++ (operator_text operator ++ rest)) × FollowsOperator b n operator v ms rest out

-- after a name
abbrev ByName : Bool → Text → List Matcher → List Matcher → Text → List ℕ → Type 0
ByName b v ms out n cs = FollowsName b n v ms cs out

abbrev FollowsBackslash : (Text → List ℕ → Type 0) → Text → List ℕ → Type 0
FollowsBackslash P t cs = (c : ℕ) × (rest : List ℕ) × (cs ≡ c ∷ rest) × (is_refused c ≡ false) × AfterPieces P (t ++ encode_utf8_all (meaning_of_escape c)) rest

abbrev FollowsBraces : List Matcher → List ℕ → List Matcher → Type 0
FollowsBraces ms cs out =
    (before : List ℕ) × (l : Listed) × (after : List ℕ) × (is_blank before ≡ true) × IsListed l × (is_blank after ≡ true) × (cs ≡ before ++ (123 ∷ (listed_text l ++ (125 ∷ after)))) × (out ≡ ms ++ listed_matchers l)

-- what follows in a state
abbrev Follows : Bool → Mode → Text → Operator → Text → List Matcher → List ℕ → List Matcher → Type 0
Follows b Start n o v ms cs out = b ≡ false → n ≡ [] → v ≡ [] → FollowsListed false ms cs out ⊎ FollowsBraces ms cs out
Follows b Opened n o v ms cs out = b ≡ true → n ≡ [] → v ≡ [] → FollowsListed true ms cs out
Follows b NameLiteral n o v ms cs out = AfterLiteral (ByName b v ms out) n cs
Follows b NameOpened n o v ms cs out = AfterPiece (ByName b v ms out) n cs
Follows b NameQuoted n o v ms cs out = AfterPieces (ByName b v ms out) n cs
Follows b NameEscape n o v ms cs out = FollowsBackslash (ByName b v ms out) n cs
Follows b AfterName n o v ms cs out = FollowsName b n v ms cs out
Follows b AfterBang n o v ms cs out = (operator : Operator) × (rest : List ℕ) × (33 ∷ cs ≡ operator_text operator ++ rest) × FollowsOperator b n operator v ms rest out
Follows b AfterEquals n o v ms cs out = ((rest : List ℕ) × (cs ≡ 126 ∷ rest) × FollowsOperator b n Matches v ms rest out) ⊎ FollowsOperator b n o v ms cs out
Follows b ValueStart n o v ms cs out = FollowsOperator b n o v ms cs out
Follows b ValueLiteral n o v ms cs out = AfterLiteral (ByValue b n o ms out) v cs
Follows b ValueQuoted n o v ms cs out = AfterPieces (ByValue b n o ms out) v cs
Follows b ValueEscape n o v ms cs out = FollowsBackslash (ByValue b n o ms out) v cs
Follows b AfterValue n o v ms cs out = FollowsValue b (with_matcher ms n o v) cs out
Follows b AfterComma n o v ms cs out = n ≡ [] → v ≡ [] → FollowsListed b ms cs out
Follows b Closed n o v ms cs out = (is_blank cs ≡ true) × (out ≡ ms)

-- this is true of these characters in each state
abbrev Known : List ℕ → Type 0
Known cs = (b : Bool) (p : Mode) (n : Text) (o : Operator) (v : Text) (ms out : List Matcher) → Accepts (reading b p n o v ms) cs out → Follows b p n o v ms cs out

-- more white space
spaced : (c : ℕ) (space : List ℕ) → is_whitespace c ≡ true → is_blank space ≡ true → is_blank (c ∷ space) ≡ true
spaced c space h w = and_from (is_whitespace c) (list_all is_whitespace space) h w

spaced_value : (b : Bool) (ms : List Matcher) (c : ℕ) (cs : List ℕ) (out : List Matcher) → is_whitespace c ≡ true → FollowsValue b ms cs out → FollowsValue b ms (c ∷ cs) out
spaced_value b ms c cs out h f = (c ∷ f.0, f.1, spaced c f.0 h f.2, ap (λ t. c ∷ t) f.3, f.4)

spaced_listed : (b : Bool) (ms : List Matcher) (c : ℕ) (cs : List ℕ) (out : List Matcher) → is_whitespace c ≡ true → FollowsListed b ms cs out → FollowsListed b ms (c ∷ cs) out
spaced_listed b ms c cs out h (Alone space, back, is, e, end, same) = (Alone (c ∷ space), back, spaced c space h is, ap (λ t. c ∷ t) e, end, same)
spaced_listed b ms c cs out h (Last w, back, is, e, end, same) =
    (Last (record w { before = c ∷ w.before }), back, (spaced c w.before h is.0, is.1, is.2, is.3, is.4, is.5), ap (λ t. c ∷ t) e, end, same)
spaced_listed b ms c cs out h (Then w l, back, is, e, end, same) =
    (Then (record w { before = c ∷ w.before }) l, back, ((spaced c w.before h is.0.0, is.0.1, is.0.2, is.0.3, is.0.4, is.0.5), is.1), ap (λ t. c ∷ t) e, end, same)

-- a name and what follows it are a matcher and what follows it
assembled : (b : Bool) (ms : List Matcher) (name : Term) (cs rest : List ℕ) (out : List Matcher) → is_name name ≡ true → cs ≡ term_text name ++ rest →
    FollowsName b (encode_utf8_all (term_value name)) [] ms rest out → FollowsListed b ms cs out
assembled b ms name cs rest out is e (s1, operator, r2, b1, e2, (s2, value, r3, b2, t, e3, (s3, rest', b3, e4, inl (end, same)))) =
    let w : Written = record { before = []; name = name; after_name = s1; operator = operator; before_value = s2; value = value; after = s3 } in
    (Last w, rest', (refl, is, b1, b2, t, b3), rw (e, e2, e3, e4) (simp append_assoc), end, same)
assembled b ms name cs rest out is e (s1, operator, r2, b1, e2, (s2, value, r3, b2, t, e3, (s3, rest', b3, e4, inr (more, e5, (l, back, m, e6, end, same))))) =
    let w : Written = record { before = []; name = name; after_name = s1; operator = operator; before_value = s2; value = value; after = s3 } in
    (Then w l, back, ((refl, is, b1, b2, t, b3), m), rw (e, e2, e3, e4, e5, e6) (simp append_assoc), end, same ∙ append_assoc ms (written_matcher w ∷ []) (listed_matchers l))

-- what comes in front of a literal or of pieces
module _ (P : Text → List ℕ → Type 0) (t : Text) where
  no_literal : (cs : List ℕ) → P t cs → AfterLiteral P t cs
  no_literal cs f = ([], cs, refl, refl, subst (λ s. P s cs) (sym (append-nil t)) f)

  literal_first : (c : ℕ) (cs : List ℕ) → is_literal c ≡ true → AfterLiteral P (t ++ encode_utf8 c) cs → AfterLiteral P t (c ∷ cs)
  literal_first c cs is f = (
    c ∷ f.0,
    f.1,
    and_from (is_literal c) (list_all is_literal f.0) is f.2,
    ap (λ x. c ∷ x) f.3,
    subst (λ s. P s f.1) (append_assoc t (encode_utf8 c) (encode_utf8_all f.0)) f.4,
  )

  no_pieces : (c : ℕ) (cs : List ℕ) → c ≡ 34 → P t cs → AfterPieces P t (c ∷ cs)
  no_pieces c cs e f = ([], cs, refl, cons_same c 34 cs cs e refl, subst (λ s. P s cs) (sym (append-nil t)) f)

  some_pieces : (cs : List ℕ) → AfterPiece P t cs → AfterPieces P t cs
  some_pieces cs f = (f.0 ∷ f.1, f.2, f.3, f.4, f.5)

  -- in quotes: a quote, a backslash, or a character that stands for itself
  quoted : {X : Type 0} (r : Reading) (ended plain : Option Step) (escape : Mode) (c : ℕ) (cs : List ℕ) (out : List Matcher) (q s : Bool) → (c == 34) ≡ q → (c == 92) ≡ s →
      Taken r (if q then ended else (if s then go escape Nothing else plain)) cs out →
      (Taken r (go escape Nothing) cs out → FollowsBackslash P t cs) → (Taken r plain cs out → AfterPieces P (t ++ encode_utf8 c) cs) →
      (c ≡ 34 → Taken r ended cs out → X) → (AfterPiece P t (c ∷ cs) → X) → X
  quoted r ended plain escape c cs out true s e f h escaped more over on = over (eqb-true c 34 e) h
  quoted r ended plain escape c cs out false true e f h escaped more over on =
      let g = escaped h in on (
        Escape g.0,
        g.4.0,
        g.4.1,
        and_from (not (is_refused g.0)) (list_all is_piece g.4.0) (ap not g.3) g.4.2,
        cons_same c 92 cs _ (eqb-true c 92 f) (g.2 ∙ ap (λ x. g.0 ∷ x) g.4.3),
        subst (λ x. P x g.4.1) (pieces_encoded t (Escape g.0) g.4.0) g.4.4,
      )
  quoted r ended plain escape c cs out false false e f h escaped more over on =
      let g = more h in on (
        Character c,
        g.0,
        g.1,
        and_from (is_piece (Character c)) (list_all is_piece g.0) (rw (e, f) refl) g.2,
        ap (λ x. c ∷ x) g.3,
        subst (λ x. P x g.1) (append_assoc t (encode_utf8 c) (encode_utf8_all (pieces_value g.0))) g.4,
      )

  -- after a backslash
  after_backslash : (r : Reading) (step : Option Step) (c : ℕ) (cs : List ℕ) (out : List Matcher) (q : Bool) → is_refused c ≡ q → Taken r (if q then None else step) cs out →
      (Taken r step cs out → AfterPieces P (t ++ encode_utf8_all (meaning_of_escape c)) cs) → FollowsBackslash P t (c ∷ cs)
  after_backslash r step c cs out true e h more = absurd (refused r cs out h)
  after_backslash r step c cs out false e h more = (c, cs, refl, e, more h)

-- where a matcher may begin
begun : {X : Type 0} (b : Bool) (here : Mode) (o : Operator) (ms : List Matcher) (c : ℕ) (cs : List ℕ) (out : List Matcher) (k : Kind) → Known cs → kind_of c ≡ k →
    Taken (reading b here [] o [] ms) (begins_matcher b here c k) cs out →
    (is_whitespace c ≡ true → Accepts (reading b here [] o [] ms) cs out → X) → (FollowsListed b ms (c ∷ cs) out → X) → X
unfolding begins_matcher with_part
begun b here o ms c cs out Blank known e h space matcher = space (means c Blank e) h
begun b here o ms c cs out Quote known e h space matcher =
    let f = known b NameOpened [] o [] ms out h in
    matcher (assembled b ms (Quoted (f.0 ∷ f.1)) (c ∷ cs) f.2 out f.3
    (cons_same c 34 cs _ (means c Quote e) (f.4 ∙ sym (append_assoc (pieces_text (f.0 ∷ f.1)) (34 ∷ []) f.2))) f.5)
begun true here o ms c cs out Closing known e h space matcher =
    let f = known true Closed [] o [] ms out h in
    matcher (Alone [], c ∷ cs, refl, refl, (cs, cons_same c 125 cs cs (means c Closing e) refl, f.0), f.1 ∙ sym (append-nil ms))
begun b here o ms c cs out Plain known e h space matcher =
    let f = known b NameLiteral (encode_utf8 c) o [] ms out h in
    matcher (assembled b ms (Literal (c ∷ f.0)) (c ∷ cs) f.1 out (and_from (is_literal c) (list_all is_literal f.0) (means c Plain e) f.2) (ap (λ t. c ∷ t) f.3) f.4)
begun b here o ms c cs out _ known e h space matcher = absurd (refused (reading b here [] o [] ms) cs out h)

from_start : (b : Bool) (o : Operator) (ms : List Matcher) (c : ℕ) (cs : List ℕ) (out : List Matcher) (k : Kind) → Known cs → kind_of c ≡ k → b ≡ false →
    Taken (reading b Start [] o [] ms) (at_start c k) cs out → FollowsListed false ms (c ∷ cs) out ⊎ FollowsBraces ms (c ∷ cs) out
unfolding at_start with_part
from_start true o ms c cs out k known e f h = absurd (true≢false f)
from_start false o ms c cs out Opening known e f h =
    let g = known true Opened [] o [] ms out h refl refl refl in
    inr ([], g.0, g.4.0, refl, g.2, g.4.2, cons_same c 123 cs _ (means c Opening e) (g.3 ∙ ap (λ t. listed_text g.0 ++ t) g.4.1), g.5)
from_start false o ms c cs out k known e f h =
    begun false Start o ms c cs out k known e h (λ w a.
    elim (known false Start [] o [] ms out a refl refl refl) [
      | inl l ↦ inl (spaced_listed false ms c cs out w l)
      | inr l ↦ inr (c ∷ l.0, l.1, l.2, spaced c l.0 w l.3, l.4, l.5, ap (λ t. c ∷ t) l.6, l.7)
    ]) (λ l. inl l)

-- white space goes on, or a matcher begins
listed_begun : (b : Bool) (here : Mode) (o : Operator) (ms : List Matcher) (c : ℕ) (cs : List ℕ) (out : List Matcher) (k : Kind) → Known cs → kind_of c ≡ k →
    (Accepts (reading b here [] o [] ms) cs out → FollowsListed b ms cs out) → Taken (reading b here [] o [] ms) (begins_matcher b here c k) cs out → FollowsListed b ms (c ∷ cs) out
listed_begun b here o ms c cs out k known e later h = begun b here o ms c cs out k known e h (λ w a. spaced_listed b ms c cs out w (later a)) (λ l. l)

-- where a value ends
value_ended : {X : Type 0} (b : Bool) (here space : Mode) (n : Text) (o : Operator) (v : Text) (ms : List Matcher) (c : ℕ) (cs : List ℕ) (out : List Matcher) (k : Kind) → Known cs → kind_of c ≡ k →
    Taken (reading b here n o v ms) (ends_value b space k) cs out →
    (is_whitespace c ≡ true → Accepts (reading b space n o v ms) cs out → X) → (FollowsValue b (with_matcher ms n o v) (c ∷ cs) out → X) → X
unfolding ends_value with_part
value_ended b here space n o v ms c cs out Blank known e h blank over = blank (means c Blank e) h
value_ended b here space n o v ms c cs out Comma known e h blank over =
    let f = known b AfterComma [] o [] (with_matcher ms n o v) out h refl refl in
    over ([], c ∷ cs, refl, refl, inr (cs, cons_same c 44 cs cs (means c Comma e) refl, f))
value_ended true here space n o v ms c cs out Closing known e h blank over =
    let f = known true Closed [] o [] (with_matcher ms n o v) out h in
    over ([], c ∷ cs, refl, refl, inl ((cs, cons_same c 125 cs cs (means c Closing e) refl, f.0), f.1))
value_ended b here space n o v ms c cs out _ known e h blank over = absurd (refused (reading b here n o v ms) cs out h)

after_value : (b : Bool) (here : Mode) (n : Text) (o : Operator) (v : Text) (ms : List Matcher) (c : ℕ) (cs : List ℕ) (out : List Matcher) (k : Kind) → Known cs → kind_of c ≡ k →
    Taken (reading b here n o v ms) (ends_value b AfterValue k) cs out → FollowsValue b (with_matcher ms n o v) (c ∷ cs) out
after_value b here n o v ms c cs out k known e h =
    value_ended b here AfterValue n o v ms c cs out k known e h (λ w a. spaced_value b (with_matcher ms n o v) c cs out w (known b AfterValue n o v ms out a)) (λ f. f)

-- a literal as a value
literal_value : (b : Bool) (n : Text) (o : Operator) (v : Text) (ms : List Matcher) (cs : List ℕ) (out : List Matcher) → AfterLiteral (ByValue b n o ms out) v cs → FollowsOperator b n o v ms cs out
literal_value b n o v ms cs out f = ([], Literal f.0, f.1, refl, f.2, f.3, f.4)

-- and none
no_value : (b : Bool) (n : Text) (o : Operator) (v : Text) (ms : List Matcher) (cs : List ℕ) (out : List Matcher) → FollowsValue b (with_matcher ms n o v) cs out → FollowsOperator b n o v ms cs out
no_value b n o v ms cs out f = literal_value b n o v ms cs out (no_literal (ByValue b n o ms out) v cs f)

-- where a value may begin
value_begun : (b : Bool) (here : Mode) (n : Text) (o : Operator) (v : Text) (ms : List Matcher) (c : ℕ) (cs : List ℕ) (out : List Matcher) (k : Kind) → Known cs → kind_of c ≡ k →
    Taken (reading b here n o v ms) (begins_value b c k) cs out → FollowsOperator b n o v ms (c ∷ cs) out
unfolding begins_value with_part
value_begun b here n o v ms c cs out Quote known e h =
    let f = known b ValueQuoted n o v ms out h in
    ([], Quoted f.0, f.1, refl, f.2, cons_same c 34 cs _ (means c Quote e) (f.3 ∙ sym (append_assoc (pieces_text f.0) (34 ∷ []) f.1)), f.4)
value_begun b here n o v ms c cs out Plain known e h =
    literal_value b n o v ms (c ∷ cs) out (literal_first (ByValue b n o ms out) v c cs (means c Plain e) (known b ValueLiteral n o (v ++ encode_utf8 c) ms out h))
value_begun b here n o v ms c cs out k known e h =
    value_ended b here ValueStart n o v ms c cs out k known e h (λ w a.
    let f = known b ValueStart n o v ms out a in
    (c ∷ f.0, f.1, f.2, spaced c f.0 w f.3, f.4, ap (λ t. c ∷ t) f.5, f.6))
    (λ f. no_value b n o v ms (c ∷ cs) out f)

-- after a name
name_ended : (b : Bool) (here : Mode) (n : Text) (o : Operator) (v : Text) (ms : List Matcher) (c : ℕ) (cs : List ℕ) (out : List Matcher) (k : Kind) → Known cs → kind_of c ≡ k →
    Taken (reading b here n o v ms) (after_name k) cs out → FollowsName b n v ms (c ∷ cs) out
unfolding after_name with_part
name_ended b here n o v ms c cs out Blank known e h =
    let f = known b AfterName n o v ms out h in
    (c ∷ f.0, f.1, f.2, spaced c f.0 (means c Blank e) f.3, ap (λ t. c ∷ t) f.4, f.5)
name_ended b here n o v ms c cs out Equals known e h =
    elim (known b AfterEquals n Equal v ms out h) [
      | inl f ↦ ([], Matches, f.0, refl, cons_same c 61 cs _ (means c Equals e) f.1, f.2)
      | inr f ↦ ([], Equal, cs, refl, cons_same c 61 cs _ (means c Equals e) refl, f)
    ]
name_ended b here n o v ms c cs out Bang known e h =
    let f = known b AfterBang n o v ms out h in
    ([], f.0, f.1, refl, cons_same c 33 cs cs (means c Bang e) refl ∙ f.2, f.3)
name_ended b here n o v ms c cs out _ known e h = absurd (refused (reading b here n o v ms) cs out h)

-- at the end of the text
listed_over : (ms out : List Matcher) → ◌≡◌ {A = Option (List Matcher)} (Some ms) (Some out) → FollowsListed false ms [] out
listed_over ms out e = (Alone [], [], refl, refl, refl, cc (append-nil ms))

value_over : (ms out : List Matcher) → ◌≡◌ {A = Option (List Matcher)} (Some ms) (Some out) → FollowsValue false ms [] out
value_over ms out e = ([], [], refl, refl, inl (refl, cc))

at_end : Known []
unfolding ending with_part
at_end b Start n o v ms out h = λ f g k. inl (listed_over ms out h)
at_end b Closed n o v ms out h = (refl, cc)
at_end false AfterComma n o v ms out h = λ g k. listed_over ms out h
at_end false AfterEquals n o v ms out h = inr (no_value false n o v ms [] out (value_over (with_matcher ms n o v) out h))
at_end false ValueStart n o v ms out h = no_value false n o v ms [] out (value_over (with_matcher ms n o v) out h)
at_end false ValueLiteral n o v ms out h = no_literal (ByValue false n o ms out) v [] (value_over (with_matcher ms n o v) out h)
at_end false AfterValue n o v ms out h = value_over (with_matcher ms n o v) out h
at_end b _ n o v ms out h = absurd (refused (reading b Start n o v ms) [] out h)

cleared : (P : Text → Text → Type 0) (n v : Text) → n ≡ [] → v ≡ [] → P n v → P [] []
cleared P n v e f h = subst (P []) f (subst (λ t. P t v) e h)

-- one more character in each state
stepped : (b : Bool) (p : Mode) (n : Text) (o : Operator) (v : Text) (ms : List Matcher) (c : ℕ) (cs : List ℕ) (out : List Matcher) (k : Kind) → Known cs → kind_of c ≡ k →
    Taken (reading b p n o v ms) (step_at b p c k) cs out → Follows b p n o v ms (c ∷ cs) out
unfolding in_name in_value after_bang after_equals after_braces with_part
stepped b Start n o v ms c cs out k known e h = λ f g i.
    from_start b o ms c cs out k known e f (cleared (λ x y. Taken (reading b Start x o y ms) (at_start c k) cs out) n v g i h)
stepped false Opened n o v ms c cs out k known e h = λ f g i. absurd (false≢true f)
stepped true Opened n o v ms c cs out k known e h = λ f g i.
    listed_begun true Opened o ms c cs out k known e (λ a. known true Opened [] o [] ms out a refl refl refl)
    (cleared (λ x y. Taken (reading true Opened x o y ms) (begins_matcher true Opened c k) cs out) n v g i h)
stepped b NameLiteral n o v ms c cs out Plain known e h = literal_first (ByName b v ms out) n c cs (means c Plain e) (known b NameLiteral (n ++ encode_utf8 c) o v ms out h)
stepped b NameLiteral n o v ms c cs out k known e h = no_literal (ByName b v ms out) n (c ∷ cs) (name_ended b NameLiteral n o v ms c cs out k known e h)
stepped b NameOpened n o v ms c cs out k known e h =
    quoted (ByName b v ms out) n (reading b NameOpened n o v ms) None (go NameQuoted (Name c)) NameEscape c cs out (c == 34) (c == 92) refl refl h
    (known b NameEscape n o v ms out) (known b NameQuoted (n ++ encode_utf8 c) o v ms out) (λ e g. absurd (refused (reading b NameOpened n o v ms) cs out g)) (λ g. g)
stepped b NameQuoted n o v ms c cs out k known e h =
    quoted (ByName b v ms out) n (reading b NameQuoted n o v ms) (go AfterName Nothing) (go NameQuoted (Name c)) NameEscape c cs out (c == 34) (c == 92) refl refl h
    (known b NameEscape n o v ms out) (known b NameQuoted (n ++ encode_utf8 c) o v ms out)
    (λ e g. no_pieces (ByName b v ms out) n c cs e (known b AfterName n o v ms out g)) (some_pieces (ByName b v ms out) n (c ∷ cs))
stepped b NameEscape n o v ms c cs out k known e h =
    after_backslash (ByName b v ms out) n (reading b NameEscape n o v ms) (go NameQuoted (NameEscaped c)) c cs out (is_refused c) refl h
    (known b NameQuoted (n ++ encode_utf8_all (meaning_of_escape c)) o v ms out)
stepped b AfterName n o v ms c cs out k known e h = name_ended b AfterName n o v ms c cs out k known e h
stepped b AfterBang n o v ms c cs out Equals known e h = (NotEqual, cs, ap (λ x. 33 ∷ x ∷ cs) (means c Equals e), known b ValueStart n NotEqual v ms out h)
stepped b AfterBang n o v ms c cs out Tilde known e h = (NotMatches, cs, ap (λ x. 33 ∷ x ∷ cs) (means c Tilde e), known b ValueStart n NotMatches v ms out h)
stepped b AfterBang n o v ms c cs out _ known e h = absurd (refused (reading b AfterBang n o v ms) cs out h)
stepped b AfterEquals n o v ms c cs out Tilde known e h = inl (cs, cons_same c 126 cs cs (means c Tilde e) refl, known b ValueStart n Matches v ms out h)
stepped b AfterEquals n o v ms c cs out k known e h = inr (value_begun b AfterEquals n o v ms c cs out k known e h)
stepped b ValueStart n o v ms c cs out k known e h = value_begun b ValueStart n o v ms c cs out k known e h
stepped b ValueLiteral n o v ms c cs out Plain known e h = literal_first (ByValue b n o ms out) v c cs (means c Plain e) (known b ValueLiteral n o (v ++ encode_utf8 c) ms out h)
stepped b ValueLiteral n o v ms c cs out k known e h = no_literal (ByValue b n o ms out) v (c ∷ cs) (after_value b ValueLiteral n o v ms c cs out k known e h)
stepped b ValueQuoted n o v ms c cs out k known e h =
    quoted (ByValue b n o ms out) v (reading b ValueQuoted n o v ms) (go AfterValue Nothing) (go ValueQuoted (Value c)) ValueEscape c cs out (c == 34) (c == 92) refl refl h
    (known b ValueEscape n o v ms out) (known b ValueQuoted n o (v ++ encode_utf8 c) ms out)
    (λ e g. no_pieces (ByValue b n o ms out) v c cs e (known b AfterValue n o v ms out g)) (some_pieces (ByValue b n o ms out) v (c ∷ cs))
stepped b ValueEscape n o v ms c cs out k known e h =
    after_backslash (ByValue b n o ms out) v (reading b ValueEscape n o v ms) (go ValueQuoted (ValueEscaped c)) c cs out (is_refused c) refl h
    (known b ValueQuoted n o (v ++ encode_utf8_all (meaning_of_escape c)) ms out)
stepped b AfterValue n o v ms c cs out k known e h = after_value b AfterValue n o v ms c cs out k known e h
stepped b AfterComma n o v ms c cs out k known e h = λ g i.
    listed_begun b AfterComma o ms c cs out k known e (λ a. known b AfterComma [] o [] ms out a refl refl)
    (cleared (λ x y. Taken (reading b AfterComma x o y ms) (begins_matcher b AfterComma c k) cs out) n v g i h)
stepped b Closed n o v ms c cs out Blank known e h = let f = known b Closed n o v ms out h in (spaced c cs (means c Blank e) f.0, f.1)
stepped b Closed n o v ms c cs out _ known e h = absurd (refused (reading b Closed n o v ms) cs out h)

followed : (cs : List ℕ) → Known cs
unfolding step_from
followed [] = at_end
followed (c ∷ cs) = λ b p n o v ms out h. stepped b p n o v ms c cs out (kind_of c) (followed cs) refl h

spelled : (cs : List ℕ) (out : List Matcher) → FollowsListed false [] cs out ⊎ FollowsBraces [] cs out → Spells cs out
spelled cs out (inl f) = (Bare f.0, f.2, f.3 ∙ ap (λ t. listed_text f.0 ++ t) f.4 ∙ append-nil (listed_text f.0), f.5)
spelled cs out (inr f) = (Braced f.0 f.1 f.2, (f.3, f.4, f.5), f.6, f.7)

pub chars_are_spelled : (cs : List ℕ) (ms : List Matcher) → matchers_of_chars cs ≡ Some ms → Spells cs ms
chars_are_spelled cs ms h = spelled cs ms (followed cs false Start [] Equal [] [] ms h refl refl refl)

pub read_is_spelled : ReadIsSpelled
unfolding matchers_of
read_is_spelled text ms h = chars_are_spelled (chars text) ms h
