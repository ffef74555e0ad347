-- What a text spells is read.
use Rattle.std.proofs.Common.{arith, ◌≡◌, ℕ, List, [], ◌∷◌, ◌++◌, Bool, true, false, Option, Some, refl, sym, ap, subst, ◌∙◌, append_assoc, encode_utf8, encode_utf8_all, option_and_then, chars, option_map, append-nil}
use Rattle.std.specs.List.{list_all}
use Rattle.std.specs.Char.{is_whitespace}
use Rattle.std.proofs.lemmas.Bool.{and_parts, false≢true}
use Rattle.std.proofs.lemmas.Bool.Decides.{nat_tests}
use Rattle.std.proofs.lemmas.Str.{encodes-append}
use Rattle.amr_labels.specs.declared.matcher.Operator.{Operator}
use Rattle.amr_labels.specs.declared.matcher.Operator.TheVariants.{Equal}
use Rattle.amr_labels.specs.declared.matcher.matcher_steps.Kind.{Kind}
use Rattle.amr_labels.specs.declared.matcher.matcher_steps.Kind.TheVariants.{Blank, Comma, Quote, Plain}
use Rattle.amr_labels.specs.declared.matcher.matcher_steps.Mode.{Mode}
use Rattle.amr_labels.specs.declared.matcher.matcher_steps.Mode.TheVariants.{Start, Opened, NameLiteral, NameOpened, NameQuoted, AfterName, AfterEquals, ValueStart, ValueLiteral, ValueQuoted, AfterValue, AfterComma, Closed}
use Rattle.amr_labels.specs.declared.matcher.matcher_steps.Part.TheVariants.{Nothing, Name, Value, End}
use Rattle.amr_labels.specs.declared.matcher.matcher_steps.Step.{Step}
use Rattle.amr_labels.specs.Labels.{Text}
use Rattle.amr_labels.specs.Matcher.Matchers.{Matcher}
use Rattle.amr_labels.specs.Matcher.MatcherText.{is_literal, Piece, piece_text, piece_value, is_piece, pieces_text, pieces_value, Term, Literal, Quoted, term_text, term_value, is_term, is_name, operator_text, is_blank, Written, written_text, written_matcher, IsWritten, Listed, Alone, Last, Then, listed_text, listed_matchers, IsListed, Whole, Bare, Braced, whole_text, whole_matchers, IsWhole, Spells}
use Rattle.amr_labels.specs.Matcher.MatcherReading.{Reading, kind_of, begins_matcher, after_name, ends_value, begins_value, in_name, in_value, after_bang, after_equals, at_start, after_braces, step_at, step_from, with_part, next, run, start, ending, matchers_at_end, matchers_of_chars, matchers_of, go}
use Rattle.amr_labels.specs.Matcher.MatcherLaws.{SpelledIsRead}
use Rattle.amr_labels.proofs.MatcherLemmas.MatcherKinds.{kind_of_blank, kind_of_literal}

abbrev pub reading : Bool → Mode → Text → Operator → Text → List Matcher → Reading
reading b p n o v ms = record { braced = b; mode = p; name = n; operator = o; value = v; matchers = ms }

abbrev pub moved : Reading → Option Step → Option Reading
moved r step = option_map (λ (s : Step). record (with_part s.part r) { mode = s.mode }) step

-- over a character of a known kind, whose step is known
run_by : (r : Reading) (c : ℕ) (k : Kind) (step : Option Step) (rest : List ℕ) → kind_of c ≡ k → step_at r.braced r.mode c k ≡ step → run (Some r) (c ∷ rest) ≡ run (moved r step) rest
unfolding step_from
run_by r c k step rest h e = ap (λ (kind : Kind). run (moved r (step_at r.braced r.mode c kind)) rest) h ∙ ap (λ s. run (moved r s) rest) e

-- over white space that changes nothing
run_blanks : (r : Reading) → ((c : ℕ) → step_at r.braced r.mode c Blank ≡ go r.mode Nothing) → (space rest : List ℕ) → is_blank space ≡ true →
    run (Some r) (space ++ rest) ≡ run (Some r) rest
unfolding with_part
run_blanks r rests [] rest w = refl
run_blanks r rests (c ∷ space) rest w =
    let parts = and_parts (is_whitespace c) (list_all is_whitespace space) w in
    run_by r c Blank _ (space ++ rest) (kind_of_blank c parts.0) (rests c) ∙ run_blanks r rests space rest parts.1

-- over a literal, if each of its characters is added to the text that is read
run_literal : (at : Text → Reading) → ((t : Text) (c : ℕ) (rest : List ℕ) → is_literal c ≡ true → run (Some (at t)) (c ∷ rest) ≡ run (Some (at (t ++ encode_utf8 c))) rest) →
    (cs : List ℕ) (t : Text) (rest : List ℕ) → list_all is_literal cs ≡ true → run (Some (at t)) (cs ++ rest) ≡ run (Some (at (t ++ encode_utf8_all cs))) rest
run_literal at more [] t rest h = grind (arith, append-nil {A = ℕ})
run_literal at more (c ∷ cs) t rest h =
    let parts = and_parts (is_literal c) (list_all is_literal cs) h in
    let this = more t c (cs ++ rest) parts.0 in
    cc (run_literal at more cs (t ++ encode_utf8 c) rest parts.1, append_assoc t (encode_utf8 c) (encode_utf8_all cs))

-- texts in quotes
name_piece : (b : Bool) (o : Operator) (v : Text) (ms : List Matcher) (n : Text) (piece : Piece) (rest : List ℕ) → is_piece piece ≡ true →
    run (Some (reading b NameQuoted n o v ms)) (piece_text piece ++ rest) ≡ run (Some (reading b NameQuoted (n ++ encode_utf8_all (piece_value piece)) o v ms)) rest
unfolding step_from with_part
name_piece b o v ms n piece rest h = grind (arith, nat_tests, append-nil {A = ℕ})

value_piece : (b : Bool) (n : Text) (o : Operator) (ms : List Matcher) (v : Text) (piece : Piece) (rest : List ℕ) → is_piece piece ≡ true →
    run (Some (reading b ValueQuoted n o v ms)) (piece_text piece ++ rest) ≡ run (Some (reading b ValueQuoted n o (v ++ encode_utf8_all (piece_value piece)) ms)) rest
unfolding step_from with_part
value_piece b n o ms v piece rest h = grind (arith, nat_tests, append-nil {A = ℕ})

-- the first piece of a name is read as the others are
opened_as_quoted : (piece : Piece) (ps : List Piece) (b : Bool) (n : Text) (o : Operator) (v : Text) (ms : List Matcher) (rest : List ℕ) → is_piece piece ≡ true →
    run (Some (reading b NameOpened n o v ms)) (pieces_text (piece ∷ ps) ++ rest) ≡ run (Some (reading b NameQuoted n o v ms)) (pieces_text (piece ∷ ps) ++ rest)
unfolding step_from with_part
opened_as_quoted piece ps b n o v ms rest h = grind (arith, nat_tests)

pub pieces_encoded : (t : Text) (piece : Piece) (ps : List Piece) → (t ++ encode_utf8_all (piece_value piece)) ++ encode_utf8_all (pieces_value ps) ≡ t ++ encode_utf8_all (pieces_value (piece ∷ ps))
pieces_encoded t piece ps = cc (append_assoc t (encode_utf8_all (piece_value piece)) (encode_utf8_all (pieces_value ps)), encodes-append (piece_value piece) (pieces_value ps))

-- over pieces, if each of them is added to the text that is read
run_pieces : (at : Text → Reading)
    → ((t : Text) (piece : Piece) (rest : List ℕ) → is_piece piece ≡ true → run (Some (at t)) (piece_text piece ++ rest) ≡ run (Some (at (t ++ encode_utf8_all (piece_value piece)))) rest) →
    (ps : List Piece) (t : Text) (rest : List ℕ) → list_all is_piece ps ≡ true → run (Some (at t)) (pieces_text ps ++ rest) ≡ run (Some (at (t ++ encode_utf8_all (pieces_value ps)))) rest
run_pieces at more [] t rest h = ap (λ s. run (Some (at s)) rest) (sym (append-nil t))
run_pieces at more (piece ∷ ps) t rest h =
    let parts = and_parts (is_piece piece) (list_all is_piece ps) h in
    let this = more t piece (pieces_text ps ++ rest) parts.0 in
    cc (append_assoc (piece_text piece) (pieces_text ps) rest, run_pieces at more ps (t ++ encode_utf8_all (piece_value piece)) rest parts.1, pieces_encoded t piece ps)

-- how a list of matchers ends: with the text outside braces, and with the closing one in them
abbrev Ends : Bool → Reading → List Matcher → Type 0
Ends false r out = matchers_at_end r ≡ Some out
Ends true r out = (n : Text) × (o : Operator) × (v : Text) × (next r 125 ≡ Some (reading true Closed n o v out))

-- a matcher may begin here, or the list may end
abbrev Begins : Bool → Mode → Type 0
Begins b p =
    ((c : ℕ) → (step_at b p c Blank ≡ go p Nothing) × (step_at b p c Plain ≡ go NameLiteral (Name c)) × (step_at b p c Quote ≡ go NameOpened Nothing))
    × ((o : Operator) (ms : List Matcher) → Ends b (reading b p [] o [] ms) ms)

comma_begins : (b : Bool) → Begins b AfterComma
unfolding kind_of begins_matcher step_from with_part ending
comma_begins false = (λ c. (refl, refl, refl), λ o ms. refl)
comma_begins true = (λ c. (refl, refl, refl), λ o ms. ([], o, [], refl))

-- the states in which a name ends
abbrev is_named : Mode → Bool
is_named NameLiteral = true
is_named AfterName = true
is_named _ = false

-- the states in which a value may begin, and those in which it may end
abbrev starts_value : Mode → Bool
starts_value AfterEquals = true
starts_value ValueStart = true
starts_value _ = false

abbrev ends_a_value : Mode → Bool
ends_a_value ValueLiteral = true
ends_a_value AfterValue = true
ends_a_value p = starts_value p

-- from one state over some characters to another, and what is read there
abbrev Leads : Reading → List ℕ → (Mode → Bool) → (Mode → Reading) → Type 0
Leads r cs at target = (q : Mode) × (at q ≡ true) × ((rest : List ℕ) → run (Some r) (cs ++ rest) ≡ run (Some (target q)) rest)

run_named : (b : Bool) (p : Mode) (o : Operator) (ms : List Matcher) (name : Term) → Begins b p → is_name name ≡ true →
    Leads (reading b p [] o [] ms) (term_text name) is_named (λ q. reading b q (encode_utf8_all (term_value name)) o [] ms)
unfolding kind_of in_name step_from with_part
run_named b p o ms (Literal []) h w = absurd (false≢true w)
run_named b p o ms (Literal (c ∷ cs)) h w =
    let parts = and_parts (is_literal c) (list_all is_literal cs) w in (
      NameLiteral,
      refl,
      λ rest.
          run_by (reading b p [] o [] ms) c Plain _ (cs ++ rest) (kind_of_literal c parts.0) (h.0 c).1
          ∙ run_literal (λ t. reading b NameLiteral t o [] ms) (λ t d more l. run_by (reading b NameLiteral t o [] ms) d Plain _ more (kind_of_literal d l) refl) cs (encode_utf8 c) rest parts.1,
    )
run_named b p o ms (Quoted []) h w = absurd (false≢true w)
run_named b p o ms (Quoted (piece ∷ ps)) h w = (
  AfterName,
  refl,
  λ rest.
      run_by (reading b p [] o [] ms) 34 Quote _ ((pieces_text (piece ∷ ps) ++ (34 ∷ [])) ++ rest) refl (h.0 34).2
      ∙ ap (run (Some (reading b NameOpened [] o [] ms))) (append_assoc (pieces_text (piece ∷ ps)) (34 ∷ []) rest)
      ∙ opened_as_quoted piece ps b [] o [] ms (34 ∷ rest) (and_parts (is_piece piece) (list_all is_piece ps) w).0
      ∙ run_pieces (λ t. reading b NameQuoted t o [] ms) (name_piece b o [] ms) (piece ∷ ps) [] (34 ∷ rest) w,
)

operator_there : (b : Bool) (p : Mode) (operator : Operator) (n : Text) (o : Operator) (v : Text) (ms : List Matcher) → is_named p ≡ true →
    Leads (reading b p n o v ms) (operator_text operator) starts_value (λ q. reading b q n operator v ms)
unfolding kind_of in_name after_name after_bang after_equals step_from with_part
operator_there b p Equal n o v ms h = (AfterEquals, refl, λ rest. grind arith)
operator_there b p operator n o v ms h = (ValueStart, refl, λ rest. grind arith)

named_blank : (b : Bool) (p : Mode) (c : ℕ) → is_named p ≡ true → step_at b p c Blank ≡ go AfterName Nothing
unfolding in_name after_name
named_blank b p c h = grind arith

-- where a value may begin
started : (b : Bool) (p : Mode) (c : ℕ) → starts_value p ≡ true →
    (step_at b p c Blank ≡ go ValueStart Nothing) × (step_at b p c Plain ≡ go ValueLiteral (Value c)) × (step_at b p c Quote ≡ go ValueQuoted Nothing) × (ends_a_value p ≡ true)
unfolding after_equals begins_value ends_value
started b p c h = grind arith

-- over white space, to the state that it leads to
lead_blanks : (space : List ℕ) (at : Mode → Bool) (b : Bool) (p q : Mode) (n : Text) (o : Operator) (v : Text) (ms : List Matcher) → at p ≡ true → at q ≡ true →
    ((c : ℕ) → (step_at b p c Blank ≡ go q Nothing) × (step_at b q c Blank ≡ go q Nothing)) → is_blank space ≡ true → Leads (reading b p n o v ms) space at (λ q. reading b q n o v ms)
unfolding with_part
lead_blanks [] at b p q n o v ms h k steps w = (p, h, λ rest. refl)
lead_blanks (c ∷ space) at b p q n o v ms h k steps w =
    let parts = and_parts (is_whitespace c) (list_all is_whitespace space) w in (
      q,
      k,
      λ rest.
          run_by (reading b p n o v ms) c Blank _ (space ++ rest) (kind_of_blank c parts.0) (steps c).0
          ∙ run_blanks (reading b q n o v ms) (λ d. (steps d).1) space rest parts.1,
    )

run_term : (value : Term) (b : Bool) (p : Mode) (n : Text) (o : Operator) (v : Text) (ms : List Matcher) → starts_value p ≡ true → is_term value ≡ true →
    Leads (reading b p n o v ms) (term_text value) ends_a_value (λ q. reading b q n o (v ++ encode_utf8_all (term_value value)) ms)
unfolding kind_of in_value step_from with_part
run_term (Literal []) b p n o v ms h w = (p, (started b p 0 h).3, λ rest. ap (λ t. run (Some (reading b p n o t ms)) rest) (sym (append-nil v)))
run_term (Literal (c ∷ cs)) b p n o v ms h w =
    let parts = and_parts (is_literal c) (list_all is_literal cs) w in (
      ValueLiteral,
      refl,
      λ rest.
          run_by (reading b p n o v ms) c Plain _ (cs ++ rest) (kind_of_literal c parts.0) (started b p c h).1
          ∙ run_literal (λ t. reading b ValueLiteral n o t ms) (λ t d more l. run_by (reading b ValueLiteral n o t ms) d Plain _ more (kind_of_literal d l) refl) cs (v ++ encode_utf8 c) rest parts.1
          ∙ ap (λ t. run (Some (reading b ValueLiteral n o t ms)) rest) (append_assoc v (encode_utf8 c) (encode_utf8_all cs)),
    )
run_term (Quoted ps) b p n o v ms h w = (
  AfterValue,
  refl,
  λ rest.
      run_by (reading b p n o v ms) 34 Quote _ ((pieces_text ps ++ (34 ∷ [])) ++ rest) refl (started b p 34 h).2
      ∙ ap (run (Some (reading b ValueQuoted n o v ms))) (append_assoc (pieces_text ps) (34 ∷ []) rest)
      ∙ run_pieces (λ t. reading b ValueQuoted n o t ms) (value_piece b n o ms) ps v (34 ∷ rest) w,
)

abbrev after_space : Mode → Mode
after_space AfterEquals = ValueStart
after_space ValueStart = ValueStart
after_space p = AfterValue

-- where a value may end
ended : (b : Bool) (p : Mode) (c : ℕ) → ends_a_value p ≡ true →
    ((step_at b p c Blank ≡ go (after_space p) Nothing) × (step_at b (after_space p) c Blank ≡ go (after_space p) Nothing)) × (ends_a_value (after_space p) ≡ true) × (step_at b p c Comma ≡ go AfterComma End)
unfolding after_equals begins_value ends_value in_value
ended b p c h = grind arith

value_ends : (b : Bool) (p : Mode) (n : Text) (o : Operator) (v : Text) (ms : List Matcher) → ends_a_value p ≡ true →
    Ends b (reading b p n o v ms) (ms ++ record { name = n; operator = o; value = v } ∷ [])
unfolding kind_of after_equals begins_value ends_value in_value step_from with_part ending
value_ends false p n o v ms h = grind arith
value_ends true p n o v ms h = ([], o, [], grind arith)

pub grouped : (a b c d e f g rest : List ℕ) → (a ++ (b ++ (c ++ (d ++ (e ++ (f ++ g)))))) ++ rest ≡ a ++ (b ++ (c ++ (d ++ (e ++ (f ++ (g ++ rest))))))
grouped a b c d e f g rest = simp append_assoc

-- a matcher
run_written : (w : Written) (b : Bool) (p : Mode) (o : Operator) (ms : List Matcher) → Begins b p → IsWritten w →
    Leads (reading b p [] o [] ms) (written_text w) ends_a_value (λ q. reading b q (encode_utf8_all (term_value w.name)) w.operator (encode_utf8_all (term_value w.value)) ms)
unfolding after_name begins_value ends_value
run_written w b p o ms h is =
    let n = encode_utf8_all (term_value w.name) in
    let v = encode_utf8_all (term_value w.value) in
    let named = run_named b p o ms w.name h is.1 in
    let spaced = lead_blanks w.after_name is_named b named.0 AfterName n o [] ms named.1 refl (λ c. (named_blank b named.0 c named.1, refl)) is.2 in
    let operator = operator_there b spaced.0 w.operator n o [] ms spaced.1 in
    let lead = lead_blanks w.before_value starts_value b operator.0 ValueStart n w.operator [] ms operator.1 refl (λ c. ((started b operator.0 c operator.1).0, refl)) is.3 in
    let term = run_term w.value b lead.0 n w.operator [] ms lead.1 is.4 in
    let trail = lead_blanks w.after ends_a_value b term.0 (after_space term.0) n w.operator v ms term.1 (ended b term.0 0 term.1).1 (λ c. (ended b term.0 c term.1).0) is.5 in (
      trail.0,
      trail.1,
      λ rest.
          ap (run (Some (reading b p [] o [] ms))) (grouped w.before (term_text w.name) w.after_name (operator_text w.operator) w.before_value (term_text w.value) w.after rest)
          ∙ run_blanks (reading b p [] o [] ms) (λ c. (h.0 c).0) w.before _ is.0
          ∙ named.2 _
          ∙ spaced.2 _
          ∙ operator.2 _
          ∙ lead.2 _
          ∙ term.2 _
          ∙ trail.2 rest,
    )

abbrev RunsOver : Bool → Reading → List ℕ → List Matcher → Type 0
RunsOver b r cs out = (s : Reading) × Ends b s out × ((rest : List ℕ) → run (Some r) (cs ++ rest) ≡ run (Some s) rest)

run_listed : (l : Listed) (b : Bool) (p : Mode) (o : Operator) (ms : List Matcher) → Begins b p → IsListed l →
    RunsOver b (reading b p [] o [] ms) (listed_text l) (ms ++ listed_matchers l)
unfolding kind_of with_part
run_listed (Alone space) b p o ms h is = (
  reading b p [] o [] ms,
  subst (Ends b (reading b p [] o [] ms)) (sym (append-nil ms)) (h.1 o ms),
  λ rest. run_blanks (reading b p [] o [] ms) (λ c. (h.0 c).0) space rest is,
)
run_listed (Last w) b p o ms h is =
    let n = encode_utf8_all (term_value w.name) in
    let v = encode_utf8_all (term_value w.value) in
    let t = run_written w b p o ms h is in
    (reading b t.0 n w.operator v ms, value_ends b t.0 n w.operator v ms t.1, t.2)
run_listed (Then w l) b p o ms h is =
    let n = encode_utf8_all (term_value w.name) in
    let v = encode_utf8_all (term_value w.value) in
    let t = run_written w b p o ms h is.0 in
    let more = ms ++ written_matcher w ∷ [] in
    let next_ones = run_listed l b AfterComma w.operator more (comma_begins b) is.1 in (
      next_ones.0,
      subst (Ends b next_ones.0) (append_assoc ms (written_matcher w ∷ []) (listed_matchers l)) next_ones.1,
      λ rest.
          ap (run (Some (reading b p [] o [] ms))) (append_assoc (written_text w) (44 ∷ listed_text l) rest)
          ∙ t.2 (44 ∷ (listed_text l ++ rest))
          ∙ run_by (reading b t.0 n w.operator v ms) 44 Comma _ (listed_text l ++ rest) refl (ended b t.0 44 t.1).2
          ∙ next_ones.2 rest,
    )

whole_is_read : (whole : Whole) → IsWhole whole → matchers_of_chars (whole_text whole) ≡ Some (whole_matchers whole)
unfolding kind_of begins_matcher at_start after_braces step_from with_part ending
whole_is_read (Bare l) is =
    let t = run_listed l false Start Equal [] (λ c. (refl, refl, refl), λ o ms. refl) is in
    ap (option_and_then matchers_at_end) (ap (run (Some start)) (sym (append-nil (listed_text l))) ∙ t.2 []) ∙ t.1
whole_is_read (Braced before l after) is =
    let t = run_listed l true Opened Equal [] (λ c. (refl, refl, refl), λ o ms. ([], o, [], refl)) is.1 in
    let e = t.1 in
    let shut = reading true Closed e.0 e.1 e.2 (listed_matchers l) in
    ap (option_and_then matchers_at_end)
    (run_blanks start (λ c. refl) before (123 ∷ (listed_text l ++ (125 ∷ after))) is.0 ∙ t.2 (125 ∷ after) ∙ ap (λ o. run o after) e.3
    ∙ ap (run (Some shut)) (sym (append-nil after)) ∙ run_blanks shut (λ c. refl) after [] is.2)

pub spelled_are_read : (cs : List ℕ) (ms : List Matcher) → Spells cs ms → matchers_of_chars cs ≡ Some ms
spelled_are_read cs ms (whole, is, same, out) = ap matchers_of_chars same ∙ whole_is_read whole is ∙ ap (λ (m : List Matcher). Some m) (sym out)

pub spelled_is_read : SpelledIsRead
unfolding matchers_of
spelled_is_read text ms spelled = spelled_are_read (chars text) ms spelled
