-- Reading matcher texts from left to right: where each character leads, and what it adds.
-- MatcherText.antt says which texts spell a list of matchers.
use Rattle.std.specs.Prelude.{ℕ, ◌||◌, ◌==◌, List, [], ◌∷◌, ◌++◌, Bool, true, false, Option, Some, None, if◌then◌else◌, option_and_then, encode_utf8, encode_utf8_all, chars}
use Rattle.std.specs.Option.{option_map}
use Rattle.std.specs.Char.{is_whitespace}
use Rattle.amr_labels.specs.declared.matcher.Operator.{Operator}
use Rattle.amr_labels.specs.declared.matcher.Operator.TheVariants.{Equal, NotEqual, Matches, NotMatches}
use Rattle.amr_labels.specs.declared.matcher.matcher_steps.Kind.{Kind}
use Rattle.amr_labels.specs.declared.matcher.matcher_steps.Kind.TheVariants.{Blank, Opening, Closing, Bang, Equals, Tilde, Comma, Quote, Reserved, Plain}
use Rattle.amr_labels.specs.declared.matcher.matcher_steps.Mode.{Mode}
use Rattle.amr_labels.specs.declared.matcher.matcher_steps.Mode.TheVariants.{Start, Opened, NameLiteral, NameOpened, NameQuoted, NameEscape, AfterName, AfterBang, AfterEquals, ValueStart, ValueLiteral, ValueQuoted, ValueEscape, AfterValue, AfterComma, Closed}
use Rattle.amr_labels.specs.declared.matcher.matcher_steps.Part.{Part}
use Rattle.amr_labels.specs.declared.matcher.matcher_steps.Part.TheVariants.{Nothing, Brace, Name, NameEscaped, Compare, Value, ValueEscaped, End}
use Rattle.amr_labels.specs.declared.matcher.matcher_steps.Step.{Step}
use Rattle.amr_labels.specs.Labels.{Text}
use Rattle.amr_labels.specs.Matcher.Matchers.{Matcher}
use Rattle.amr_labels.specs.Matcher.MatcherText.{is_refused, meaning_of_escape}

abbrev pub mark_kind : ℕ → Kind
mark_kind c =
    if c == 123 then Opening else (if c == 125 then Closing else (if c == 33 then Bang else (if c == 61 then Equals
    else (if c == 126 then Tilde else (if c == 44 then Comma else (if c == 34 then Quote
    else (if (c == 92) || (c == 39) || (c == 96) then Reserved else Plain)))))))

unfoldable pub kind_of : ℕ → Kind
kind_of c = if is_whitespace c then Blank else mark_kind c

abbrev pub go : Mode → Part → Option Step
go mode part = Some (record { mode = mode; part = part })

-- a matcher may begin here, or the braces end, after white space or not
unfoldable pub begins_matcher : Bool → Mode → ℕ → Kind → Option Step
begins_matcher braced here c Blank = go here Nothing
begins_matcher braced here c Quote = go NameOpened Nothing
begins_matcher braced here c Closing = if braced then go Closed Nothing else None
begins_matcher braced here c Plain = go NameLiteral (Name c)
begins_matcher braced here c _ = None

-- after a name comes an operator
unfoldable pub after_name : Kind → Option Step
after_name Blank = go AfterName Nothing
after_name Equals = go AfterEquals (Compare Equal)
after_name Bang = go AfterBang Nothing
after_name _ = None

-- a value ends here
unfoldable pub ends_value : Bool → Mode → Kind → Option Step
ends_value braced spaced Blank = go spaced Nothing
ends_value braced spaced Comma = go AfterComma End
ends_value braced spaced Closing = if braced then go Closed End else None
ends_value braced spaced _ = None

-- a value may begin here, or be left out
unfoldable pub begins_value : Bool → ℕ → Kind → Option Step
unfolding ends_value
begins_value braced c Quote = go ValueQuoted Nothing
begins_value braced c Plain = go ValueLiteral (Value c)
begins_value braced c kind = ends_value braced ValueStart kind

-- a literal goes on
unfoldable pub in_name : ℕ → Kind → Option Step
unfolding after_name
in_name c Plain = go NameLiteral (Name c)
in_name c kind = after_name kind

unfoldable pub in_value : Bool → ℕ → Kind → Option Step
unfolding ends_value
in_value braced c Plain = go ValueLiteral (Value c)
in_value braced c kind = ends_value braced AfterValue kind

-- after an exclamation mark, and after an equals sign
unfoldable pub after_bang : Kind → Option Step
after_bang Equals = go ValueStart (Compare NotEqual)
after_bang Tilde = go ValueStart (Compare NotMatches)
after_bang _ = None

unfoldable pub after_equals : Bool → ℕ → Kind → Option Step
unfolding begins_value ends_value
after_equals braced c Tilde = go ValueStart (Compare Matches)
after_equals braced c kind = begins_value braced c kind

-- before the first matcher, outside braces
unfoldable pub at_start : ℕ → Kind → Option Step
unfolding begins_matcher
at_start c Opening = go Opened Brace
at_start c kind = begins_matcher false Start c kind

-- after the braces
unfoldable pub after_braces : Kind → Option Step
after_braces Blank = go Closed Nothing
after_braces _ = None

-- in quotes: where a quote leads, where a backslash does, and what any other character does
abbrev pub in_quotes : Option Step → Mode → Option Step → ℕ → Option Step
in_quotes ended escape plain c = if c == 34 then ended else (if c == 92 then go escape Nothing else plain)

-- in quotes, after a backslash
abbrev pub after_backslash : Mode → Part → ℕ → Option Step
after_backslash quoted part c = if is_refused c then None else go quoted part

-- from a state, by the character and its kind
abbrev pub step_at : Bool → Mode → ℕ → Kind → Option Step
step_at braced Start c kind = at_start c kind
step_at braced Opened c kind = begins_matcher true Opened c kind
step_at braced NameLiteral c kind = in_name c kind
step_at braced NameOpened c kind = in_quotes None NameEscape (go NameQuoted (Name c)) c
step_at braced NameQuoted c kind = in_quotes (go AfterName Nothing) NameEscape (go NameQuoted (Name c)) c
step_at braced NameEscape c kind = after_backslash NameQuoted (NameEscaped c) c
step_at braced AfterName c kind = after_name kind
step_at braced AfterBang c kind = after_bang kind
step_at braced AfterEquals c kind = after_equals braced c kind
step_at braced ValueStart c kind = begins_value braced c kind
step_at braced ValueLiteral c kind = in_value braced c kind
step_at braced ValueQuoted c kind = in_quotes (go AfterValue Nothing) ValueEscape (go ValueQuoted (Value c)) c
step_at braced ValueEscape c kind = after_backslash ValueQuoted (ValueEscaped c) c
step_at braced AfterValue c kind = ends_value braced AfterValue kind
step_at braced AfterComma c kind = begins_matcher braced AfterComma c kind
step_at braced Closed c kind = after_braces kind

unfoldable pub step_from : Bool → Mode → ℕ → Option Step
step_from braced mode c = step_at braced mode c (kind_of c)

-- what was read
pub record Reading : Type 0 where
  pub braced : Bool
  pub mode : Mode
  pub name : Text
  pub operator : Operator
  pub value : Text
  pub matchers : List Matcher

abbrev pub start : Reading
start = record { braced = false; mode = Start; name = []; operator = Equal; value = []; matchers = [] }

-- the matchers, with the one that ends here
abbrev pub with_last : Reading → List Matcher
with_last r = r.matchers ++ (record { name = r.name; operator = r.operator; value = r.value }) ∷ []

-- what was read, and one more part
unfoldable pub with_part : Part → Reading → Reading
with_part Nothing r = r
with_part Brace r = record r { braced = true }
with_part (Name c) r = record r { name = r.name ++ encode_utf8 c }
with_part (NameEscaped c) r = record r { name = r.name ++ encode_utf8_all (meaning_of_escape c) }
with_part (Compare operator) r = record r { operator = operator }
with_part (Value c) r = record r { value = r.value ++ encode_utf8 c }
with_part (ValueEscaped c) r = record r { value = r.value ++ encode_utf8_all (meaning_of_escape c) }
with_part End r = record r { name = []; value = []; matchers = with_last r }

-- what was read, and the next character
abbrev pub next : Reading → ℕ → Option Reading
next r c = option_map (λ (s : Step). record (with_part s.part r) { mode = s.mode }) (step_from r.braced r.mode c)

-- the characters, one after another
abbrev pub run : Option Reading → List ℕ → Option Reading
run r [] = r
run r (c ∷ cs) = run (option_and_then (λ now. next now c) r) cs

-- the states in which a text may end, and what its end adds
unfoldable pub ending : Bool → Mode → Option Part
ending braced Closed = Some Nothing
ending braced Start = Some Nothing
ending braced AfterComma = if braced then None else Some Nothing
ending braced AfterEquals = if braced then None else Some End
ending braced ValueStart = if braced then None else Some End
ending braced ValueLiteral = if braced then None else Some End
ending braced AfterValue = if braced then None else Some End
ending braced _ = None

-- the matchers, if a text may end here
abbrev pub matchers_at_end : Reading → Option (List Matcher)
matchers_at_end r = option_map (λ part. (with_part part r).matchers) (ending r.braced r.mode)

-- the matchers of the characters of a text
abbrev pub matchers_of_chars : List ℕ → Option (List Matcher)
matchers_of_chars cs = option_and_then matchers_at_end (run (Some start) cs)

-- the matchers of a text
unfoldable pub matchers_of : Text → Option (List Matcher)
matchers_of text = matchers_of_chars (chars text)
