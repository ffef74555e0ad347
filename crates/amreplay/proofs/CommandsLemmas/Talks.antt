-- A session, one byte at a time, and its last line.
use Rattle.std.proofs.Common.{◌≡◌, ◌≢◌, ℕ, List, [], ◌∷◌, ◌++◌, map, flat_map, take, refl, sym, ap, ◌∙◌, subst, append_assoc, append-nil, Option}
use Rattle.std.specs.List.{All}
use Rattle.std.proofs.lemmas.List.{map_push}
use Rattle.std.proofs.lemmas.List.Elements.{All-push, All-nil}
use Rattle.std.proofs.lemmas.Grind.{flat_map-append}
use Rattle.std.specs.Io.KnownBytes.{Appends, Consumes}
use Rattle.std.proofs.KnownBytes.{Appends-trans, Consumes-trans}
use Rattle.amreplay.specs.Lines.CheckedWriter.{AppendsBeginning}
use Rattle.amreplay.specs.Commands.Replies.{Incident}
use Rattle.amreplay.specs.Commands.Lines.{with_feed, IsOneLine}
use Rattle.amreplay.specs.Commands.Talk.{LineOutcome, AnsweredLine, reply, MayBe, after, out, AllMayBe, Progress, StopsShort, StopsInside}
use Rattle.amreplay.specs.Commands.Converse.{Printed}
use Rattle.amreplay.proofs.LinesLemmas.Parts.{AppendsBeginning-after}

abbrev line_of : AnsweredLine → List ℕ
line_of h = h.line

after-append : (incident : Incident) (cursor : ℕ) (hs : List AnsweredLine) (h : AnsweredLine) → after incident cursor (hs ++ h ∷ []) ≡ (reply incident (after incident cursor hs) h.line_outcome).cursor
after-append incident cursor [] h = refl
after-append incident cursor (g ∷ hs) h = after-append incident ((reply incident cursor g.line_outcome).cursor) hs h

out-append : (incident : Incident) (cursor : ℕ) (hs : List AnsweredLine) (h : AnsweredLine) → out incident cursor (hs ++ h ∷ []) ≡ out incident cursor hs ++ (reply incident (after incident cursor hs) h.line_outcome).text
out-append incident cursor [] h = append-nil _
out-append incident cursor (g ∷ hs) h =
    ap (λ t. (reply incident cursor g.line_outcome).text ++ t) (out-append incident ((reply incident cursor g.line_outcome).cursor) hs h) ∙ sym (append_assoc ((reply incident cursor g.line_outcome).text) _ _)

AllMayBe-append : (incident : Incident) (cursor : ℕ) (hs : List AnsweredLine) (h : AnsweredLine) → AllMayBe incident cursor hs → MayBe incident (after incident cursor hs) h.line h.line_outcome → AllMayBe incident cursor (hs ++ h ∷ [])
AllMayBe-append incident cursor [] h p q = (q, tt)
AllMayBe-append incident cursor (g ∷ hs) h p q = (p.0, AllMayBe-append incident ((reply incident cursor g.line_outcome).cursor) hs h p.1 q)

-- the line feed makes the rest a whole line
joined : (bytes rest : List ℕ) (lines : List (List ℕ)) → bytes ≡ flat_map with_feed lines ++ rest → bytes ++ 10 ∷ [] ≡ flat_map with_feed (lines ++ rest ∷ []) ++ []
joined bytes rest lines e =
    ap (λ l. l ++ 10 ∷ []) e ∙ append_assoc (flat_map with_feed lines) rest (10 ∷ []) ∙ sym (ap (λ l. flat_map with_feed lines ++ l) (append-nil (with_feed rest))) ∙ sym (flat_map-append with_feed lines (rest ∷ [])) ∙ sym (append-nil _)

-- a byte of a line
pub Progress-more : (incident : Incident) (start now : Option (List ℕ)) (bytes : List ℕ) (cursor : ℕ) (rest : List ℕ) (b : ℕ)
    → b ≢ 10 → Progress incident start now bytes cursor rest → Progress incident start now (bytes ++ b ∷ []) cursor (rest ++ b ∷ [])
Progress-more incident start now bytes cursor rest b ne t =
    record {
      heard = t.heard;
      cut = record {
        whole = ap (λ l. l ++ b ∷ []) t.cut.whole ∙ append_assoc (flat_map with_feed (map line_of t.heard)) rest (b ∷ []);
        each = t.cut.each;
        last = All-push (λ x. x ≢ 10) rest b t.cut.last ne;
      };
      may_be = t.may_be;
      position = t.position;
      written = t.written;
    }

module _ (incident : Incident) (start mid now : Option (List ℕ)) (bytes : List ℕ) (cursor : ℕ) (rest : List ℕ) (line_outcome : LineOutcome)
    (t : Progress incident start mid bytes cursor rest) (may_be : MayBe incident cursor rest line_outcome) where
  abbrev told : AnsweredLine
  told = record { line = rest; line_outcome = line_outcome }

  abbrev text : List ℕ
  text = (reply incident cursor line_outcome).text

  all_may_be : AllMayBe incident 0 (t.heard ++ told ∷ [])
  all_may_be = AllMayBe-append incident 0 t.heard told t.may_be (subst (λ c. MayBe incident c rest line_outcome) t.position may_be)

  all_out : out incident 0 (t.heard ++ told ∷ []) ≡ out incident 0 t.heard ++ text
  all_out = out-append incident 0 t.heard told ∙ ap (λ c. out incident 0 t.heard ++ (reply incident c line_outcome).text) (sym t.position)

  all_written : Appends mid now text → Appends start now (out incident 0 (t.heard ++ told ∷ []))
  all_written w = subst (Appends start now) (sym all_out) (Appends-trans start mid now _ _ t.written w)

  -- a line that was answered, with its line feed
  pub Progress-answered : (cursor' : ℕ) → (cursor' ≡ (reply incident cursor line_outcome).cursor) × Appends mid now text → Progress incident start now (bytes ++ 10 ∷ []) cursor' []
  Progress-answered cursor' d = record {
    heard = t.heard ++ told ∷ [];
    cut = record {
      whole = joined bytes rest (map line_of t.heard) t.cut.whole ∙ ap (λ l. flat_map with_feed l ++ []) (sym (map_push line_of t.heard told));
      each = subst (All IsOneLine) (sym (map_push line_of t.heard told)) (All-push IsOneLine _ rest t.cut.each t.cut.last);
      last = All-nil _;
    };
    may_be = all_may_be;
    position = d.0 ∙ ap (λ c. (reply incident c line_outcome).cursor) t.position ∙ sym (after-append incident 0 t.heard told);
    written = all_written d.1;
  }

  -- the last line, which has no line feed
  pub Printed-answered : Appends mid now text → Printed incident start now bytes
  Printed-answered w = record { heard = t.heard; last = told; cut = t.cut; may_be = all_may_be; written = all_written w }

  -- the writer failed at the answer to a line
  pub StopsShort-answered : AppendsBeginning mid now text → StopsShort incident start now bytes []
  StopsShort-answered w = record {
    heard = t.heard;
    last = told;
    whole = t.cut.whole ∙ ap (λ l. flat_map with_feed (map line_of t.heard) ++ l) (sym (append-nil rest));
    each = t.cut.each;
    one_line = t.cut.last;
    may_be = all_may_be;
    written = AppendsBeginning-after start mid now _ text [] _ t.written w (all_out ∙ ap (λ l. out incident 0 t.heard ++ l) (sym (append-nil text)));
  }

-- more bytes than those up to the line
pub StopsShort-more : (incident : Incident) (start now : Option (List ℕ)) (bytes after_line more : List ℕ)
    → StopsShort incident start now bytes after_line → StopsShort incident start now (bytes ++ more) (after_line ++ more)
StopsShort-more incident start now bytes after_line more s =
    record {
      heard = s.heard;
      last = s.last;
      whole = ap (λ l. l ++ more) s.whole ∙ append_assoc (flat_map with_feed (map line_of s.heard)) _ more ∙ ap (λ l. flat_map with_feed (map line_of s.heard) ++ l) (append_assoc s.last.line after_line more);
      each = s.each;
      one_line = s.one_line;
      may_be = s.may_be;
      written = s.written;
    }

-- bytes that come after those that were taken in
pub StopsInside-more : (incident : Incident) (start now : Option (List ℕ)) (bytes more : List ℕ) → StopsInside incident start now bytes → StopsInside incident start now (bytes ++ more)
StopsInside-more incident start now bytes more (tail, s) = (tail ++ more, StopsShort-more incident start now bytes (10 ∷ tail) more s)

-- a read that gave no byte
pub Consumes-nothing : (a b c : Option (List ℕ)) (bs chunk : List ℕ) (n : ℕ) → n ≡ 0 → Consumes a b bs → Consumes b c (take n chunk) → Consumes a c bs
Consumes-nothing a b c bs chunk n e p q = subst (Consumes a c) (ap (λ k. bs ++ take k chunk) e ∙ append-nil bs) (Consumes-trans a b c bs (take n chunk) p q)
