-- One line after another, as the loop reads them.
use Rattle.std.proofs.Common.{◌≡◌, ℕ, ◌+◌, ◌≤◌, ◌&&◌, ◌==◌, true, false, List, [], ◌∷◌, ◌++◌, length, refl, arith, append-nil, length-append, cond}
use Rattle.std.specs.List.{AllZip}
use Rattle.std.proofs.lemmas.Bool.Decides.{nat_tests}
use Rattle.std.proofs.lemmas.List.Elements.{All-nil, All-push}
use Rattle.std.proofs.lemmas.Slice.Zip.{AllZip-long}
use Rattle.amr_events.specs.Refused.{LineIs}
use Rattle.amr_events.specs.Versions.{is_header}
use Rattle.amr_events.specs.Scripts.{is_blank, longest_line, full_lines, version_of, after_header, event_lines, Script, ReadAs, HasFault, HasFirstFault}
use Rattle.amr_events.specs.Drafts.{nothing, is_one, is_new, begins_with, Adds, NoEvent, Header, OneEvent}
use Rattle.amr_events.specs.declared.version.Version.TheVariants.{Two}
use Rattle.amr_events.specs.declared.error.Fault.{Fault}

abbrev pub Line : Type 0
Line = List ℕ

abbrev pub IsShort : Line → Type 0
IsShort line = length line ≤ longest_line

pairs_push : {A B : Type 0} (R : A → B → Type 0) (xs : List A) (ys : List B) (x : A) (y : B) → AllZip R xs ys → R x y → AllZip R (xs ++ x ∷ []) (ys ++ y ∷ [])
pairs_push R [] [] a b all here = (here, tt)
pairs_push R [] (y ∷ ys) a b all here = absurd all
pairs_push R (x ∷ xs) [] a b all here = absurd all
pairs_push R (x ∷ xs) (y ∷ ys) a b all here = (all.0, pairs_push R xs ys a b all.1 here)

-- ---- the lines that aren't blank

pub full_after : (lines : List Line) (line : Line) (after : List Line) → full_lines (lines ++ line ∷ after) ≡ full_lines lines ++ cond (is_blank line) (full_lines after) (line ∷ full_lines after)
full_after [] line after = grind arith
full_after (first ∷ lines) line after = grind (arith, full_after lines line after)

-- the line after these is the header
pub ends_header : (full : List Line) (line : Line) → (length full == 0) && is_header line ≡ true → (version_of (full ++ line ∷ []) ≡ Two) × (after_header (full ++ line ∷ []) ≡ [])
ends_header [] line header = grind arith
ends_header (first ∷ full) line header = grind (arith, nat_tests)

-- the line after these isn't
pub goes_on : (full : List Line) (line : Line) (after : List Line) → (length full == 0) && is_header line ≡ false
    → (version_of (full ++ line ∷ after) ≡ version_of full) × (after_header (full ++ line ∷ after) ≡ after_header full ++ line ∷ after)
goes_on full line after event = grind (arith, nat_tests)

is_new_after : (full : List Line) → (is_one (version_of full) && length (after_header full) == 0) ≡ (length full == 0)
is_new_after full = grind (arith, nat_tests)

-- ---- all the lines

-- the script is new only if there is no line
new_of : (lines : List Line) (script : Script) → ReadAs lines script → is_new script ≡ (length (full_lines lines) == 0)
new_of lines script reads =
    let version = reads.version in
    let count = AllZip-long (LineIs script.version) (event_lines lines) script.events reads.read in
    rw (version, count) (is_new_after (full_lines lines))

pub nothing_read : ReadAs [] nothing
nothing_read = record { short = All-nil IsShort; version = refl; read = tt; few = omega arith }

pub reads_one_more : (lines : List Line) (line : Line) (old new : Script) → ReadAs lines old → Adds line old new → ReadAs (lines ++ line ∷ []) new
reads_one_more lines line old new reads (NoEvent short blank same) =
    let all_short = All-push IsShort lines line reads.short short in
    grind (arith, reads, full_after lines line [], append-nil (full_lines lines))
reads_one_more lines line old new reads (Header short blank begins same) =
    let all_short = All-push IsShort lines line reads.short short in
    let after = ends_header (full_lines lines) line (rw (new_of lines old reads) at begins) in
    let none : old.events ≡ [] = grind (arith, nat_tests) in
    grind (arith, reads, full_after lines line [])
reads_one_more lines line old new reads (OneEvent event short blank begins room is same) =
    let all_short = All-push IsShort lines line reads.short short in
    let after = goes_on (full_lines lines) line [] (rw (new_of lines old reads) at begins) in
    let read = pairs_push (LineIs old.version) (event_lines lines) old.events line event reads.read is in
    grind (arith, reads, full_after lines line [], length-append old.events (event ∷ []))

-- the first line after others that has a fault
pub fails_first : (before : List Line) (line : Line) (after : List Line) (n : ℕ) (script : Script) (fault : Fault) → n ≡ length before + 1 → ReadAs before script
    → HasFault n (begins_with script line) line script fault → HasFirstFault (before ++ line ∷ after) fault
fails_first before line after n script fault number reads has = record {
  before = before;
  line = line;
  after = after;
  script = script;
  parts = refl;
  read = reads;
  here = rw (number, new_of before script reads) at has;
}
