-- Texts written one after another.
use Rattle.std.proofs.Common.{◌≡◌, ◌∷◌, ◌++◌, append-nil, List, [], ℕ, ◌<◌, ◌+◌, length, take, drop, get_or, flat_map, sym, ap, ◌∙◌, Option, arith, add-one, drop-cons, take-append-drop}
use Rattle.std.proofs.lemmas.Grind.{common_steps, flat_map-append}
use Rattle.std.specs.Io.KnownBytes.{Appends, Keeps}
use Rattle.std.proofs.KnownBytes.{Appends-trans, Appends-kept}
use Rattle.amreplay.specs.Lines.CheckedWriter.{AppendsBeginning}

-- a text was written, and then a prefix of the next
pub AppendsBeginning-after : (a b c : Option (List ℕ)) (first second rest all : List ℕ)
    → Appends a b first → AppendsBeginning b c second → all ≡ first ++ (second ++ rest) → AppendsBeginning a c all
AppendsBeginning-after a b c first second rest all p q e =
    record {
      written = first ++ q.written;
      unwritten = q.unwritten ++ rest;
      parts = e ∙ ap (λ l. first ++ (l ++ rest)) q.parts ∙ grind (arith, common_steps);
      appended = Appends-trans a b c first q.written p q.appended;
    }

-- all of a text was written
pub AppendsBeginning-all : (a b : Option (List ℕ)) (text : List ℕ) → Appends a b text → AppendsBeginning a b text
AppendsBeginning-all a b text all = record { written = text; unwritten = []; parts = sym (append-nil text); appended = all }

pub AppendsBeginning-kept : (a b c : Option (List ℕ)) (text : List ℕ) → AppendsBeginning a b text → Keeps b c → AppendsBeginning a c text
AppendsBeginning-kept a b c text p kept = record { written = p.written; unwritten = p.unwritten; parts = p.parts; appended = Appends-kept a b c _ p.appended kept }

-- the list as what is before an index, at it, and after it
pub flat_map-around : {X : Type 0} (f : X → List ℕ) (xs : List X) (i : ℕ) (d : X) → i < length xs
    → flat_map f xs ≡ flat_map f (take i xs) ++ (f (get_or xs i d) ++ flat_map f (drop (i + 1) xs))
flat_map-around f xs i d h =
    let here : drop i xs ≡ get_or xs i d ∷ drop (i + 1) xs = rw add-one (drop-cons xs i d h) in
    ap (flat_map f) (sym (take-append-drop i xs)) ∙ flat_map-append f (take i xs) (drop i xs) ∙ ap (λ l. flat_map f (take i xs) ++ flat_map f l) here
