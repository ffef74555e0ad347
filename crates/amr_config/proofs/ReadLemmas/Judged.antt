-- Parts of a reading: what is read states what is there, a refusal is that of the first fault, and the patterns that are met are those before it.
use Rattle.std.proofs.Common.{◌≡◌, ℕ, ◌+◌, Bool, true, false, not, if◌then◌else◌, List, [], ◌∷◌, ◌++◌, Option, Some, None, Result, Ok, Err, refl, sym, ap, subst, ◌∙◌, append_assoc, append-nil, arith}
use Rattle.std.specs.Option.{option_or}
use Rattle.serde_json.specs.Data.{Data, Items, no_items, item}
use Rattle.serde_json.specs.Find.{as_str, as_bool, as_array, as_object}
use Rattle.amr_labels.specs.Labels.{Text}
use Rattle.amr_config.specs.declared.read.error.Refusal.{Refusal}
use Rattle.amr_config.specs.declared.read.error.Refusal.TheVariants.{BadConfig}
use Rattle.amr_config.specs.Read.Paths.{under, item_path}
use Rattle.amr_config.specs.Read.Members.{member_of, optional, required_value, optional_member, required_member, or_faulty, text_at, flag_at, items_at, members_at}
use Rattle.amr_config.specs.Read.Readings.{Reading, give, faulty, next, value_after, patterns_after, items_in_turn}
use Rattle.amr_config.specs.Read.Table.{IsText, IsFlag, IsListOf, StatesEach, StatesIf, States, HasAt}
use Rattle.amr_config.specs.Read.Faults.{Finding, Fault, Pattern, first_fault, patterns_before, unless_some, unless, text_found, flag_found, object_found, each_found, items_found, list_found, if_there, at, if_there_or, needed_at}

-- ---- findings one after another

first_of_both : (fs gs : List Finding) → first_fault (fs ++ gs) ≡ option_or (first_fault fs) (first_fault gs)
first_of_both [] gs = refl
first_of_both (Fault path ∷ fs) gs = refl
first_of_both (Pattern path text ∷ fs) gs = first_of_both fs gs

pub no_fault_in_both : (fs gs : List Finding) (o : Option (List ℕ)) → first_fault fs ≡ None → first_fault gs ≡ o → first_fault (fs ++ gs) ≡ o
no_fault_in_both fs gs o e f = grind (arith, first_of_both fs gs)

pub patterns_of_both : (fs gs : List Finding) → first_fault fs ≡ None → patterns_before (fs ++ gs) ≡ patterns_before fs ++ patterns_before gs
patterns_of_both [] gs e = refl
patterns_of_both (Fault path ∷ fs) gs e = absurd (cc)
patterns_of_both (Pattern path text ∷ fs) gs e = grind (arith, patterns_of_both fs gs e)

pub patterns_of_first : (fs gs : List Finding) (path : List ℕ) → first_fault fs ≡ Some path → patterns_before (fs ++ gs) ≡ patterns_before fs
patterns_of_first [] gs path e = absurd (cc)
patterns_of_first (Fault other ∷ fs) gs path e = refl
patterns_of_first (Pattern other text ∷ fs) gs path e = grind (arith, patterns_of_first fs gs path e)

-- ---- results

abbrev pub Tells : {A : Type 0} → Result A Refusal → List Finding → (A → Type 0) → Type 0
Tells (Ok x) fs P = (first_fault fs ≡ None) × P x
Tells (Err refusal) fs P = (path : List ℕ) × (refusal ≡ BadConfig path) × (first_fault fs ≡ Some path)

-- what is read is what is told of it
pub told : {A : Type 0} (r : Result A Refusal) (fs : List Finding) (P : A → Type 0) (x : A) → r ≡ Ok x → Tells r fs P → P x
told r fs P x is t = (subst (λ (r : Result _ Refusal). Tells r fs P) is t).1

pub record Judged {A : Type 0} (reading : Reading A) (fs : List Finding) (P : A → Type 0) : Type 0 where
  pub tells : Tells reading.value fs P
  pub met : reading.patterns ≡ patterns_before fs

pub by_findings : {A : Type 0} (reading : Reading A) (fs gs : List Finding) (P : A → Type 0) → fs ≡ gs → Judged reading fs P → Judged reading gs P
by_findings reading fs gs P e j = subst (λ hs. Judged reading hs P) e j

pub judged_ok : {A : Type 0} (x : A) (P : A → Type 0) → P x → Judged (give x) [] P
judged_ok x P p = record { tells = (refl, p); met = refl }

pub judged_fault : {A : Type 0} (path : List ℕ) (P : A → Type 0) → Judged {A = A} (faulty path) (Fault path ∷ []) P
judged_fault path P = record { tells = (path, refl, refl); met = refl }

tells_as : {A : Type 0} (r : Result A Refusal) (fs : List Finding) (P Q : A → Type 0) → Tells r fs P → ((x : A) → P x → Q x) → Tells r fs Q
tells_as (Ok x) fs P Q h weaker = (h.0, weaker x h.1)
tells_as (Err refusal) fs P Q h weaker = h

pub judged_as : {A : Type 0} (reading : Reading A) (fs : List Finding) (P Q : A → Type 0) → Judged reading fs P → ((x : A) → P x → Q x) → Judged reading fs Q
judged_as reading fs P Q j weaker = record { tells = tells_as reading.value fs P Q j.tells weaker; met = j.met }

later_tells : {B : Type 0} (r : Result B Refusal) (fs gs : List Finding) (Q : B → Type 0) → first_fault fs ≡ None → Tells r gs Q → Tells r (fs ++ gs) Q
later_tells (Ok y) fs gs Q none t = (no_fault_in_both fs gs None none t.0, t.1)
later_tells (Err refusal) fs gs Q none t = (t.0, t.1, no_fault_in_both fs gs (Some t.0) none t.2)

pub judged_then : {A B : Type 0} (part : Reading A) (rest : A → Reading B) (fs gs : List Finding) (P : A → Type 0) (Q : B → Type 0) → Judged part fs P → ((x : A) → P x → Judged (rest x) gs Q) → Judged (next part rest) (fs ++ gs) Q
unfolding next
judged_then part rest fs gs P Q h hs = go part.value h.tells
  where
    go : (r : Result _ Refusal) → Tells r fs P → Judged (record { value = value_after r rest; patterns = part.patterns ++ patterns_after r rest }) (fs ++ gs) Q
    go (Ok x) t =
        let j = hs x t.1 in
        record {
          tells = later_tells (rest x).value fs gs Q t.0 j.tells;
          met = ap (λ l. l ++ (rest x).patterns) h.met ∙ ap (λ l. patterns_before fs ++ l) j.met ∙ sym (patterns_of_both fs gs t.0);
        }
    go (Err refusal) t =
        record {
          tells = (t.0, t.1, grind (arith, first_of_both fs gs, t.2));
          met = append-nil part.patterns ∙ h.met ∙ sym (patterns_of_first fs gs t.0 t.2);
        }

-- what is made of what is read
pub judged_map : {A B : Type 0} (part : Reading A) (f : A → B) (fs : List Finding) (P : A → Type 0) (Q : B → Type 0) → Judged part fs P → ((x : A) → P x → Q (f x)) → Judged (next part (λ x. give (f x))) fs Q
judged_map part f fs P Q h g =
    by_findings _ (fs ++ []) fs Q (append-nil fs) (judged_then part (λ x. give (f x)) fs [] P Q h (λ x p. judged_ok (f x) Q (g x p)))

pub judged_or_faulty : {A : Type 0} (path : List ℕ) (o : Option A) (P : A → Type 0) → ((x : A) → o ≡ Some x → P x) → Judged (or_faulty path o) (unless_some path o) P
judged_or_faulty path None P h = judged_fault path P
judged_or_faulty path (Some x) P h = judged_ok x P (h x refl)

pub judged_if : {A : Type 0} (b : Bool) (x : A) (path : List ℕ) (P : A → Type 0) → (b ≡ true → P x) → Judged (if b then give x else faulty path) (unless path b) P
judged_if true x path P h = judged_ok x P (h refl)
judged_if false x path P h = judged_fault path P

pub judged_unless : {A : Type 0} (b : Bool) (x : A) (path : List ℕ) (P : A → Type 0) → P x → Judged (if b then faulty path else give x) (unless path (not b)) P
judged_unless true x path P p = judged_fault path P
judged_unless false x path P p = judged_ok x P p

-- ---- members

pub judged_optional : {A : Type 0} (reads : Data → Reading A) (found : Data → List Finding) (Is : Data → A → Type 0) (o : Option Data) → ((d : Data) → Judged (reads d) (found d) (Is d)) → Judged (optional reads o) (if_there found o) (StatesIf Is o)
judged_optional reads found Is None h = judged_ok None (StatesIf Is None) tt
judged_optional reads found Is (Some d) h = judged_map (reads d) (λ x. Some x) (found d) (Is d) (StatesIf Is (Some d)) (h d) (λ x is. is)

pub judged_stated : {A : Type 0} (shape : List ℕ → Data → Reading A) (found : List ℕ → Data → List Finding) (Is : Data → A → Type 0) (path : List ℕ) (key : Text) (d : Data) → ((v : Data) → Judged (shape (under path key) v) (found (under path key) v) (Is v)) → Judged (optional_member shape path key d) (at found path key d) (States Is key d)
judged_stated shape found Is path key d h = judged_optional (shape (under path key)) (found (under path key)) Is (member_of key d) h

judged_required : {A : Type 0} (path : List ℕ) (reads : Data → Reading A) (found : Data → List Finding) (Is : Data → A → Type 0) (o : Option Data) → ((d : Data) → Judged (reads d) (found d) (Is d)) → Judged (required_value path reads o) (if_there_or (Fault path ∷ []) found o) (λ x. (v : Data) × (o ≡ Some v) × Is v x)
judged_required path reads found Is None h = judged_fault path _
judged_required path reads found Is (Some d) h = judged_as (reads d) (found d) (Is d) _ (h d) (λ x is. (d, refl, is))

pub judged_needed : {A : Type 0} (shape : List ℕ → Data → Reading A) (found : List ℕ → Data → List Finding) (Is : Data → A → Type 0) (path : List ℕ) (key : Text) (d : Data) → ((v : Data) → Judged (shape (under path key) v) (found (under path key) v) (Is v)) → Judged (required_member shape path key d) (needed_at found path key d) (HasAt Is key d)
judged_needed shape found Is path key d h = judged_required (under path key) (shape (under path key)) (found (under path key)) Is (member_of key d) h

-- ---- shapes

pub judged_text : (path : List ℕ) (d : Data) → Judged (text_at path d) (text_found path d) (IsText d)
judged_text path d = judged_or_faulty path (as_str d) (IsText d) (λ x is. is)

pub judged_flag : (path : List ℕ) (d : Data) → Judged (flag_at path d) (flag_found path d) (IsFlag d)
judged_flag path d = judged_or_faulty path (as_bool d) (IsFlag d) (λ x is. is)

pub judged_object : (path : List ℕ) (d : Data) → Judged (members_at path d) (object_found path d) (λ ms. as_object d ≡ Some ms)
judged_object path d = judged_or_faulty path (as_object d) (λ ms. as_object d ≡ Some ms) (λ x is. is)

-- a part that may be missing, and then what is made of it
pub judged_there : {A B : Type 0} (path : List ℕ) (o : Option A) (rest : A → Reading B) (found : Option A → List Finding) (Q : B → Type 0) → found None ≡ Fault path ∷ [] → ((x : A) → o ≡ Some x → Judged (rest x) (found (Some x)) Q) → Judged (next (or_faulty path o) rest) (found o) Q
unfolding next
judged_there path None rest found Q none h = by_findings _ (Fault path ∷ []) (found None) Q (sym none) (judged_fault path Q)
judged_there path (Some x) rest found Q none h = h x refl

-- ---- lists

-- each item added to those before it
abbrev pub Adds : {B : Type 0} → (ℕ → Data → B → Type 0) → ℕ → Data → List B → List B → Type 0
Adds Is i d before after = (x : _) × (after ≡ before ++ x ∷ []) × Is i d x

abbrev pub AddsEach : {B : Type 0} → (ℕ → Data → B → Type 0) → ℕ → Items → List B → List B → Type 0
AddsEach Is i ds before after = (more : List _) × (after ≡ before ++ more) × StatesEach Is i ds more

pub adds_none : {B : Type 0} (Is : ℕ → Data → B → Type 0) (i : ℕ) (before : List B) → AddsEach Is i no_items before before
adds_none Is i before = ([], sym (append-nil before), tt)

pub adds_more : {B : Type 0} (Is : ℕ → Data → B → Type 0) (i : ℕ) (d : Data) (ds : Items) (before one after : List B) → Adds Is i d before one → AddsEach Is (i + 1) ds one after → AddsEach Is i (item d ds) before after
adds_more Is i d ds before one after (x, adds, is) (more, rest, are) =
    (x ∷ more, rest ∙ ap (λ l. l ++ more) adds ∙ append_assoc before (x ∷ []) more, (is, are))

-- items, one after another
pub judged_each : {A : Type 0} (f : ℕ → Data → A → Reading A) (found : List ℕ → Data → List Finding) (path : List ℕ) (Step : ℕ → Data → A → A → Type 0) (All : ℕ → Items → A → A → Type 0) → ((i : ℕ) (a : A) → All i no_items a a) → ((i : ℕ) (d : Data) (ds : Items) (a b c : A) → Step i d a b → All (i + 1) ds b c → All i (item d ds) a c) → (i : ℕ) (ds : Items) (a : A) → ((i : ℕ) (d : Data) (a : A) → Judged (f i d a) (found (item_path path i) d) (Step i d a)) → Judged (items_in_turn f i ds a) (each_found found path i ds) (All i ds a)
judged_each f found path Step All none more i no_items a h = judged_ok a _ (none i a)
judged_each f found path Step All none more i (item d ds) a h =
    judged_then (f i d a) (items_in_turn f (i + 1) ds) (found (item_path path i) d) (each_found found path (i + 1) ds) (Step i d a) (All i (item d ds) a) (h i d a) (λ b step.
    judged_as (items_in_turn f (i + 1) ds b) (each_found found path (i + 1) ds) (All (i + 1) ds b) (All i (item d ds) a) (judged_each f found path Step All none more (i + 1) ds b h) (λ c rest. more i d ds a b c step rest))

-- a list whose items are added one after another
pub judged_list : {B : Type 0} (f : ℕ → Data → List B → Reading (List B)) (found : List ℕ → Data → List Finding) (path : List ℕ) (d : Data) (Is : ℕ → Data → B → Type 0) → ((i : ℕ) (d : Data) (before : List B) → Judged (f i d before) (found (item_path path i) d) (Adds Is i d before)) → Judged (next (items_at path d) (λ ds. items_in_turn f 0 ds [])) (list_found found path d) (λ xs. (ds : Items) × (as_array d ≡ Some ds) × StatesEach Is 0 ds xs)
judged_list f found path d Is h =
    judged_there path (as_array d) (λ ds. items_in_turn f 0 ds []) (items_found found path) _ refl (λ ds is.
    judged_as (items_in_turn f 0 ds []) (each_found found path 0 ds) (AddsEach Is 0 ds []) _ (judged_each f found path (Adds Is) (AddsEach Is) (adds_none Is) (adds_more Is) 0 ds [] h) (λ xs (more, same, are). (ds, is, rw same are)))

-- a list whose items are read one by one
pub judged_list_of : {B : Type 0} (read : List ℕ → Data → Reading B) (found : List ℕ → Data → List Finding) (Is : Data → B → Type 0) → ((path : List ℕ) (d : Data) → Judged (read path d) (found path d) (Is d)) → (path : List ℕ) (d : Data) → Judged (next (items_at path d) (λ ds. items_in_turn (λ i d before. next (read (item_path path i) d) (λ x. give (before ++ x ∷ []))) 0 ds [])) (list_found found path d) (IsListOf Is d)
judged_list_of read found Is h path d =
    judged_list (λ i d before. next (read (item_path path i) d) (λ x. give (before ++ x ∷ []))) found path d (λ i. Is) (λ i d before.
    judged_map _ (λ x. before ++ x ∷ []) _ _ _ (h (item_path path i) d) (λ x is. (x, refl, is)))
