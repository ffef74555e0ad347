-- A walk goes as its parts go. Where a part of a reading fails, the whole fails.
use Rattle.std.proofs.Common.{◌≡◌, ℕ, List, Option, Some, None, is_some, Result, Ok, Err, true, inl, inr, refl, ap, ◌∙◌, unwrap_or, IsErrAnd}
use Rattle.std.proofs.lemmas.List.Elements.{Contains-append_left, Contains-append_right}
use Rattle.serde_json.specs.Data.{Data, Members}
use Rattle.serde_json.specs.Find.{as_object}
use Rattle.amr_config.specs.declared.read.error.Refusal.{Refusal}
use Rattle.amr_config.specs.declared.read.error.ConfigError.{ConfigError}
use Rattle.amr_config.specs.declared.read.error.ConfigError.TheVariants.{Memory, Refused}
use Rattle.amr_config.specs.Read.Members.{members_at}
use Rattle.amr_config.specs.Read.Readings.{Reading, give, faulty, next, patterns_after, value_after, MayGive}
use Rattle.amr_config.specs.Read.Answers.{IsFault, Fails, Gives, Stops, Reads, ReadsInto}

-- ---- a part that fails

-- a `?` returns the error of the part that failed
pub failed : {X Y : Type 0} (view : X → Y) (result : Result X ConfigError) (e : ConfigError) (reading : Reading Y) → IsErrAnd result (λ other. other ≡ e) → Fails e reading → Gives view result reading
failed view (Ok x) e reading passed h = absurd passed
failed view (Err other) e reading passed h = rw passed h

pub fails_first : {A B : Type 0} (e : ConfigError) (part : Reading A) (rest : A → Reading B) → Fails e part → Fails e (next part rest)
unfolding next
fails_first Memory part rest h = tt
fails_first (Refused refusal) part rest h = rw h refl

-- past a part that is read
pub fails_later : {A B : Type 0} (e : ConfigError) (part : Reading A) (rest : A → Reading B) (x : A) → part ≡ give x → Fails e (rest x) → Fails e (next part rest)
unfolding next
fails_later e part rest x is h = rw is h

-- at a faulty value
pub fails_at : (A : Type 0) (e : ConfigError) (path : List ℕ) → IsFault e path → Fails {Y = A} e (faulty path)
fails_at A Memory path h = tt
fails_at A (Refused refusal) path h = rw h refl

-- ---- a part that is read, or that stops the walk

-- what was read, was read part by part
after_ok : {A B : Type 0} (r : Result A Refusal) (f : A → Reading B) (b : B) → value_after r f ≡ Ok b → (a : A) × (r ≡ Ok a) × ((f a).value ≡ Ok b)
after_ok (Ok a) f b e = (a, refl, e)
after_ok (Err r) f b e = cc

pub bind_ok : {A B : Type 0} (part : Reading A) (f : A → Reading B) (b : B) → (next part f).value ≡ Ok b → (a : A) × (part.value ≡ Ok a) × ((f a).value ≡ Ok b)
unfolding next
bind_ok part f b e = after_ok part.value f b e

some_from : {A : Type 0} (o : Option A) → is_some o ≡ true → (x : A) × (o ≡ Some x)
some_from None e = cc
some_from (Some x) e = (x, refl)

-- a `?` returns the error that stopped the walk
pub stopped : {X Y : Type 0} (view : X → Y) (result : Result X ConfigError) (e : ConfigError) (reading : Reading Y) → IsErrAnd result (λ other. other ≡ e) → Stops e (MayGive reading) → Reads view result reading
stopped view (Ok x) e reading passed h = absurd passed
stopped view (Err other) e reading passed h = rw passed h

pub stopped_into : {X Y : Type 0} (view : X → Y) (result : Result (Unit {0}) ConfigError) (new : X) (e : ConfigError) (reading : Reading Y) → IsErrAnd result (λ other. other ≡ e) → Stops e (MayGive reading) → ReadsInto view result new reading
stopped_into view (Ok x) new e reading passed h = absurd passed
stopped_into view (Err other) new e reading passed h = rw passed h

-- where the first part stops, the walk stops
pub stops_first : {A B : Type 0} (e : ConfigError) (part : Reading A) (rest : A → Reading B) → Stops e (MayGive part) → Stops e (MayGive (next part rest))
unfolding next
stops_first Memory part rest h = tt
stops_first (Refused r) part rest (inl bad) = inl (ap (λ v. value_after v rest) bad)
stops_first (Refused r) part rest (inr (path, text, met, may, is)) =
    inr (path, text, Contains-append_left part.patterns (patterns_after part.value rest) (path, text) met, may, is)

-- past a part that is read it stops where the rest stops
pub stops_later : {A B : Type 0} (e : ConfigError) (part : Reading A) (rest : A → Reading B) (a : A) → part.value ≡ Ok a → Stops e (MayGive (rest a)) → Stops e (MayGive (next part rest))
unfolding next
stops_later Memory part rest a read h = tt
stops_later (Refused r) part rest a read (inl bad) = inl (ap (λ v. value_after v rest) read ∙ bad)
stops_later (Refused r) part rest a read (inr (path, text, met, may, is)) =
    let same : patterns_after part.value rest ≡ (rest a).patterns = ap (λ v. patterns_after v rest) read in
    inr (path, text, Contains-append_right part.patterns (patterns_after part.value rest) (path, text) (rw same met), may, is)

-- past a part without patterns that is read
pub stops_past : {A B : Type 0} (e : ConfigError) (part : Reading A) (rest : A → Reading B) (a : A) → part ≡ give a → Stops e (MayGive (rest a)) → Stops e (MayGive (next part rest))
unfolding next
stops_past e part rest a read h = rw read h

-- a part without patterns
pub stops_plain : {A : Type 0} (e : ConfigError) (reading : Reading A) → Fails e reading → Stops e (MayGive reading)
stops_plain Memory reading h = tt
stops_plain (Refused r) reading h = inl (ap (λ (reading : Reading _). reading.value) h)

-- what is read past a part
pub read_on : {A B : Type 0} (part : Reading A) (rest : A → Reading B) (a : A) → part.value ≡ Ok a → (next part rest).value ≡ (rest a).value
unfolding next
read_on part rest a read = ap (λ v. value_after v rest) read

-- an object that isn't there
pub no_members : (e : ConfigError) (path : List ℕ) (d : Data) → as_object d ≡ None → IsFault e path → Fails e (members_at path d)
no_members e path d none h = rw none (fails_at _ e path h)

-- an object that is there, and whose members aren't asked as one
pub object_there : {B : Type 0} (path : List ℕ) (d : Data) (rest : Reading B) → is_some (as_object d) ≡ true → next (members_at path d) (λ (whole : Members). rest) ≡ rest
unfolding next
object_there path d rest some = rw (some_from (as_object d) some).1 refl

pub fails_past_object : {B : Type 0} (e : ConfigError) (path : List ℕ) (d : Data) (rest : Reading B) → is_some (as_object d) ≡ true → Fails e rest → Fails e (next (members_at path d) (λ (whole : Members). rest))
fails_past_object e path d rest some h = rw (object_there path d rest some) h

pub past_object : {B : Type 0} (e : ConfigError) (path : List ℕ) (d : Data) (rest : Reading B) → is_some (as_object d) ≡ true → Stops e (MayGive rest) → Stops e (MayGive (next (members_at path d) (λ (whole : Members). rest)))
past_object e path d rest some h = rw (object_there path d rest some) h

-- a list that is there
pub reads_stated : {X : Type 0} (result : Result (List X) ConfigError) (part : Reading (List X)) (default : List X) → Reads (λ xs. xs) result part → Reads (λ xs. xs) result (next (next part (λ xs. give (Some xs))) (λ found. give (unwrap_or found default)))
reads_stated (Ok xs) part default h =
    read_on (next part (λ xs. give (Some xs))) (λ found. give (unwrap_or found default)) (Some xs) (read_on part (λ xs. give (Some xs)) xs h)
reads_stated (Err e) part default h =
    stops_first e (next part (λ xs. give (Some xs))) (λ found. give (unwrap_or found default)) (stops_first e part (λ xs. give (Some xs)) h)
