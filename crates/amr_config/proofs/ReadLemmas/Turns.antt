-- A loop over items or members that may meet patterns goes as the walk goes.
use Rattle.std.proofs.Common.{◌≡◌, ℕ, ◌+◌, ◌<◌, List, ◌∷◌, length, drop, get_or, Ok, sym, ap, ◌∙◌, String, string_bytes, Global}
use Rattle.std.proofs.lemmas.List.{at_drop_more}
use Rattle.serde_json.specs.Data.{Data}
use Rattle.serde_json.specs.View.{view, items_view, members_view}
use Rattle.serde_json.specs.declared.value.Value.{Value}
use Rattle.amr_config.specs.Read.Readings.{Reading, next, items_in_turn, members_in_turn, MayGive}
use Rattle.amr_config.specs.declared.read.error.ConfigError.{ConfigError}
use Rattle.amr_config.specs.Read.Answers.{Stops}
use Rattle.amr_config.proofs.ReadLemmas.Readings.{stops_first, stops_later, read_on}

-- where the rest of a walk comes out, the whole comes out
pub record Ends {A : Type 0} (rest whole : Reading A) : Type 0 where
  pub reads : (a : A) → rest.value ≡ Ok a → whole.value ≡ Ok a
  pub stops : (e : ConfigError) → Stops e (MayGive rest) → Stops e (MayGive whole)

-- past its first part
pub ends_past : {A B : Type 0} (part : Reading A) (rest : A → Reading B) (whole : Reading B) (a : A) → part.value ≡ Ok a → Ends (next part rest) whole → Ends (rest a) whole
ends_past part rest whole a read ends =
    record {
      reads = λ b h. ends.reads b (read_on part rest a read ∙ h);
      stops = λ e h. ends.stops e (stops_later e part rest a read h);
    }

one_item : {A : Type 0} (f : ℕ → Data → A → Reading A) (vs : List Value) (i : ℕ) (v : Value) (a : A) → i < length vs → v ≡ get_or vs i v → items_in_turn f i (items_view (drop i vs)) a ≡ next (f i (view v) a) (items_in_turn f (i + 1) (items_view (drop (i + 1) vs)))
one_item f vs i v a lt is =
    at_drop_more (λ ws. items_in_turn f i (items_view ws) a) vs i v lt ∙ sym (ap (λ (w : Value). next (f i (view w) a) (items_in_turn f (i + 1) (items_view (drop (i + 1) vs)))) is)

pub item_ends : {A : Type 0} (f : ℕ → Data → A → Reading A) (vs : List Value) (i : ℕ) (v : Value) (a b : A) (whole : Reading A) → i < length vs → v ≡ get_or vs i v → (f i (view v) a).value ≡ Ok b → Ends (items_in_turn f i (items_view (drop i vs)) a) whole → Ends (items_in_turn f (i + 1) (items_view (drop (i + 1) vs)) b) whole
item_ends f vs i v a b whole lt is read ends =
    ends_past (f i (view v) a) (items_in_turn f (i + 1) (items_view (drop (i + 1) vs))) whole b read (rw (one_item f vs i v a lt is) at ends)

pub item_stops : {A : Type 0} (f : ℕ → Data → A → Reading A) (vs : List Value) (i : ℕ) (v : Value) (a : A) (e : ConfigError) (whole : Reading A) → i < length vs → v ≡ get_or vs i v → Stops e (MayGive (f i (view v) a)) → Ends (items_in_turn f i (items_view (drop i vs)) a) whole → Stops e (MayGive whole)
item_stops f vs i v a e whole lt is h ends =
    ends.stops e (rw (one_item f vs i v a lt is) (stops_first e (f i (view v) a) (items_in_turn f (i + 1) (items_view (drop (i + 1) vs))) h))

-- the entries of an object that are left, the first of them the entry of k
pub member_ends : {A : Type 0} (f : List ℕ → Data → A → Reading A) (rest more : List (String Global × Value)) (k : String Global) (v : Value) (a b : A) (whole : Reading A) → rest ≡ (k, v) ∷ more → (f (string_bytes k) (view v) a).value ≡ Ok b → Ends (members_in_turn f (members_view rest) a) whole → Ends (members_in_turn f (members_view more) b) whole
member_ends f rest more k v a b whole is read ends =
    ends_past (f (string_bytes k) (view v) a) (members_in_turn f (members_view more)) whole b read (rw is at ends)

pub member_stops : {A : Type 0} (f : List ℕ → Data → A → Reading A) (rest more : List (String Global × Value)) (k : String Global) (v : Value) (a : A) (e : ConfigError) (whole : Reading A) → rest ≡ (k, v) ∷ more → Stops e (MayGive (f (string_bytes k) (view v) a)) → Ends (members_in_turn f (members_view rest) a) whole → Stops e (MayGive whole)
member_stops f rest more k v a e whole is h ends =
    let left = rw is at ends in
    left.stops e (stops_first e (f (string_bytes k) (view v) a) (members_in_turn f (members_view more)) h)
