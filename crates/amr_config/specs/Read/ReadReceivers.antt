-- Reading the receivers of a configuration, by key in byte order.
use Rattle.std.specs.Prelude.{ℕ, ◌+◌, ◌-◌, List, [], ◌∷◌, ◌++◌, length, Bool, true, false, Option, Some, None, codes, unwrap_or, if◌then◌else◌, not, ◌||◌, take, nat_eq, ◌==◌}
use Rattle.std.specs.List.{ends_with}
use Rattle.std.specs.Option.{option_or}
use Rattle.std.specs.Ordering.{match_ordering, eq_by_cmp, is_gt}
use Rattle.serde_json.specs.Data.{Data}
use Rattle.amr_labels.specs.Labels.{Text, text_cmp}
use Rattle.amr_config.specs.declared.stated.receiver.Integration.{Integration}
use Rattle.amr_config.specs.declared.stated.receiver.Receiver.{Receiver}
use Rattle.amr_config.specs.Read.Paths.{under, item_path}
use Rattle.amr_config.specs.Read.Members.{unless_null, optional, optional_member, required_member, or_faulty, text_at, flag_at, items_at, members_at}
use Rattle.amr_config.specs.Read.Readings.{Reading, give, faulty, ◌>>=◌, items_in_turn, members_in_turn}

abbrev pub same_text : Text → Text → Bool
same_text = eq_by_cmp text_cmp

-- the integrations that send resolved alerts by default
unfoldable pub is_sender : Text → Bool
is_sender kind = same_text kind (codes "webhook") || same_text kind (codes "pagerduty") || same_text kind (codes "opsgenie") || same_text kind (codes "victorops") || same_text kind (codes "pushover")

-- the integrations that omit resolved alerts by default
unfoldable pub is_keeper : Text → Bool
is_keeper kind = same_text kind (codes "email") || same_text kind (codes "slack")

-- the default of `send_resolved` for an integration's name, if it has one
unfoldable pub default_of : Text → Option Bool
default_of kind = if is_sender kind then Some true else (if is_keeper kind then Some false else None)

-- the next entry of a list, added to those before it: an object that states `send_resolved`, or
-- whose integration has a default
unfoldable pub entry_into : Text → List ℕ → ℕ → Data → List Integration → Reading (List Integration)
entry_into kind path i d integrations = do
  whole ← members_at (item_path path i) d
  said ← optional_member flag_at (item_path path i) (codes "send_resolved") d
  sends ← or_faulty (item_path path i) (option_or said (default_of kind))
  give (integrations ++ record { kind = kind; place = i; send_resolved = sends } ∷ [])

unfoldable pub entries_at : Text → List ℕ → Data → Reading (List Integration)
entries_at kind path d = items_at path d >>= λ ds. items_in_turn (entry_into kind path) 0 ds []

-- whether a key sorts before the key `name`, or after it
unfoldable pub is_on_side : Bool → Text → Bool
is_on_side before key = match_ordering (text_cmp key (codes "name")) before false (not before)

-- the integration's name in a key
unfoldable pub kind_key : Text → Option Text
kind_key key = if ends_with nat_eq key (codes "_configs") then Some (take (length key - 8) key) else None

-- the entries of a member, which may be null
unfoldable pub stated_entries : Text → List ℕ → Data → Reading (List Integration)
stated_entries kind path d = optional (entries_at kind path) (unless_null (Some d)) >>= λ found. give (unwrap_or found [])

-- the integrations of one name, inserted before the first of a greater name
abbrev pub with_entries : List Integration → Text → List Integration → List Integration
with_entries [] kind entries = entries
with_entries (x ∷ xs) kind entries = if is_gt (text_cmp x.kind kind) then entries ++ x ∷ xs else x ∷ with_entries xs kind entries

-- the index of the first integration with a greater name
abbrev pub index_after : List Integration → Text → ℕ
index_after [] kind = 0
index_after (x ∷ xs) kind = if is_gt (text_cmp x.kind kind) then 0 else index_after xs kind + 1

abbrev pub entries_under : List ℕ → Data → List Integration → Option Text → Reading (List Integration)
entries_under path d integrations None = give integrations
entries_under path d integrations (Some kind) = stated_entries kind path d >>= λ entries. give (with_entries integrations kind entries)

-- a member whose key sorts on that side of `name`, if the key names an integration
unfoldable pub kind_into : Bool → List ℕ → Text → Data → List Integration → Reading (List Integration)
kind_into before path key d integrations = if is_on_side before key then entries_under (under path key) d integrations (kind_key key) else give integrations

-- all integrations whose keys sort on that side of `name`
unfoldable pub kinds_at : Bool → List ℕ → Data → List Integration → Reading (List Integration)
kinds_at before path d integrations = members_at path d >>= λ members. members_in_turn (kind_into before path) members integrations

-- a text that isn't empty
unfoldable pub name_at : List ℕ → Data → Reading Text
name_at path d = text_at path d >>= λ text. if length text == 0 then faulty path else give text

-- the integrations whose keys sort before `name`, then the name, then the other integrations
unfoldable pub receiver_at : List ℕ → Data → Reading Receiver
receiver_at path d = do
  first ← kinds_at true path d []
  name ← required_member name_at path (codes "name") d
  all ← kinds_at false path d first
  give (record { name = name; integrations = all })

unfoldable pub receiver_into : List ℕ → ℕ → Data → List Receiver → Reading (List Receiver)
receiver_into path i d receivers = receiver_at (item_path path i) d >>= λ receiver. give (receivers ++ receiver ∷ [])

unfoldable pub receivers_list : List ℕ → Data → Reading (List Receiver)
receivers_list path d = items_at path d >>= λ ds. items_in_turn (receiver_into path) 0 ds []

-- the receivers of a whole configuration; the member may be absent
unfoldable pub receivers_at : Data → Reading (List Receiver)
receivers_at d = optional_member receivers_list [] (codes "receivers") d >>= λ found. give (unwrap_or found [])
