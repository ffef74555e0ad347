-- The integrations of receivers that are read go by kind, and then by place.
use Rattle.std.specs.List.{list_all}
use Rattle.std.proofs.lemmas.Option.{none-some, same_Some}
use Rattle.serde_json.specs.Find.{get_member, as_object}
use Rattle.amr_config.specs.Read.Members.{member_of, unless_null}
use Rattle.std.proofs.Common.{◌≡◌, inl, inr, ◌⊎◌, ◌≢◌, ℕ, ◌+◌, ◌-◌, Bool, true, false, List, [], ◌∷◌, ◌++◌, length, drop, Option, Some, None, Result, Ok, refl, sym, ap, ◌∙◌, arith, codes, unwrap_or, append-nil, take-append-drop, Less, Greater, Contains}
use Rattle.std.proofs.lemmas.List.Elements.{Contains-append_cases, Contains-append_right}
use Rattle.std.proofs.lemmas.Cmp.{tied_itself}
use Rattle.std.proofs.lemmas.Bool.{and_from, and_parts}
use Rattle.std.specs.Cmp.Lexicographic.{nat_list_cmp_total, same_text}
use Rattle.serde_json.specs.Data.{Data, array, object, Items, no_items, item, Members, no_members, member}
use Rattle.amr_labels.specs.Labels.{Text, text_cmp, text_cmp-IsAntisymmetric}
use Rattle.amr_config.specs.declared.stated.receiver.Integration.{Integration}
use Rattle.amr_config.specs.declared.stated.receiver.Receiver.{Receiver}
use Rattle.amr_config.specs.Read.ReadReceivers.{is_on_side, kind_key, with_entries, receivers_at}
use Rattle.amr_config.specs.Read.ReadIntervals.{intervals_at}
use Rattle.amr_config.specs.Read.Timeout.{timeout_at}
use Rattle.amr_config.specs.Read.ReadRules.{rules_at}
use Rattle.amr_config.specs.Read.ReadRoutes.{routes_at}
use Rattle.amr_config.proofs.ReadLemmas.Readings.{bind_ok}
use Rattle.amr_config.specs.declared.read.error.Refusal.{Refusal}
use Rattle.amr_config.specs.declared.stated.stated.Stated.{Stated}
use Rattle.amr_config.specs.Read.Walking.{walked_at}
use Rattle.amr_config.specs.Read.Keys.{IsBelow, AreInOrder, HasOrderedKeys, HaveOrderedKeys, AllHaveOrderedKeys}
use Rattle.amr_config.specs.Read.Order.{are_in_order, goes_before}
use Rattle.amr_config.specs.Read.Table.{StatesEach, StatesIf, StatesOr, IsListOf, HasAt, IsText, IsIntegration}
use Rattle.amr_config.proofs.ReadLemmas.ReadKeys.{by_order}
use Rattle.amr_config.proofs.ReadLemmas.Judged.{told}
use Rattle.amr_config.proofs.ReadLemmas.JudgedReceivers.{HasEntries, KindFrom, kind_on, KindsFrom, entries_there, SideFrom, judged_receivers, in_with, on_side}

-- ---- the entries of a kind

abbrev Placed : Text → ℕ → List Integration → Type 0
Placed kind i [] = Unit {0}
Placed kind i (x ∷ xs) = (x.kind ≡ kind) × (x.place ≡ i) × Placed kind (i + 1) xs

each_placed : (kind : Text) (i : ℕ) (ds : Items) (xs : List Integration) → StatesEach (IsIntegration kind) i ds xs → Placed kind i xs
each_placed kind i no_items [] are = tt
each_placed kind i (item d ds) (x ∷ xs) are = (are.0.kind_is, are.0.place_is, each_placed kind (i + 1) ds xs are.1)
each_placed kind i ds xs are = absurd are

has_placed : (kind : Text) (d : Data) (entries : List Integration) → HasEntries kind d entries → Placed kind 0 entries
has_placed kind d entries (None, states, none) = rw none tt
has_placed kind d entries (Some xs, states, same) =
    let (ds, list, are) = entries_there kind d xs states in
    rw same (each_placed kind 0 ds xs are)

placed_kind : (kind : Text) (i : ℕ) (xs : List Integration) (x : Integration) → Placed kind i xs → Contains xs x → x.kind ≡ kind
placed_kind kind i [] x placed c = absurd (omega (arith, c.1))
placed_kind kind i (y ∷ ys) x placed c =
    elim (Contains-append_cases (y ∷ []) ys x c) [
      | inl (n, lt, is) ↦ grind arith
      | inr later ↦ placed_kind kind (i + 1) ys x placed.2 later
    ]

-- ---- in order

goes_with : (a : Integration) (xs : List Integration) (kind : Text) (entries : List Integration) → goes_before a xs ≡ true → text_cmp a.kind kind ≡ Less → Placed kind 0 entries → goes_before a (with_entries xs kind entries) ≡ true
goes_with a xs kind [] goes less placed = grind arith
goes_with a xs kind (e ∷ es) goes less placed = grind arith

order_append : (kind : Text) (i : ℕ) (entries xs : List Integration) → Placed kind i entries → ((e : Integration) → e.kind ≡ kind → goes_before e xs ≡ true) → are_in_order xs ≡ true → are_in_order (entries ++ xs) ≡ true
order_append kind i [] xs placed goes order = order
order_append kind i (e ∷ []) xs placed goes order = grind (arith, goes e placed.0)
order_append kind i (e ∷ f ∷ es) xs placed goes order =
    grind (arith, order_append kind (i + 1) (f ∷ es) xs placed.2 goes order, tied_itself nat_list_cmp_total kind)

order_with : (xs : List Integration) (kind : Text) (entries : List Integration) → are_in_order xs ≡ true → Placed kind 0 entries → ((x : Integration) → Contains xs x → x.kind ≢ kind) → are_in_order (with_entries xs kind entries) ≡ true
order_with [] kind entries order placed apart = rw append-nil at (order_append kind 0 entries [] placed (λ e is. refl) refl)
order_with (x ∷ xs) kind entries order placed apart =
    let parts = and_parts (goes_before x xs) (are_in_order xs) order in
    let rest = order_with xs kind entries parts.1 placed (λ y c. apart y (Contains-append_right (x ∷ []) xs y c)) in
    let other = apart x (0, omega arith, refl) in
    let before : text_cmp x.kind kind ≡ Greater → are_in_order (entries ++ x ∷ xs) ≡ true = λ above. order_append kind 0 entries (x ∷ xs) placed (λ e is. grind (arith, nat_list_cmp_total.antisymm x.kind kind)) order in
    grind (arith, goes_with x xs kind entries, text_cmp-IsAntisymmetric x.kind kind)

-- ---- the keys that name kinds

key_of_kind : (key name : Text) → kind_key key ≡ Some name → key ≡ name ++ codes "_configs"
unfolding kind_key
key_of_kind key name e =
    grind (arith, same_text (codes "_configs") (drop (length key - 8) key), take-append-drop (length key - 8) key)

one_key : (key other name : Text) → kind_key key ≡ Some name → kind_key other ≡ Some name → key ≡ other
one_key key other name e f = key_of_kind key name e ∙ sym (key_of_kind other name f)

not_both : (key : Text) → is_on_side true key ≡ true → is_on_side false key ≡ true → ⊥
unfolding is_on_side
not_both key first second = grind arith

-- the integration is of a key that comes before these, or is on the first side and these are on the other
record IsPast (side : Bool) (ms : Members) (x : Integration) : Type 0 where
  key : Text
  names_kind : kind_key key ≡ Some x.kind
  past : ((is_on_side side key ≡ true) × IsBelow key ms) ⊎ ((is_on_side true key ≡ true) × (side ≡ false))

abbrev ArePast : Bool → Members → List Integration → Type 0
ArePast side ms xs = (x : Integration) → Contains xs x → IsPast side ms x

past_one : (side : Bool) (key : Text) (d : Data) (ms : Members) (x : Integration) → IsPast side (member key d ms) x → IsPast side ms x
past_one side key d ms x is = record {
  key = is.key;
  names_kind = is.names_kind;
  past = elim is.past [ inl before ↦ inl (before.0, before.1.1) | inr first ↦ inr first ];
}

-- an integration that is past a member is of another kind
past_apart : (side : Bool) (key : Text) (d : Data) (ms : Members) (x : Integration) (kind : Text) → IsPast side (member key d ms) x → kind_on side key ≡ Some kind → x.kind ≢ kind
past_apart side key d ms x kind is on same =
    let (there, names) = on_side side key kind on in
    let one : is.key ≡ key = one_key is.key key x.kind is.names_kind (names ∙ ap (λ n. Some n) (sym same)) in
    elim is.past [
      | inl before ↦ grind (arith, tied_itself nat_list_cmp_total key, before.1.0)
      | inr first ↦ not_both key (rw one at first.0) (rw first.1 at there)
    ]

kind_order : (side : Bool) (key : Text) (d : Data) (ms : Members) (before one : List Integration) (o : Option Text) → kind_on side key ≡ o → KindFrom o d before one → IsBelow key ms → are_in_order before ≡ true → ArePast side (member key d ms) before → (are_in_order one ≡ true) × ArePast side ms one
kind_order side key d ms before one None on same below order past = rw same (order, λ x c. past_one side key d ms x (past x c))
kind_order side key d ms before one (Some kind) on (entries, has, from) below order past =
    let placed = has_placed kind d entries has in
    let (there, names) = on_side side key kind on in
    rw from (
      order_with before kind entries order placed (λ x c. past_apart side key d ms x kind (past x c) on),
      λ x c. elim (in_with before kind entries x c) [
        | inl old ↦ past_one side key d ms x (past x old)
        | inr new ↦ record { key = key; names_kind = names ∙ ap (λ n. Some n) (sym (placed_kind kind 0 entries x placed new)); past = inl (there, below) }
      ],
    )

kinds_order : (side : Bool) (ms : Members) (before after : List Integration) → KindsFrom side ms before after → AreInOrder ms → are_in_order before ≡ true → ArePast side ms before → (are_in_order after ≡ true) × ArePast side no_members after
kinds_order side no_members before after same below order past = rw same (order, past)
kinds_order side (member key d ms) before after (one, first, rest) below order past =
    let (order_one, past_those) = kind_order side key d ms before one (kind_on side key) refl first below.0 order past in
    kinds_order side ms one after rest below.1 order_one past_those

-- past the first side, they are past any of the other
past_side : (ms : Members) (x : Integration) → IsPast true no_members x → IsPast false ms x
past_side ms x is = record { key = is.key; names_kind = is.names_kind; past = elim is.past [ inl before ↦ inr (before.0, refl) | inr none ↦ cc ] }

-- ---- receivers

object_ordered : (d : Data) (ms : Members) → HasOrderedKeys d → as_object d ≡ Some ms → AreInOrder ms
object_ordered d ms order e = grind arith

-- the integrations are in order if the keys of the value are
abbrev IsOrdered : Data → Receiver → Type 0
IsOrdered d receiver = HasOrderedKeys d → are_in_order receiver.integrations ≡ true

sides_in_order : (d : Data) (name : Text) (first all : List Integration) → SideFrom true d [] first → HasAt IsText (codes "name") d name → SideFrom false d first all → IsOrdered d (record { name = name; integrations = all })
sides_in_order d name first all (ms, is, before) has (others, are, after) order =
    let (order_first, past) = kinds_order true ms [] first before (object_ordered d ms order is) refl (λ x c. absurd (omega (arith, c.1))) in
    (kinds_order false others first all after (object_ordered d others order are) order_first (λ x c. past_side others x (past x c))).0

abbrev AreReceiversInOrder : List Receiver → Type 0
AreReceiversInOrder receivers = list_all (λ (receiver : Receiver). are_in_order receiver.integrations) receivers ≡ true

each_in_order : (i : ℕ) (ds : Items) (receivers : List Receiver) → HaveOrderedKeys ds → StatesEach (λ i. IsOrdered) i ds receivers → AreReceiversInOrder receivers
each_in_order i no_items [] order are = refl
each_in_order i (item d ds) (receiver ∷ receivers) order are = and_from _ _ (are.0 order.0) (each_in_order (i + 1) ds receivers order.1 are.1)
each_in_order i ds receivers order are = absurd are

list_in_order : (d : Data) (receivers : List Receiver) → HasOrderedKeys d → IsListOf IsOrdered d receivers → AreReceiversInOrder receivers
list_in_order (array es) receivers order (ds, is, are) = each_in_order 0 ds receivers (rw (← same_Some es ds is) order) are
list_in_order d receivers order (ds, is, are) = absurd (cc)

found_ordered : (key : Text) (ms : Members) (d : Data) → AllHaveOrderedKeys ms → get_member key ms ≡ Some d → HasOrderedKeys d
found_ordered key no_members d order e = absurd (none-some d e)
found_ordered key (member k v ms) d order e =
    by_order (λ (found : Option Data). found ≡ Some d → HasOrderedKeys d) (text_cmp key k) _ _ _
    (λ is later. found_ordered key ms d order.1 later) (λ is same. rw (← same_Some v d same) order.0) (λ is later. found_ordered key ms d order.1 later) e

present_is : (o : Option Data) (d : Data) → unless_null o ≡ Some d → o ≡ Some d
present_is o d e = grind arith

member_ordered : (key : Text) (d v : Data) → HasOrderedKeys d → member_of key d ≡ Some v → HasOrderedKeys v
unfolding member_of
member_ordered key (object ms) v order e = found_ordered key ms v order.1 (present_is (get_member key ms) v e)
member_ordered key d v order e = absurd (none-some v e)

receivers_in_order : (d : Data) (receivers : List Receiver) → HasOrderedKeys d → StatesOr [] (IsListOf IsOrdered) (codes "receivers") d receivers → AreReceiversInOrder receivers
receivers_in_order d receivers order (found, states, is) = rw is (go (member_of (codes "receivers") d) refl found states)
  where
    go : (o : Option Data) → member_of (codes "receivers") d ≡ o → (found : Option (List Receiver)) → StatesIf (IsListOf IsOrdered) o found → AreReceiversInOrder (unwrap_or found [])
    go None at None states = refl
    go (Some v) at (Some read) states = list_in_order v read (member_ordered (codes "receivers") d v order at) states
    go o at found states = absurd states

ok_same : (x y : Stated) → ◌≡◌ {A = Result Stated Refusal} (Ok x) (Ok y) → x ≡ y
ok_same x y e = cc

-- the receivers that were read with a whole configuration
walked_receivers : (d : Data) (stated : Stated) → (walked_at d).value ≡ Ok stated → (receivers_at d).value ≡ Ok stated.receivers
unfolding walked_at
walked_receivers d stated e =
    let timeout = bind_ok (timeout_at d) _ stated e in
    let rules = bind_ok (rules_at d) _ stated timeout.2 in
    let mute = bind_ok (intervals_at (codes "mute_time_intervals") d []) _ stated rules.2 in
    let receivers = bind_ok (receivers_at d) _ stated mute.2 in
    let routes = bind_ok (routes_at d) _ stated receivers.2 in
    let named = bind_ok (intervals_at (codes "time_intervals") d mute.0) _ stated routes.2 in
    let same = ok_same _ stated named.2 in
    rw (← same) receivers.1

pub walked_in_order : (d : Data) (stated : Stated) → HasOrderedKeys d → (walked_at d).value ≡ Ok stated → AreReceiversInOrder stated.receivers
walked_in_order d stated order e =
    receivers_in_order d stated.receivers order (told _ _ _ stated.receivers (walked_receivers d stated e) (judged_receivers IsOrdered sides_in_order d).tells)
