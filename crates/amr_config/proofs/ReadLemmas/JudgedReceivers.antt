-- What is read of a receiver states what is there, and a refusal is that of the first fault.
use Rattle.std.proofs.Common.{◌≡◌, ℕ, zero, suc, ◌+◌, Bool, true, false, not, ◌||◌, if◌then◌else◌, List, [], ◌∷◌, ◌++◌, length, Option, Some, None, inl, inr, ◌⊎◌, refl, sym, ap, subst, ◌∙◌, arith, codes, unwrap_or, is_some, ◌==◌, Contains, IsPermutation, is_gt}
use Rattle.std.specs.Option.{option_or, option_map_or}
use Rattle.std.proofs.lemmas.Bool.{cond_both}
use Rattle.std.proofs.lemmas.List.Elements.{Contains-append_left, Contains-append_right, Contains-append_cases}
use Rattle.std.proofs.lemmas.Option.{none-some, same_Some}
use Rattle.serde_json.specs.Data.{Data, Items, no_items, item, Members, no_members, member}
use Rattle.serde_json.specs.Find.{as_str, as_array, as_object, get_item}
use Rattle.amr_labels.specs.Labels.{Text, text_cmp, text_cmp-IsAntisymmetric}
use Rattle.amr_config.specs.declared.stated.receiver.Integration.{Integration}
use Rattle.amr_config.specs.declared.stated.receiver.Receiver.{Receiver}
use Rattle.amr_config.specs.Read.Paths.{under, item_path}
use Rattle.amr_config.specs.Read.Members.{unless_null, member_of, or_faulty, flag_at}
use Rattle.amr_config.specs.Read.Readings.{give, faulty, members_in_turn}
use Rattle.amr_config.specs.Read.ReadReceivers.{default_of, entry_into, entries_at, is_on_side, kind_key, stated_entries, with_entries, entries_under, kind_into, kinds_at, name_at, receiver_at, receiver_into, receivers_list, receivers_at}
use Rattle.amr_config.specs.Read.Table.{IsText, IsFlag, IsListOf, StatesEach, StatesIf, StatesOr, HasAt, IsIntegration, AreIntegrations, IsMember, StatesIntegration, IsReceiver}
use Rattle.amr_config.specs.Read.Faults.{unless_some, unless, flag_found, list_found, at, entry_found, entries_found, kinds_found, side_found, receiver_name_found, receiver_found}
use Rattle.std.proofs.lemmas.List.Sorted.{IsPermutation-refl, IsPermutation-sym, IsPermutation-cons, IsPermutation-append_comm, Contains-permutation}
use Rattle.amr_config.proofs.ReadLemmas.Judged.{Judged, by_findings, judged_ok, judged_then, judged_as, judged_map, judged_or_faulty, judged_optional, judged_stated, judged_needed, judged_flag, judged_object, judged_there, judged_unless, Adds, judged_list, judged_list_of}

-- ---- entries

-- an entry says what it sends, or its kind has a default
said_or_default : (path : List ℕ) (o : Option Data) (said default : Option Bool) → StatesIf IsFlag o said → unless_some path (option_or said default) ≡ unless path (is_some o || is_some default)
said_or_default path o said default states = grind arith

judged_entry : (kind : Text) (path : List ℕ) (i : ℕ) (d : Data) (integrations : List Integration) → Judged (entry_into kind path i d integrations) (entry_found kind (item_path path i) d) (Adds (IsIntegration kind) i d integrations)
unfolding entry_into
judged_entry kind path i d integrations =
    judged_then _ _ _ _ _ _ (judged_object (item_path path i) d) (λ whole object.
    judged_then _ _ _ _ _ _ (judged_stated flag_at flag_found IsFlag (item_path path i) (codes "send_resolved") d (judged_flag _)) (λ said says.
    by_findings _ (unless_some (item_path path i) (option_or said (default_of kind))) _ _ (said_or_default (item_path path i) (member_of (codes "send_resolved") d) said (default_of kind) says)
    (judged_map (or_faulty (item_path path i) (option_or said (default_of kind))) (λ sends. integrations ++ record { kind = kind; place = i; send_resolved = sends } ∷ []) _ (λ sends. option_or said (default_of kind) ≡ Some sends) _ (judged_or_faulty (item_path path i) (option_or said (default_of kind)) _ (λ sends is. is))
    (λ sends is. (record { kind = kind; place = i; send_resolved = sends }, refl, record { said = said; kind_is = refl; place_is = refl; says = says; sends = is })))))

-- ---- kinds

-- the entries of a member that may be null
abbrev pub HasEntries : Text → Data → List Integration → Type 0
HasEntries kind d integrations = (found : Option (List Integration)) × StatesIf (AreIntegrations kind) (unless_null (Some d)) found × (integrations ≡ unwrap_or found [])

-- what a member does to the integrations, if its key names a kind
abbrev pub KindFrom : Option Text → Data → List Integration → List Integration → Type 0
KindFrom None d before after = after ≡ before
KindFrom (Some kind) d before after = (entries : List Integration) × HasEntries kind d entries × (after ≡ with_entries before kind entries)

-- the kind that a key on this side names
abbrev pub kind_on : Bool → Text → Option Text
kind_on side key = if is_on_side side key then kind_key key else None

judged_named : (path : List ℕ) (d : Data) (before : List Integration) (o : Option Text) → Judged (entries_under path d before o) (entries_found path d o) (KindFrom o d before)
unfolding stated_entries entries_at
judged_named path d before None = judged_ok before _ refl
judged_named path d before (Some kind) =
    judged_map (stated_entries kind path d) (λ entries. with_entries before kind entries) _ (HasEntries kind d) (KindFrom (Some kind) d before)
    (judged_map _ (λ found. unwrap_or found []) _ _ _ (judged_optional (entries_at kind path) (list_found (entry_found kind) path) (AreIntegrations kind) (unless_null (Some d)) (λ v. judged_list (entry_into kind path) (entry_found kind) path v (IsIntegration kind) (judged_entry kind path))) (λ found states. (found, states, refl))) (λ entries has. (entries, has, refl))

judged_kind : (side : Bool) (path : List ℕ) (key : Text) (d : Data) (before : List Integration) → Judged (kind_into side path key d before) (if is_on_side side key then entries_found (under path key) d (kind_key key) else []) (KindFrom (kind_on side key) d before)
unfolding kind_into
judged_kind side path key d before =
    elim (is_on_side side key) as (λ b. Judged (if b then entries_under (under path key) d before (kind_key key) else give before) (if b then entries_found (under path key) d (kind_key key) else []) (KindFrom (if b then kind_key key else None) d before)) [
      | true ↦ judged_named (under path key) d before (kind_key key)
      | false ↦ judged_ok before _ refl
    ]

-- what the members on a side do to the integrations, one after another
abbrev pub KindsFrom : Bool → Members → List Integration → List Integration → Type 0
KindsFrom side no_members before after = after ≡ before
KindsFrom side (member key d ms) before after = (one : List Integration) × KindFrom (kind_on side key) d before one × KindsFrom side ms one after

judged_kinds : (side : Bool) (path : List ℕ) (ms : Members) (before : List Integration) → Judged (members_in_turn (kind_into side path) ms before) (kinds_found side path ms) (KindsFrom side ms before)
judged_kinds side path no_members before = judged_ok before _ refl
judged_kinds side path (member key d ms) before =
    judged_then (kind_into side path key d before) (members_in_turn (kind_into side path) ms) _ (kinds_found side path ms) (KindFrom (kind_on side key) d before) _ (judged_kind side path key d before) (λ one from.
    judged_as (members_in_turn (kind_into side path) ms one) (kinds_found side path ms) (KindsFrom side ms one) _ (judged_kinds side path ms one) (λ after rest. (one, from, rest)))

-- the members on a side of an object
abbrev pub SideFrom : Bool → Data → List Integration → List Integration → Type 0
SideFrom side d before after = (ms : Members) × (as_object d ≡ Some ms) × KindsFrom side ms before after

judged_side : (side : Bool) (path : List ℕ) (d : Data) (before : List Integration) → Judged (kinds_at side path d before) (side_found side path (as_object d)) (SideFrom side d before)
unfolding kinds_at
judged_side side path d before =
    judged_there path (as_object d) _ (side_found side path) _ refl (λ ms is.
    judged_as (members_in_turn (kind_into side path) ms before) _ _ _ (judged_kinds side path ms before) (λ after from. (ms, is, from)))

-- ---- the integrations are those that are stated

-- an integration of the entries of a member
record IsOfMember (ms : Members) (x : Integration) : Type 0 where
  key : Text
  list : Data
  kind : Text
  entries : List Integration
  is_member : IsMember key list ms
  names_kind : kind_key key ≡ Some kind
  has : HasEntries kind list entries
  within : Contains entries x

moved : (xs : List Integration) (kind : Text) (entries : List Integration) → IsPermutation (xs ++ entries) (with_entries xs kind entries)
moved [] kind entries = IsPermutation-refl entries
moved (x ∷ xs) kind entries =
    cond_both (is_gt (text_cmp x.kind kind)) _ _ (IsPermutation (x ∷ xs ++ entries)) (λ e. IsPermutation-append_comm (x ∷ xs) entries) (λ e.
    IsPermutation-cons x (xs ++ entries) (with_entries xs kind entries) (moved xs kind entries))

pub in_with : (xs : List Integration) (kind : Text) (entries : List Integration) (x : Integration) → Contains (with_entries xs kind entries) x → Contains xs x ⊎ Contains entries x
in_with xs kind entries x c = Contains-append_cases xs entries x (Contains-permutation _ _ x (IsPermutation-sym _ _ (moved xs kind entries)) c)

-- of a member that adds entries, or none
one_only : (whole : Members) (o : Option Text) (key : Text) (d : Data) (before one : List Integration) (x : Integration) → IsMember key d whole → ((kind : Text) → o ≡ Some kind → kind_key key ≡ Some kind) → KindFrom o d before one → Contains one x → Contains before x ⊎ IsOfMember whole x
one_only whole None key d before one x there names same c = inl (rw same at c)
one_only whole (Some kind) key d before one x there names (entries, has, from) c =
    elim (in_with before kind entries x (rw from at c)) [
      | inl old ↦ inl old
      | inr new ↦ inr (record { key = key; list = d; kind = kind; entries = entries; is_member = there; names_kind = names kind refl; has = has; within = new })
    ]

pub on_side : (side : Bool) (key kind : Text) → kind_on side key ≡ Some kind → (is_on_side side key ≡ true) × (kind_key key ≡ Some kind)
on_side side key kind e = grind arith

kinds_only : (side : Bool) (whole ms : Members) (before after : List Integration) (x : Integration) → ((key : Text) (d : Data) → IsMember key d ms → IsMember key d whole) → KindsFrom side ms before after → Contains after x → Contains before x ⊎ IsOfMember whole x
kinds_only side whole no_members before after x sub same c = inl (rw same at c)
kinds_only side whole (member key d ms) before after x sub (one, first, rest) c =
    elim (kinds_only side whole ms one after x (λ k e is. sub k e (inr is)) rest c) [
      | inl old ↦ one_only whole (kind_on side key) key d before one x (sub key d (inl (refl, refl))) (λ kind e. (on_side side key kind e).1) first old
      | inr new ↦ inr new
    ]

one_keeps : (o : Option Text) (d : Data) (before one : List Integration) (x : Integration) → KindFrom o d before one → Contains before x → Contains one x
one_keeps None d before one x same c = rw same c
one_keeps (Some kind) d before one x (entries, has, from) c =
    rw from (Contains-permutation _ _ x (moved before kind entries) (Contains-append_left before entries x c))

kinds_keep : (side : Bool) (ms : Members) (before after : List Integration) (x : Integration) → KindsFrom side ms before after → Contains before x → Contains after x
kinds_keep side no_members before after x same c = rw same c
kinds_keep side (member key d ms) before after x (one, first, rest) c = kinds_keep side ms one after x rest (one_keeps (kind_on side key) d before one x first c)

-- the entries of this kind
abbrev HasKind : Text → Data → List Integration → Type 0
HasKind kind d xs = (entries : List Integration) × HasEntries kind d entries × ((x : Integration) → Contains entries x → Contains xs x)

one_brings : (o : Option Text) (d : Data) (before one : List Integration) (kind : Text) → o ≡ Some kind → KindFrom o d before one → HasKind kind d one
one_brings None d before one kind is from = cc
one_brings (Some other) d before one kind is (entries, has, from) =
    let same : other ≡ kind = cc in
    (entries, rw same at has, λ x c. rw from (Contains-permutation _ _ x (moved before other entries) (Contains-append_right before entries x c)))

kinds_all : (side : Bool) (ms : Members) (before after : List Integration) (key : Text) (d : Data) (kind : Text) → IsMember key d ms → kind_on side key ≡ Some kind → KindsFrom side ms before after → HasKind kind d after
kinds_all side no_members before after key d kind there is from = absurd there
kinds_all side (member k e ms) before after key d kind (inr there) is (one, first, rest) = kinds_all side ms one after key d kind there is rest
kinds_all side (member k e ms) before after key d kind (inl (same_key, same_list)) is (one, first, rest) =
    let (entries, has, within) = subst (λ (v : Data). HasKind kind v one) same_list (one_brings (kind_on side k) e before one kind (ap (kind_on side) same_key ∙ is) first) in
    (entries, has, λ x c. kinds_keep side ms one after x rest (within x c))

-- ---- the entries of a list

entry_of : (kind : Text) (i : ℕ) (ds : Items) (xs : List Integration) (x : Integration) → StatesEach (IsIntegration kind) i ds xs → Contains xs x → (n : ℕ) × (e : Data) × (get_item n ds ≡ Some e) × IsIntegration kind (i + n) e x
entry_of kind i no_items [] x are (n, lt, is) = absurd (omega (arith, lt))
entry_of kind i (item d ds) (y ∷ ys) x are (zero, lt, is) =
    let same : i + 0 ≡ i = omega arith in
    (0, d, refl, rw same (rw (← is) are.0))
entry_of kind i (item d ds) (y ∷ ys) x are (suc n, lt, is) =
    let (m, e, at, entry) = entry_of kind (i + 1) ds ys x are.1 (n, omega (arith, lt), is) in
    let same : i + suc m ≡ i + 1 + m = omega arith in
    (suc m, e, at, rw same entry)
entry_of kind i ds xs x are c = absurd are

of_entry : (kind : Text) (i : ℕ) (ds : Items) (xs : List Integration) (n : ℕ) (e : Data) → StatesEach (IsIntegration kind) i ds xs → get_item n ds ≡ Some e → (x : Integration) × Contains xs x × IsIntegration kind (i + n) e x
of_entry kind i no_items xs n e are at = absurd (none-some e at)
of_entry kind i (item d ds) [] n e are at = absurd are
of_entry kind i (item d ds) (y ∷ ys) zero e are at =
    let same : i + 0 ≡ i = omega arith in
    (y, (0, omega arith, refl), rw same (rw (← same_Some d e at) are.0))
of_entry kind i (item d ds) (y ∷ ys) (suc n) e are at =
    let (x, (m, lt, is), entry) = of_entry kind (i + 1) ds ys n e are.1 at in
    let same : i + suc n ≡ i + 1 + n = omega arith in
    (x, (suc m, omega (arith, lt), is), rw same entry)

-- ---- a receiver

pub entries_there : (kind : Text) (v : Data) (xs : List Integration) → StatesIf (AreIntegrations kind) (unless_null (Some v)) (Some xs) → AreIntegrations kind v xs
entries_there kind v xs h = grind arith

entries_not_missing : (kind : Text) (v : Data) (ds : Items) → as_array v ≡ Some ds → StatesIf (AreIntegrations kind) (unless_null (Some v)) None → ⊥
entries_not_missing kind v ds e h = grind arith

stated_by : (d : Data) (ms : Members) (x : Integration) → as_object d ≡ Some ms → IsOfMember ms x → StatesIntegration d x
stated_by d ms x is_object is = go is.has is.within
  where
    go : HasEntries is.kind is.list is.entries → Contains is.entries x → StatesIntegration d x
    go (None, states, none) c =
        let (n, lt, at) = rw none at c in
        absurd (omega (arith, lt))
    go (Some xs, states, same) c =
        let (ds, list, are) = entries_there is.kind is.list xs states in
        let (n, e, at, entry) = entry_of is.kind 0 ds xs x are (rw same at c) in
        let place : x.place ≡ n = entry.place_is ∙ omega arith in
        record {
          members = ms;
          key = is.key;
          list = is.list;
          entries = ds;
          entry = e;
          object = is_object;
          is_member = is.is_member;
          names_kind = is.names_kind ∙ ap (λ name. Some name) (sym entry.kind_is);
          is_list = list;
          at_place = ap (λ m. get_item m ds) place ∙ at;
          is_entry = record { said = entry.said; kind_is = refl; place_is = refl; says = entry.says; sends = ap (λ name. option_or entry.said (default_of name)) entry.kind_is ∙ entry.sends };
        }

same_said : (o : Option Data) (a b : Option Bool) → StatesIf IsFlag o a → StatesIf IsFlag o b → a ≡ b
same_said o a b h k = grind arith

same_entry : (kind : Text) (i : ℕ) (e : Data) (x y : Integration) → IsIntegration kind i e x → IsIntegration kind i e y → x ≡ y
same_entry kind i e x y h k =
    let kinds : x.kind ≡ y.kind = h.kind_is ∙ sym k.kind_is in
    let places : x.place ≡ y.place = h.place_is ∙ sym k.place_is in
    let saids = same_said (member_of (codes "send_resolved") e) h.said k.said h.says k.says in
    let sends : x.send_resolved ≡ y.send_resolved = same_Some x.send_resolved y.send_resolved (sym h.sends ∙ ap (λ said. option_or said (default_of kind)) saids ∙ k.sends) in
    λ i. record { kind = kinds i; place = places i; send_resolved = sends i }

found_by : (all : List Integration) (x : Integration) (list : Data) (ds : Items) (e : Data) → as_array list ≡ Some ds → get_item x.place ds ≡ Some e → IsIntegration x.kind x.place e x → HasKind x.kind list all → Contains all x
found_by all x list ds e is_list at entry (entries, (None, states, none), within) = absurd (entries_not_missing x.kind list ds is_list states)
found_by all x list ds e is_list at entry (entries, (Some xs, states, same), within) =
    let (es, is, are) = entries_there x.kind list xs states in
    let one : es ≡ ds = same_Some es ds (sym is ∙ is_list) in
    let (y, c, stated) = of_entry x.kind 0 es xs x.place e are (ap (λ items. get_item x.place items) one ∙ at) in
    let place : 0 + x.place ≡ x.place = omega arith in
    let alike : y ≡ x = same_entry x.kind x.place e y x (rw place at stated) entry in
    within x (rw (same, ← alike) c)

on_a_side : (key kind : Text) → kind_key key ≡ Some kind → (kind_on true key ≡ Some kind) ⊎ (kind_on false key ≡ Some kind)
unfolding is_on_side kind_key
on_a_side key kind is = grind (arith, text_cmp-IsAntisymmetric key (codes "name"))

pub read_receiver : (d : Data) (name : Text) (first all : List Integration) → SideFrom true d [] first → HasAt IsText (codes "name") d name → SideFrom false d first all → IsReceiver d (record { name = name; integrations = all })
read_receiver d name first all (ms, is_object, before) has (other, also, after) =
    let same : other ≡ ms = cc in
    let later : KindsFrom false ms first all = rw same at after in
    record {
      name = has;
      only = λ x c. elim (kinds_only false ms ms first all x (λ key v is. is) later c) [
        | inl old ↦ elim (kinds_only true ms ms [] first x (λ key v is. is) before old) [ inl none ↦ absurd (omega (arith, none.1)) | inr is ↦ stated_by d ms x is_object is ]
        | inr is ↦ stated_by d ms x is_object is
      ];
      all = λ x stated.
          let at : stated.members ≡ ms = cc in
          let there : IsMember stated.key stated.list ms = rw at at stated.is_member in
          let found : HasKind x.kind stated.list all =
          elim (on_a_side stated.key x.kind stated.names_kind) [
            | inl side ↦
                let (entries, of, within) = kinds_all true ms [] first stated.key stated.list x.kind there side before in
                (entries, of, λ y c. kinds_keep false ms first all y later (within y c))
            | inr side ↦ kinds_all false ms first all stated.key stated.list x.kind there side later
          ] in
          found_by all x stated.list stated.entries stated.entry stated.is_list stated.at_place stated.is_entry found;
    }

-- what is so of each receiver that is read from its sides and its name
module _ (Is : Data → Receiver → Type 0) (holds : (d : Data) (name : Text) (first all : List Integration) → SideFrom true d [] first → HasAt IsText (codes "name") d name → SideFrom false d first all → Is d (record { name = name; integrations = all })) where
  judged_receiver : (path : List ℕ) (d : Data) → Judged (receiver_at path d) (receiver_found path d) (Is d)
  unfolding receiver_at name_at
  judged_receiver path d =
      judged_then _ _ _ _ _ _ (judged_side true path d []) (λ first before.
      judged_then _ _ _ _ _ _ (judged_needed name_at receiver_name_found IsText path (codes "name") d (λ v.
      judged_there (under path (codes "name")) (as_str v) (λ text. if length text == 0 then faulty (under path (codes "name")) else give text) (λ o. unless (under path (codes "name")) (option_map_or (λ name. not (length name == 0)) o false)) (IsText v) refl (λ text is.
      judged_unless (length text == 0) text (under path (codes "name")) (IsText v) is))) (λ name has.
      judged_map _ _ _ _ _ (judged_side false path d first) (λ all after. holds d name first all before has after)))

  pub judged_receivers : (d : Data) → Judged (receivers_at d) (at (list_found receiver_found) [] (codes "receivers") d) (StatesOr [] (IsListOf Is) (codes "receivers") d)
  unfolding receivers_at receivers_list receiver_into
  judged_receivers d =
      judged_map _ _ _ _ _ (judged_stated receivers_list (list_found receiver_found) (IsListOf Is) [] (codes "receivers") d (judged_list_of receiver_at receiver_found Is judged_receiver _)) (λ found states. (found, states, refl))
