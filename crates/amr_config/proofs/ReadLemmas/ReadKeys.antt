-- In a value that is read from a text each object has each key once, in order.
use Rattle.std.proofs.Common.{◌≡◌, ℕ, List, Option, Some, None, refl, option_and_then, Ordering, Less, Equal, Greater, arith}
use Rattle.std.specs.Cmp.Lexicographic.{nat_list_cmp_total}
use Rattle.std.specs.Ordering.{match_ordering}
use Rattle.std.proofs.lemmas.Option.{none-some}
use Rattle.json.specs.Json as json
use Rattle.serde_json.specs.Data.{Data, Items, Members, no_members, member, put}
use Rattle.serde_json.specs.Read.{of_json, of_items, of_members, read}
use Rattle.amr_labels.specs.Labels.{Text, text_cmp}
use Rattle.amr_config.specs.Read.Keys.{IsBelow, AreInOrder, HasOrderedKeys, HaveOrderedKeys, AllHaveOrderedKeys}

below_trans : (a b : Text) (ms : Members) → text_cmp a b ≡ Less → IsBelow b ms → IsBelow a ms
below_trans a b no_members less below = tt
below_trans a b (member k d ms) less below = (nat_list_cmp_total.trans a b k less below.0, below_trans a b ms less below.1)

-- what is so of each of three, is so of the one that an ordering picks
pub by_order : {X : Type 0} (P : X → Type 0) (o : Ordering) (x y z : X) → (o ≡ Less → P x) → (o ≡ Equal → P y) → (o ≡ Greater → P z) → P (match_ordering o x y z)
by_order P Less x y z less equal greater = less refl
by_order P Equal x y z less equal greater = equal refl
by_order P Greater x y z less equal greater = greater refl

put_below : (a k : Text) (d : Data) (ms : Members) → text_cmp a k ≡ Less → IsBelow a ms → IsBelow a (put k d ms)
put_below a k d no_members less below = (less, tt)
put_below a k d (member l e ms) less below = grind (arith, put_below a k d ms)

put_in_order : (k : Text) (d : Data) (ms : Members) → AreInOrder ms → AreInOrder (put k d ms)
put_in_order k d no_members order = (tt, tt)
put_in_order k d (member l e ms) order = grind (arith, below_trans k l ms, put_below l k d ms, put_in_order k d ms, nat_list_cmp_total.antisymm l k)

put_ordered : (k : Text) (d : Data) (ms : Members) → HasOrderedKeys d → AllHaveOrderedKeys ms → AllHaveOrderedKeys (put k d ms)
put_ordered k d no_members one all = (one, tt)
put_ordered k d (member l e ms) one all = grind (arith, put_ordered k d ms)

chained : {A B : Type 0} (f : A → Option B) (o : Option A) (b : B) → option_and_then f o ≡ Some b → (a : A) × (o ≡ Some a) × (f a ≡ Some b)
chained f None b e = absurd (none-some b e)
chained f (Some a) b e = (a, refl, e)

mutual
  value_ordered : (j : json.Json) (d : Data) → of_json j ≡ Some d → HasOrderedKeys d
  value_ordered (json.array js) d e = grind (arith, items_ordered js)
  value_ordered (json.object ms) d e = grind (arith, members_ordered ms no_members)
  value_ordered j d e = grind arith

  items_ordered : (js : json.Items) (ds : Items) → of_items js ≡ Some ds → HaveOrderedKeys ds
  items_ordered json.no_items ds e = grind arith
  items_ordered (json.item j js) ds e = grind (arith, value_ordered j, items_ordered js)

  members_ordered : (ms : json.Members) (before after : Members) → of_members ms before ≡ Some after → AreInOrder before → AllHaveOrderedKeys before → AreInOrder after × AllHaveOrderedKeys after
  members_ordered json.no_members before after e order all = grind arith
  members_ordered (json.member k j ms) before after e order all =
      let (d, is, rest) = chained (λ d. of_members ms (put k d before)) (of_json j) after e in
      members_ordered ms (put k d before) after rest (put_in_order k d before order) (put_ordered k d before (value_ordered j d is) all)

pub read_ordered : (text : List ℕ) (d : Data) → read text ≡ Some d → HasOrderedKeys d
read_ordered text d e = grind (arith, value_ordered)
