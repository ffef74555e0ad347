-- Paths of routes: their order, their numbers, and which of them are paths of one route alone.
use Rattle.std.specs.Prelude.{◌≡◌, refl, ℕ, ◌<◌, ◌≤◌, ◌+◌, ◌*◌, ◌%◌, ◌^◌, Bool, false, List, fold, length, get_or}
use Rattle.std.specs.Bool.{Decides}
use Rattle.std.specs.declared.cmp.Ordering.{Ordering}
use Rattle.std.specs.Cmp.{IsTotalOrder}
use Rattle.std.specs.Ordering.{eq_by_cmp}
use Rattle.std.specs.Cmp.Lexicographic.{pointwise, slice_cmp, lists_ties, lists_total}
use Rattle.std.specs.FinMap.{IsAntisymmetric, slice_cmp-IsAntisymmetric}
use Rattle.amr_labels.specs.Hashes.{text_fnv_hash}
use Rattle.amr_labels.specs.Matcher.Matchers.{Matcher, matcher_cmp, matcher_cmp_total, matcher_cmp-IsAntisymmetric}
use Rattle.amr_config.specs.Stated.Config.{Config}
use Rattle.amr_config.specs.Routing.{path_of}

-- the matchers of each route from the root down to one
abbrev pub Path : Type 0
Path = List (List Matcher)

-- route by route, then matcher by matcher
abbrev pub path_cmp : Path → Path → Ordering
path_cmp a b = slice_cmp (slice_cmp matcher_cmp) a b

pub path_cmp_total : IsTotalOrder path_cmp
path_cmp_total = lists_total (lists_total matcher_cmp_total)

pub path_cmp-IsAntisymmetric : IsAntisymmetric path_cmp
path_cmp-IsAntisymmetric = slice_cmp-IsAntisymmetric (slice_cmp-IsAntisymmetric matcher_cmp-IsAntisymmetric)

-- paths are equal, item by item, exactly if they compare as equal
pub path_ties : (a b : Path) → pointwise (pointwise (eq_by_cmp matcher_cmp)) a b ≡ eq_by_cmp path_cmp a b
path_ties = lists_ties (slice_cmp matcher_cmp) (lists_ties matcher_cmp (λ a b. refl))

-- ---- hashes of paths: only the speed of look-ups depends on them

-- the number with one more matcher
abbrev pub hash_with : ℕ → Matcher → ℕ
hash_with hash_value matcher = ((hash_value * 31 % 2 ^ 64 + text_fnv_hash matcher.name) % 2 ^ 64 * 31 % 2 ^ 64 + text_fnv_hash matcher.value) % 2 ^ 64

-- that of a path below one with this number
abbrev pub hash_below : ℕ → List Matcher → ℕ
hash_below above own = fold hash_with ((above * 31 % 2 ^ 64 + 1) % 2 ^ 64) own

-- from the root down
unfoldable pub path_hash : Path → ℕ
path_hash path = fold hash_below 0 path

-- ---- paths of one route alone

-- no route before this one has its path
abbrev pub IsFirst : Config → ℕ → Type 0
IsFirst config n = (other : ℕ) → other < n → path_of config other ≡ path_of config n → ⊥

-- this is the first route with the path of route n
pub record IsFirstLike (config : Config) (n first : ℕ) : Type 0 where
  pub within : first ≤ n
  pub same : path_of config first ≡ path_of config n
  pub is_first : IsFirst config first

-- what is said of each of the first routes is the first route with its path
pub record AreFirsts (config : Config) (limit : ℕ) (firsts : List ℕ) : Type 0 where
  pub each : (n : ℕ) → n < limit → IsFirstLike config n (get_or firsts n 0)
  pub all : length firsts ≡ limit

-- of the numbers below the limit, this one alone has its value
abbrev pub IsAlone : {X : Type 0} → (ℕ → X) → ℕ → ℕ → Type 0
IsAlone value limit n = (other : ℕ) → other < limit → value other ≡ value n → other ≡ n

-- what is said of each route is whether no other has its path
pub record AreOwn (config : Config) (own : List Bool) : Type 0 where
  pub each : (n : ℕ) → n < length config.routes → Decides (get_or own n false) (IsAlone (path_of config) (length config.routes) n)
  pub all : length own ≡ length config.routes

-- each number is an index that has it, and no later than where it stands
abbrev pub AreFirstIndexes : List ℕ → Type 0
AreFirstIndexes numbers = (n : ℕ) → n < length numbers → (get_or numbers n 0 ≤ n) × (get_or numbers (get_or numbers n 0) 0 ≡ get_or numbers n 0)

-- what is said of each index is whether no other before the limit has its number
pub record AreAlone (numbers : List ℕ) (limit : ℕ) (alone : List Bool) : Type 0 where
  pub each : (n : ℕ) → n < limit → Decides (get_or alone n false) (IsAlone (λ index. get_or numbers index 0) limit n)
  pub all : length alone ≡ limit
