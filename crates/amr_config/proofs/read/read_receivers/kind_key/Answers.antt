use Rattle.std.proofs.Common.{◌≡◌, ◌-◌, List, ℕ, true, false, Option, Some, None, length, take, refl, sym, option_map, Bor, arith, ◌≤◌, ◌++◌, codes, MatchOption}
use Rattle.std.specs.Str.Pattern.{FindsTextSuffix, StripsSuffix}
use Rattle.std.proofs.lemmas.Str.Pattern.{ends_text}
use Rattle.amr_config.specs.Read.ReadReceivers.{kind_key}
use Rattle.amr_config.proofs.read.read_receivers.kind_key.Goals as goal

by_cases : (r : Option (Bor (List ℕ))) (key : List ℕ) → MatchOption r (FindsTextSuffix (codes "_configs") key None) (λ x. StripsSuffix (FindsTextSuffix (codes "_configs")) key x.now) → option_map (λ s. s.now) r ≡ kind_key key
unfolding kind_key
by_cases None key h = rw (sym (ends_text false (codes "_configs") key h)) refl
by_cases (Some x) key h =
    let k : h.0 ≡ 8 = h.1.0 in
    let le : 8 ≤ length key = omega (arith, h.3, k) in
    let e : key ≡ take (length key - 8) key ++ (codes "_configs") = rw k at h.1.1 in
    let found = ends_text true (codes "_configs") key (8, (refl, e, h.1.2), le, h.1.2) in
    rw (sym found, h.2, k) refl

pub returns : goal.returns
returns c = by_cases c.strip_suffix.result c.args.key.now c.strip_suffix.ensures.cases
