use Rattle.std.proofs.Common.{◌≡◌, ◌∙◌, length, ◌++◌, take, drop, map, ap, arith, rules}
use Rattle.std.proofs.lemmas.Grind.{common_steps}
use Rattle.amr_labels.specs.Matcher.Candidates.{candidates_by_bits, kept_by_all}
use Rattle.amr_labels.specs.Matcher.ValueBits.{value_bits, required_bits}
use Rattle.amr_labels.proofs.MatcherLemmas.Asking.{asked_each}
use Rattle.amr_labels.proofs.matcher.candidates.match_each.Goals as goal

pub returns : goal.returns
returns c =
    let label_sets = c.args.label_sets.now in
    let matchers = c.args.matchers.now in
    let begun = c.in_ok-candidates.candidates in
    let kept = c.keep_matching.new.candidates in
    let first : begun.items ≡ candidates_by_bits (required_bits matchers) (map value_bits label_sets) =
    c.in_ok-candidates.ensures ∙ (λ i. candidates_by_bits (c.required_bits.ensures i) (c.requires i)) in
    let written : take begun.len (kept ++ drop (length kept) begun.items) ≡ kept = first_of (search rules, grind (arith, common_steps)) in
    let asked : kept ≡ kept_by_all matchers label_sets begun.items = c.in_ok-keep_matching.ensures ∙ ap (kept_by_all matchers label_sets) c.as_mut_slice.ensures.value in
    written ∙ asked ∙ ap (kept_by_all matchers label_sets) first ∙ asked_each matchers label_sets
