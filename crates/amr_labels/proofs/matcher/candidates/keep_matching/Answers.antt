use Rattle.std.proofs.Common.{◌≡◌, ◌∙◌, ◌+◌, ◌∷◌, drop, sym, ap}
use Rattle.std.proofs.lemmas.List.{drop_more, drop_all}
use Rattle.amr_labels.specs.Matcher.Candidates.{kept_by_all}
use Rattle.amr_labels.proofs.MatcherLemmas.Asking.{kept_by_none, kept_by_first}
use Rattle.amr_labels.proofs.matcher.candidates.keep_matching.Goals as goal

pub loop-matcher-preserved : goal.loop-matcher-preserved
loop-matcher-preserved c =
    let matchers = c.args.matchers.now in
    let label_sets = c.args.label_sets.now in
    let index = c.loop-matcher.matcher-index in
    let matcher = c.matcher-item.result in
    let next : drop index matchers ≡ matcher ∷ drop (index + 1) matchers =
    drop_more matchers index matcher c.loop-matcher-test.true ∙ ap (λ first. first ∷ drop (index + 1) matchers) (sym c.matcher-item.is) in
    ap (kept_by_all (drop (index + 1) matchers) label_sets) c.in_ok-keep.ensures
    ∙ kept_by_first matcher (drop (index + 1) matchers) label_sets c.loop-matcher.candidates
    ∙ ap (λ left. kept_by_all left label_sets c.loop-matcher.candidates) (sym next)
    ∙ c.loop-matcher.invariant

pub returns : goal.returns
returns c =
    sym (kept_by_none c.args.label_sets.now c.loop-matcher.candidates)
    ∙ ap (λ left. kept_by_all left c.args.label_sets.now c.loop-matcher.candidates) (sym (drop_all _ _ c.loop-matcher-test.false))
    ∙ c.loop-matcher.invariant
