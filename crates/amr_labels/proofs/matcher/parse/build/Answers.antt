use Rattle.std.proofs.Common.{List, suc, take, drop, sym}
use Rattle.std.proofs.lemmas.Result.{err_from_is_err_and}
use Rattle.std.proofs.Math.Seq.{split_at}
use Rattle.amr_labels.specs.Matcher.Matchers.{Matcher}
use Rattle.amr_labels.specs.declared.matcher.error.MatcherError.{MatcherError}
use Rattle.amr_labels.specs.declared.matcher.error.MatcherError.TheVariants.{Memory, BadMatcher, BadPattern}
use Rattle.amr_labels.specs.Matcher.MatcherRefusals.{MayBeRefused, OneMayBeRefused, RefusedOnlyIf}
use Rattle.amr_labels.proofs.matcher.parse.build.Goals as goal

-- if Q follows from P, what is refused only if P holds is refused only if Q holds
refused_more : (P Q : Type 0) → (P → Q) → (error : MatcherError) → RefusedOnlyIf P error → RefusedOnlyIf Q error
refused_more P Q more Memory refused = tt
refused_more P Q more (BadMatcher at) refused = refused
refused_more P Q more BadPattern refused = more refused

pub returns-in_err-matcher-clause-refused : goal.returns-in_err-matcher-clause-refused
returns-in_err-matcher-clause-refused c =
    let xs : List Matcher = c.args.drafts.now in
    let i = c.loop-draft.draft-index in
    let p = err_from_is_err_and c.from_residual.result c.from_residual.ensures.1 in
    let parts = rw (sym c.draft-item.is) at (split_at xs i c.draft-item.result c.loop-draft-test.true) in
    rw (p.1, p.2) (refused_more (MayBeRefused c.draft-item.result) (OneMayBeRefused xs) (λ refused. (take i xs, drop (suc i) xs, c.draft-item.result, parts, refused)) c.in_err-matcher.field-0.0 c.in_err-matcher.ensures.refused)
