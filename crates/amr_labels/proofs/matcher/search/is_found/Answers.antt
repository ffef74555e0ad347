use Rattle.std.proofs.Common.{Some, None, is_some, sym, ap, ◌∙◌, arith}
use Rattle.regex_meta.specs.Programs.{pattern_of}
use Rattle.amr_labels.proofs.MatcherLemmas.BetweenCharacters.{found_in, nothing_found, found_whole, goes_on}
use Rattle.amr_labels.proofs.matcher.search.is_found.Goals as goal

pub returns-in_default-clause-found : goal.returns-in_default-clause-found
returns-in_default-clause-found c =
    sym (ap is_some c.loop-from.invariant.1 ∙ nothing_found (pattern_of c.args.searcher.now.program.now) c.args.value.now c.loop-from.at
    (found_in _ _ _ _ _ None c.loop-from.invariant.2 c.as_bytes.ensures.value c.in_default.ensures.found))

pub returns-then-is_char_boundary-clause-found : goal.returns-then-is_char_boundary-clause-found
returns-then-is_char_boundary-clause-found c =
    sym (ap is_some c.loop-from.invariant.1 ∙ found_whole (pattern_of c.args.searcher.now.program.now) c.args.value.now c.loop-from.at _ _
    (found_in _ _ _ _ _ (Some (c.in-Some.from, c.in-Some.field-0-1)) c.loop-from.invariant.2 c.as_bytes.ensures.value c.in-Some.ensures.found)
    (c.is_char_boundary.ensures.test.0 c.if-is_char_boundary.true))

pub loop-from-preserved : goal.loop-from-preserved
loop-from-preserved c =
    let on = goes_on _ _ _ c.args.value.now c.loop-from.at c.in-Some.from c.in-Some.field-0-1 _ c.loop-from.invariant.2
    c.as_bytes.ensures.value c.in-Some.ensures.found c.is_char_boundary.ensures.test c.if-is_char_boundary.false in
    (omega arith, c.loop-from.invariant.1 ∙ on.2, c.in-Some.ensures.same ∙ c.loop-from.invariant.2)
