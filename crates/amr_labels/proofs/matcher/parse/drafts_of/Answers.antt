use Rattle.std.proofs.Common.{◌≡◌, ℕ, List, ◌+◌, length, take, Some, None, if◌then◌else◌, sym, ap, ◌∙◌, arith, chars, option_and_then}
use Rattle.std.proofs.lemmas.Iterator.{YieldsList-from_chars}
use Rattle.std.proofs.lemmas.Iterator.Consumers.{YieldsList-turn, YieldsList-end}
use Rattle.std.proofs.lemmas.List.{length_push}
use Rattle.std.proofs.Math.Seq.{take-length}
use Rattle.amr_labels.specs.Matcher.MatcherReading.{run, start, matchers_at_end, matchers_of}
use Rattle.amr_labels.proofs.MatcherLemmas.MatcherRuns.{run_more, encoded_more, encoded_front, encoded}
use Rattle.amr_labels.proofs.MatcherLemmas.MatcherFaults.{stops, cut_short}
use Rattle.amr_labels.proofs.matcher.parse.drafts_of.Goals as goal

pub overflow_add-at : goal.overflow_add-at
overflow_add-at c =
    let t = YieldsList-turn (YieldsList-from_chars c.args.text.now c.utf8.text cc) c.loop-c.yielded _ c.loop-c.yielded_by _ _ c.in-Some.c c.in-Some.is c.next.ensures.steps in
    omega (arith, encoded_more (chars c.args.text.now) (length c.loop-c.yielded) c.in-Some.c t.0 t.1, encoded_front (chars c.args.text.now) (length c.loop-c.yielded + 1), ap length (encoded c.args.text.now c.utf8.text), c.len_utf8-at.ensures.len, c.loop-c.invariant.counted)

pub loop-c-preserved : goal.loop-c-preserved
loop-c-preserved c =
    let t = YieldsList-turn (YieldsList-from_chars c.args.text.now c.utf8.text cc) c.loop-c.yielded _ c.loop-c.yielded_by _ _ c.in-Some.c c.in-Some.is c.next.ensures.steps in
    let more = length_push c.loop-c.yielded c.in-Some.c in
    record {
      reached = rw more (run_more (chars c.args.text.now) (length c.loop-c.yielded) c.in-Some.c c.loop-c.reader t.0 t.1 c.loop-c.invariant.reached ∙ c.in_ok-goes_on.ensures ∙ ap (λ b. if b then Some c.read.new.self else None) c.if-not-goes_on.false);
      counted = rw more (omega (arith, encoded_more (chars c.args.text.now) (length c.loop-c.yielded) c.in-Some.c t.0 t.1, c.len_utf8-at.ensures.len, c.loop-c.invariant.counted));
    }

pub returns-then-not-goes_on-clause-refused : goal.returns-then-not-goes_on-clause-refused
unfolding matchers_of
returns-then-not-goes_on-clause-refused c =
    let t = YieldsList-turn (YieldsList-from_chars c.args.text.now c.utf8.text cc) c.loop-c.yielded _ c.loop-c.yielded_by _ _ c.in-Some.c c.in-Some.is c.next.ensures.steps in
    stops (chars c.args.text.now) (length c.loop-c.yielded) c.in-Some.c c.loop-c.at c.loop-c.reader t.0 t.1 c.loop-c.invariant.reached (c.in_ok-goes_on.ensures ∙ ap (λ b. if b then Some c.read.new.self else None) c.if-not-goes_on.true) c.loop-c.invariant.counted

abbrev all_read : (cs ys : List ℕ) → length ys ≡ length cs → take (length ys) cs ≡ cs
all_read cs ys e = ap (λ n. take n cs) e ∙ take-length cs

pub returns-in-Some-2-clause-read : goal.returns-in-Some-2-clause-read
unfolding matchers_of
returns-in-Some-2-clause-read c =
    let t = YieldsList-end (YieldsList-from_chars c.args.text.now c.utf8.text cc) c.loop-c.yielded _ c.loop-c.yielded_by _ _ c.in-None.is c.next.ensures.steps in
    let whole = all_read (chars c.args.text.now) c.loop-c.yielded t.1 in
    ap (option_and_then matchers_at_end) (ap (run (Some start)) (sym whole) ∙ c.loop-c.invariant.reached) ∙ rw c.in-Some-2.is at (sym c.in_ok-drafts.ensures)

pub returns-in-None-2-clause-refused : goal.returns-in-None-2-clause-refused
unfolding matchers_of
returns-in-None-2-clause-refused c =
    let t = YieldsList-end (YieldsList-from_chars c.args.text.now c.utf8.text cc) c.loop-c.yielded _ c.loop-c.yielded_by _ _ c.in-None.is c.next.ensures.steps in
    let whole = all_read (chars c.args.text.now) c.loop-c.yielded t.1 in
    cut_short (chars c.args.text.now) c.loop-c.reader (length c.args.text.now) (ap (run (Some start)) (sym whole) ∙ c.loop-c.invariant.reached) (rw c.in-None-2.is at (sym c.in_ok-drafts.ensures)) (ap length (sym (encoded c.args.text.now c.utf8.text)))
