use Rattle.std.proofs.Common.{nat_cmp, ◌≡◌, ◌≤◌, ◌<◌, ◌+◌, length, get_or, refl, ap, ◌∙◌, arith}
use Rattle.amr_tables.specs.Numbered.{map_of}
use Rattle.amr_engine.specs.declared.indexes.cached_periods.CachedPeriods.{CachedPeriods}
use Rattle.amr_engine.proofs.IndexesLemmas.CaughtUp.{left_out, left_out_one, caught_up}
use Rattle.amr_engine.proofs.indexes.cached_periods.CachedPeriods.catch_up.Goals.{After-take_in}
use Rattle.amr_engine.proofs.indexes.cached_periods.CachedPeriods.catch_up.Goals as goal

pub loop-index-init : goal.loop-index-init
loop-index-init c =
    let left = c.leave_out_ended.ensures in
    let le : c.leave_out_ended.new.self.from ≤ c.args.at = grind (arith, left) in
    (refl, refl, le, left_out c.args.at (map_of nat_cmp c.args.silences.now) c.args.changes.now c.args.self.now c.leave_out_ended.new.self c.requires.cached c.requires.before left)

more : (c : After-take_in) → c.loop-index.self.version < length c.args.changes.now
more c = let here = c.loop-index.invariant.0 in let within = c.loop-index-test.true in omega arith

change_is : (c : After-take_in) → get_or c.args.changes.now c.loop-index.self.version c.index-changes-index.result ≡ c.index-changes-index.result
change_is c = cc (c.loop-index.invariant.0, c.index-changes-index.is)

pub loop-index-preserved : goal.loop-index-preserved
loop-index-preserved c =
    let taken = c.in_ok-take_in.ensures.ok in
    let le : c.take_in.new.self.from ≤ c.args.at = grind (arith, taken, c.loop-index.invariant.2) in
    let at = (goal.at.loop-index-preserved c).After-take_in in (
      refl,
      ap (λ (k : CachedPeriods). k.labels) taken ∙ c.loop-index.invariant.1,
      le,
      caught_up (map_of nat_cmp c.args.silences.now) c.args.changes.now c.loop-index.self c.index-changes-index.result _ c.loop-index.invariant.3 (more at) (change_is at) c.requires.noted
          (λ i. record { labels = (taken i).labels; bits = (taken i).bits; from = (taken i).from; version = c.loop-index.invariant.0 i + 1; periods = (taken i).periods }),
    )

pub returns-in_err-take_in-clause-cached : goal.returns-in_err-take_in-clause-cached
returns-in_err-take_in-clause-cached c =
    let at = (goal.at.returns-in_err-take_in-clause-cached c).After-take_in in
    left_out_one (map_of nat_cmp c.args.silences.now) c.args.changes.now c.loop-index.self c.index-changes-index.result c.take_in.new.self c.loop-index.invariant.3 (more at) (change_is at)
    c.in_err-take_in.ensures.err
