use Rattle.std.proofs.Common.{◌∙◌, sym, ap, subst, append-nil, arith}
use Rattle.amr_tables.specs.Earliest.{Earliest, IsOutdated}
use Rattle.amr_tables.proofs.Queueing.{last_leaves, stands_more}
use Rattle.amr_tables.proofs.earliest.Earliest.drop_last.Goals as goal

pub loop-self-preserved : goal.loop-self-preserved
loop-self-preserved g c =
    let now = g.S.Schedule.moments c.args.schedule.now in
    let rest = ap (λ (x : Earliest). x.rest) c.self.view_is in
    let items = ap (λ (x : Earliest). x.queue) (sym c.self.view_is) ∙ c.pop_back.ensures.items in
    record {
      rest = rest ∙ c.loop-self.invariant.rest;
      queue = λ s stands. c.loop-self.invariant.queue s (grind (arith, items, stands, stands_more c.pop_back.new.self.items, append-nil c.pop_back.new.self.items));
      kept = λ rank moments among kept. last_leaves now rank rest _ moments among items (subst (IsOutdated now) c.last.ensures (c.is_outdated.ensures.outdated c.loop-self-test.true)) (c.loop-self.invariant.kept rank moments among kept);
    }
