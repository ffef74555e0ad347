use Rattle.std.proofs.Common.{◌∙◌, ◌++◌, ◌∷◌, [], None, ap, subst, arith}
use Rattle.std.proofs.Math.Logic.{⊎_map}
use Rattle.amr_tables.specs.Heap.{IsInHeap}
use Rattle.amr_tables.specs.Earliest.{Earliest, changed_back}
use Rattle.amr_tables.proofs.Queueing.{held_last, kept_last}
use Rattle.amr_tables.proofs.Firsts.{held_shorter}
use Rattle.amr_tables.proofs.earliest.Earliest.insert.Goals as goal

pub returns-then-not-is_after-clause-held : goal.returns-then-not-is_after-clause-held
returns-then-not-is_after-clause-held g c =
    held_last (g.S.Schedule.moments c.args.schedule.now) c.args.standing c.requires.current c.args.self.now _ (ap (λ (x : Earliest). x.rest) c.self.view_is)
    (c.push_back_reserved.ensures.items ∙ ap (λ (x : Earliest). x.queue ++ c.args.standing ∷ []) c.self.view_is)

pub returns-then-not-is_after-clause-kept : goal.returns-then-not-is_after-clause-kept
returns-then-not-is_after-clause-kept g c =
    kept_last (g.S.Schedule.moments c.args.schedule.now) c.args.standing c.requires.current c.args.self.now _ (ap (λ (x : Earliest). x.rest) c.self.view_is) (g.S.Schedule.rank c.args.schedule.now)
    (c.push_back_reserved.ensures.items ∙ ap (λ (x : Earliest). x.queue ++ c.args.standing ∷ []) c.self.view_is)
    (grind (arith, c.last.ensures, c.is_after.ensures, c.if-not-is_after.true)) c.requires.kept

pub insert_before-requires-clause-kept : goal.insert_before-requires-clause-kept
insert_before-requires-clause-kept g c =
    c.drop_last.ensures.kept (g.S.Schedule.rank c.args.schedule.now) (changed_back (g.S.Schedule.moments c.args.schedule.now) c.args.standing.number None) (λ s at. grind (arith, at)) c.requires.kept

pub returns-clause-held : goal.returns-clause-held
returns-clause-held g c = λ n held.
    ⊎_map (held_shorter c.args.self.now c.drop_last.new.self (λ s. subst (λ h. IsInHeap h s) c.drop_last.ensures.rest) c.drop_last.ensures.queue n) (λ same. same) (c.insert_before.ensures.held n held)
