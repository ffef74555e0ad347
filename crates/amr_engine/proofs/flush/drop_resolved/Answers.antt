use Rattle.std.proofs.lemmas.Result.{on_ok_weaker}
use Rattle.std.proofs.Common.{sym, ◌∙◌, true, false}
use Rattle.amr_engine.proofs.Notifying.{dropped}
use Rattle.amr_engine.proofs.flush.drop_resolved.Goals as goal

pub returns-then-are_resolved-clause-ok : goal.returns-then-are_resolved-clause-ok
returns-then-are_resolved-clause-ok c =
    on_ok_weaker c.mark_empty.result (λ marked. marked
    ∙ dropped c.args.at c.args.group.now c.args.members.now c.args.store.now.state c.drop_each_resolved.new.store.state true (sym c.if-are_resolved.true ∙ c.are_resolved.ensures) c.in_ok-drop_each_resolved.ensures.ok)
    c.mark_empty.ensures.ok

pub returns-clause-ok : goal.returns-clause-ok
returns-clause-ok c =
    dropped c.args.at c.args.group.now c.args.members.now c.args.store.now.state c.drop_each_resolved.new.store.state false (sym c.if-are_resolved.false ∙ c.are_resolved.ensures) c.in_ok-drop_each_resolved.ensures.ok
