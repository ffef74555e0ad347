use Rattle.std.proofs.Common.{ap, take}
use Rattle.std.proofs.lemmas.Result.{IfOk-weaker}
use Rattle.amr_engine.specs.Told.{LogIsNotified}
use Rattle.amr_engine.proofs.Told.{log_is_notified}
use Rattle.amr_engine.proofs.Explained.{told_is_notified}
use Rattle.amr_replay.specs.Session.{View}
use Rattle.amr_replay.proofs.session.Session.explain.Goals as goal

pub returns-clause-notified : goal.returns-clause-notified
returns-clause-notified c =
    let a = c.self.inside in
    let all : LogIsNotified a.engine.state = rw (ap (λ (v : View). v.state) c.self.invariant.view) (log_is_notified a.config (take a.cursor a.script.events)) in
    rw (← c.self.view_is) (IfOk-weaker c.explain.result _ _ (λ found is. rw is (told_is_notified a.engine.state c.args.labels.now all)) c.explain.ensures.explained)
