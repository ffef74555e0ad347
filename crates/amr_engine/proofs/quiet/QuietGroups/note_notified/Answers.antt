use Rattle.std.proofs.Common.{sym, subst}
use Rattle.amr_time.specs.Time.{Moment}
use Rattle.amr_config.specs.Stated.Config.{Config}
use Rattle.amr_config.specs.Routing.{HasOwnPath}
use Rattle.amr_engine.specs.State.State.{members}
use Rattle.amr_engine.specs.Quiet.{IsAllNotified}
use Rattle.amr_engine.proofs.QuietLaws.{notified_quiet}
use Rattle.amr_engine.proofs.CachedQuiet.{kept_if}
use Rattle.amr_engine.proofs.quiet.QuietGroups.note_notified.Goals as goal

pub note_quiet-requires-clause-quiet : goal.note_quiet-requires-clause-quiet
note_quiet-requires-clause-quiet c = notified_quiet c.args.store.now.state c.args.group.now c.args.at c.args.until c.requires.notified

pub returns : goal.returns
returns c =
    let s = c.args.store.now.state in
    kept_if c.insert.result c.args.self.now c.insert.new.times c.args.group.now _ s c.insert.ensures.ok c.insert.ensures.err
    (record {
      own = subst (λ (config : Config). HasOwnPath config c.args.group.now.route) c.config.ensures (c.has_own_path.ensures.0 c.if-not-has_own_path.false);
      notified = subst (λ (p : Moment × Moment). IsAllNotified s c.args.group.now p.0 p.1 (members s c.args.group.now)) (λ i. (sym c.new.ensures.from i, sym c.new.ensures.until i)) c.requires.notified;
    })
    c.requires.cache
