use Rattle.amr_engine.proofs.CachedQuiet.{still_by}
use Rattle.amr_engine.proofs.quiet_until.still_until.Goals as goal

pub returns : goal.returns
returns c =
    still_by c.args.store.now.state c.args.at c.silence_turn-until.result c.alert_end.result c.alert_end.ensures.within c.silence_turn-until.ensures.still c.alert_end.ensures.still
