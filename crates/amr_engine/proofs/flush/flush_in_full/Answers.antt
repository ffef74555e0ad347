use Rattle.amr_engine.proofs.Notifying.{through_after}
use Rattle.amr_engine.proofs.flush.flush_in_full.Goals as goal

pub run_pipeline-requires : goal.run_pipeline-requires
run_pipeline-requires c =
    through_after c.args.store.now.state c.reset_timer.new.store.state c.args.at c.args.group.now c.args.members.now c.args.through.now c.in_ok-reset_timer.ensures.ok c.requires.through
