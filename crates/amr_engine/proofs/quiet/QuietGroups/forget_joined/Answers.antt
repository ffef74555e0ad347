use Rattle.std.proofs.Common.{fold, ◌≡◌, ap, ◌∙◌}
use Rattle.amr_labels.specs.Map.{remove}
use Rattle.amr_engine.specs.Events.{put}
use Rattle.amr_engine.specs.CachedQuiet.{times_in, quiet_times, without_joined}
use Rattle.amr_engine.proofs.Copied.{put-config}
use Rattle.amr_engine.proofs.CachedQuiet.{joined_true, joined_outlasts}
use Rattle.amr_engine.proofs.quiet.QuietGroups.forget_joined.Goals as goal

pub returns : goal.returns
returns c = λ s alert are holds.
    let joined : times_in c.remove_all.new.times ≡ without_joined s.config (quiet_times c.args.self.now) alert.0 = c.remove_all.ensures ∙ ap (fold remove (quiet_times c.args.self.now)) are in
    c.forget_muting.ensures s (put s alert) (put-config s alert)
    (joined_outlasts c.args.self.now c.remove_all.new.times s alert joined)
    (joined_true c.args.self.now c.remove_all.new.times s alert joined holds)
