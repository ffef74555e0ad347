use Rattle.std.proofs.Common.{◌==◌, true, false, refl, sym, ◌∙◌, length}
use Rattle.amr_engine.proofs.CachedQuiet.{untimed_by}
use Rattle.amr_engine.proofs.quiet_until.is_untimed.Goals as goal

pub returns-then-is_empty : goal.returns-then-is_empty
returns-then-is_empty c =
    untimed_by c.args.config.now c.args.route c.route-settings.result.now true c.is_empty-then-is_empty.result c.route-settings.ensures.value (sym c.if-is_empty.true ∙ c.is_empty.ensures)
    c.is_empty-then-is_empty.ensures

pub returns-else-is_empty : goal.returns-else-is_empty
returns-else-is_empty c =
    c.if-is_empty.false
    ∙ untimed_by c.args.config.now c.args.route c.route-settings.result.now false (length c.route-settings.result.now.mute_time_intervals == 0) c.route-settings.ensures.value
    (sym c.if-is_empty.false ∙ c.is_empty.ensures) refl
