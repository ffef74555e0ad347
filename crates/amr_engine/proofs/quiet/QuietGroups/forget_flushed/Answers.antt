use Rattle.std.proofs.Common.{◌<◌, length, sym, subst, arith}
use Rattle.amr_config.specs.Stated.Config.{Config}
use Rattle.amr_config.specs.Routing.{HasOwnPath}
use Rattle.amr_engine.specs.Flush.{flush}
use Rattle.amr_engine.proofs.QuietStays.{flush_leaves}
use Rattle.amr_engine.proofs.CachedQuiet.{flushed_alone, outlasts_flush}
use Rattle.amr_engine.proofs.quiet.QuietGroups.forget_flushed.Goals as goal

pub returns-then-has_own_path : goal.returns-then-has_own_path
returns-then-has_own_path c = λ s at same holds.
    flushed_alone c.args.self.now c.remove.new.times s c.args.group.now at (subst (λ (config : Config). HasOwnPath config c.args.group.now.route) (sym same) (c.has_own_path.ensures.0 c.if-has_own_path.true))
    c.remove.ensures holds

pub returns-then-group-route_count : goal.returns-then-group-route_count
returns-then-group-route_count c = λ s at same holds.
    let there : c.args.group.now.route < length c.args.config.now.routes = omega arith in
    c.forget_muting.ensures s (flush at c.args.group.now s) (flush_leaves c.args.group.now at s).config
    (outlasts_flush c.args.self.now s c.args.group.now at
    (λ own. absurd (cc (c.has_own_path.ensures.1 (subst (λ (config : Config). HasOwnPath config c.args.group.now.route) same own), c.if-has_own_path.false)))
    (subst (λ (config : Config). c.args.group.now.route < length config.routes) (sym same) there)) holds
