use Rattle.std.proofs.Common.{rules, sym, subst}
use Rattle.amr_engine.specs.Moves.{move}
use Rattle.amr_engine.specs.CachedQuiet.{IsTrueOf}
use Rattle.amr_engine.proofs.CachedQuiet.{stays_true}
use Rattle.amr_engine.proofs.moves.fire.Goals as goal

pub returns-in_ok-change-in-AlertRemoval-clause-ok : goal.returns-in_ok-change-in-AlertRemoval-clause-ok
unfolding move
returns-in_ok-change-in-AlertRemoval-clause-ok c = search rules

pub returns-in_ok-change-in-GroupRemoval-clause-ok : goal.returns-in_ok-change-in-GroupRemoval-clause-ok
unfolding move
returns-in_ok-change-in-GroupRemoval-clause-ok c = search rules

pub returns-in_ok-change-in-GroupRemoval-clause-cache : goal.returns-in_ok-change-in-GroupRemoval-clause-cache
returns-in_ok-change-in-GroupRemoval-clause-cache c =
    subst (IsTrueOf c.args.quiet_groups.now) (sym c.in_ok-change-in-GroupRemoval.ensures.ok)
    (stays_true c.args.store.now.state c.args.store.now.state.moment _ c.args.store.now.state.notes c.args.quiet_groups.now c.requires.cache)

pub returns-in-GroupFlush-clause-ok : goal.returns-in-GroupFlush-clause-ok
unfolding move
returns-in-GroupFlush-clause-ok c = search rules

pub returns-in-GroupFlush-clause-quiet : goal.returns-in-GroupFlush-clause-quiet
unfolding move
returns-in-GroupFlush-clause-quiet c = search rules
