use Rattle.amr_config.specs.Read.Paths.{path_text}
use Rattle.amr_config.specs.Read.ReadMatchers.{spelled_into}
use Rattle.amr_config.proofs.ReadLemmas.Readings.{stopped_into}
use Rattle.amr_config.proofs.ReadLemmas.Turns.{item_ends, item_stops}
use Rattle.amr_config.proofs.read.read_matchers.add_texts.Goals as goal

pub loop-index-preserved : goal.loop-index-preserved
loop-index-preserved c =
    item_ends (spelled_into (path_text c.args.path.now)) c.in_ok-items.items.now c.loop-index.index c.index-items-index.result c.loop-index.matchers.items _ _ c.loop-index-test.true c.index-items-index.is c.in_ok-add_text.ensures c.loop-index.invariant

pub returns-in_err-add_text : goal.returns-in_err-add_text
returns-in_err-add_text c =
    stopped_into _ _ _ _ _ c.from_residual-in_err-add_text.ensures.1 (item_stops (spelled_into (path_text c.args.path.now)) c.in_ok-items.items.now c.loop-index.index c.index-items-index.result c.loop-index.matchers.items c.in_err-add_text.field-0.0 _ c.loop-index-test.true c.index-items-index.is c.in_err-add_text.ensures c.loop-index.invariant)
