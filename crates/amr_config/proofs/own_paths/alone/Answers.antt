use Rattle.std.proofs.Common.{refl}
use Rattle.amr_config.proofs.OwnPaths.{alone_seen, alone_unseen}
use Rattle.amr_config.proofs.own_paths.alone.Goals.{then-first-index+in_ok-push, else-first-index+in_ok-push-2}
use Rattle.amr_config.proofs.own_paths.alone.Goals as goal

pub loop-index-preserved : goal.loop-index-preserved
loop-index-preserved c = elim c.if-first-index.branch [
  | then-first-index+in_ok-push w ↦
      rw (w.alone-is, w.in_ok-push.ensures.items) (alone_seen c.args.numbers.now c.requires c.loop-index.index c.loop-index-test.true c.loop-index.alone.items c.loop-index.invariant _ refl w.if-first-index.true)
  | else-first-index+in_ok-push-2 w ↦
      rw (w.alone-is, w.in_ok-push-2.ensures.items) (alone_unseen c.args.numbers.now c.requires c.loop-index.index c.loop-index-test.true c.loop-index.alone.items c.loop-index.invariant w.if-first-index.false)
]
