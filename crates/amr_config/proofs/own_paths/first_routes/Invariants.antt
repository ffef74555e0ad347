use Rattle.amr_config.specs.Paths.{AreFirsts}
use Rattle.amr_config.specs.Settled.{stated_config}
use Rattle.amr_config.proofs.OwnPaths.{AreKnown}
use Rattle.amr_config.proofs.own_paths.first_routes.Given as goal

abbrev pub invariant-loop-number : goal.invariant-loop-number
invariant-loop-number l = record {
  firsts : AreFirsts (stated_config l.stated) l.number l.firsts.items;
  known : AreKnown (stated_config l.stated) l.number l.known.entries;
}
