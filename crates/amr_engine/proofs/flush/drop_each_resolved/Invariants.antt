use Rattle.std.proofs.Common.{fold, ◌≡◌, drop}
use Rattle.amr_engine.specs.State.Kept.{GrownBy, before_open_record}
use Rattle.amr_engine.specs.Flush.{drop_member, resolved_of}
use Rattle.amr_engine.proofs.flush.drop_each_resolved.Given as goal

-- dropping those so far and then those that are left is dropping all
abbrev pub invariant-loop-labels : goal.invariant-loop-labels
invariant-loop-labels l = record {
  ok : fold (drop_member l.group) l.store.state (resolved_of l.at (drop l.labels-index l.members)) ≡ fold (drop_member l.group) l.fn.store.state (resolved_of l.at l.members);
  kept : before_open_record l.store ≡ before_open_record l.fn.store;
  grown : GrownBy l.labels-index l.fn.store l.store;
}
