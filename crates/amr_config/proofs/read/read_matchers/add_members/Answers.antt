use Rattle.std.proofs.lemmas.Map.Iter.{rest_more}
use Rattle.std.specs.Map.Iter.{deref_pair}
use Rattle.amr_config.specs.Read.Paths.{path_text}
use Rattle.amr_config.specs.Read.ReadMatchers.{matcher_into}
use Rattle.amr_config.proofs.ReadLemmas.Readings.{stopped_into}
use Rattle.amr_config.proofs.ReadLemmas.Turns.{member_ends, member_stops}
use Rattle.amr_config.proofs.read.read_matchers.add_members.Goals as goal

pub loop-key-preserved : goal.loop-key-preserved
loop-key-preserved c =
    let rest = rest_more deref_pair _ _ _ (c.in-Some-2.key, c.in-Some-2.value) c.in-Some-2.is c.next.ensures.steps in
    member_ends (matcher_into c.args.operator (path_text c.args.path.now)) c.loop-key.key-iterator c.next.new.self c.in-Some-2.key.now c.in-Some-2.value.now c.loop-key.matchers.items _ _ rest (rw c.as_str.ensures.value at c.in_ok-add_member.ensures) c.loop-key.invariant

pub returns-in_err-add_member : goal.returns-in_err-add_member
returns-in_err-add_member c =
    let rest = rest_more deref_pair _ _ _ (c.in-Some-2.key, c.in-Some-2.value) c.in-Some-2.is c.next.ensures.steps in
    stopped_into _ _ _ _ _ c.from_residual.ensures.1 (member_stops (matcher_into c.args.operator (path_text c.args.path.now)) c.loop-key.key-iterator c.next.new.self c.in-Some-2.key.now c.in-Some-2.value.now c.loop-key.matchers.items c.in_err-add_member.field-0.0 _ rest (rw c.as_str.ensures.value at c.in_err-add_member.ensures) c.loop-key.invariant)
