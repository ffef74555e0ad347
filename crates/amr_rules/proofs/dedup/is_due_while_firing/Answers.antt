use Rattle.std.proofs.Common.{arith}
use Rattle.std.proofs.lemmas.Bool.Decides.{nat_tests}
use Rattle.amr_rules.proofs.Subsets.{due}
use Rattle.amr_rules.proofs.dedup.is_due_while_firing.Goals as goal

pub returns-then-is_empty : goal.returns-then-is_empty
returns-then-is_empty c = λ send_resolved. grind (arith, nat_tests, due c.args.entry.now c.args.firing.now send_resolved c.args.now c.args.repeat_interval)

pub returns-then-not-has_each : goal.returns-then-not-has_each
returns-then-not-has_each c = λ send_resolved. grind (arith, nat_tests, due c.args.entry.now c.args.firing.now send_resolved c.args.now c.args.repeat_interval)

pub returns-else-not-has_each : goal.returns-else-not-has_each
returns-else-not-has_each c = λ send_resolved. grind (arith, nat_tests, due c.args.entry.now c.args.firing.now send_resolved c.args.now c.args.repeat_interval)
