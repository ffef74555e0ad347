use Rattle.std.proofs.Common.{◌≡◌, ◌<◌, ◌≤◌, false, length, arith, rules}
use Rattle.amr_events.specs.Scripts.{is_blank, longest_line, most_events}
use Rattle.amr_events.specs.Drafts.{so_far, begins_with, OneEvent}
use Rattle.amr_events.proofs.draft.Draft.read_line.Goals as goal

pub returns-in_ok-push-in-Ok-clause-added : goal.returns-in_ok-push-in-Ok-clause-added
returns-in_ok-push-in-Ok-clause-added c =
    let short : length c.args.line.now ≤ longest_line = omega arith in
    let blank : is_blank c.args.line.now ≡ false = search rules in
    let room : length c.args.self.now.events.items < most_events = omega arith in
    let begins : begins_with (so_far c.args.self.now) c.args.line.now ≡ false = search rules in
    OneEvent c.in-Ok.event short blank begins room c.in-Ok.ensures (search rules)
