use Rattle.std.proofs.Common.{◌++◌, codes, decimal}
use Rattle.std.specs.String.{string_bytes}
use Rattle.json.specs.Print.{quoted}
use Rattle.amreplay.specs.Lines.Verdicts.{finding_name, integration_members, members_before, members_after, with_commas}
use Rattle.amreplay.proofs.LinesLemmas.Pushed.{push_done, push_last, followed}
use Rattle.amreplay.proofs.LinesLemmas.VerdictTexts.{at_route_text}
use Rattle.amreplay.proofs.lines.verdicts.push_at_route.Goals as goal

pub returns : goal.returns
returns c =
    rw (← at_route_text c.args.route c.args.receiver.now c.args.integration.now c.args.finding.now)
    (followed _ (string_bytes c.args.out.now) (string_bytes c.push_str.new.self) _ (codes "{") _ (push_done _ _ (string_bytes c.args.out.now) _ (codes "{") c.in_ok-push_str.was c.push_str.ensures.bytes)
    (followed _ (string_bytes c.push_str.new.self) (string_bytes c.push_before_integration.new.out) _ (with_commas (members_before c.args.finding.now)) _ c.in_ok-push_before_integration.ensures
    (followed _ (string_bytes c.push_before_integration.new.out) (string_bytes c.push_integration.new.out) _ (with_commas (integration_members c.args.integration.now)) _ c.in_ok-push_integration.ensures
    (followed _ (string_bytes c.push_integration.new.out) (string_bytes c.push_with_comma.new.out) _ (codes "\"receiver\":" ++ (quoted c.args.receiver.now ++ codes ",")) _ c.in_ok-push_with_comma.ensures
    (followed _ (string_bytes c.push_with_comma.new.out) (string_bytes c.push_with_comma-2.new.out) _ (codes "\"route\":" ++ (decimal c.args.route ++ codes ",")) _ c.in_ok-push_with_comma-2.ensures
    (followed _ (string_bytes c.push_with_comma-2.new.out) (string_bytes c.push_after_route.new.out) _ (with_commas (members_after c.args.finding.now)) _ c.in_ok-push_after_route.ensures
    (followed _ (string_bytes c.push_after_route.new.out) (string_bytes c.push.new.out) _ (codes "\"verdict\":" ++ quoted (finding_name c.args.finding.now)) _ (rw c.finding_name.ensures at c.in_ok-push.ensures)
    (push_last _ (string_bytes c.push.new.out) (string_bytes c.push_str-2.new.self) (codes "}") c.push_str-2.ensures.bytes))))))))
