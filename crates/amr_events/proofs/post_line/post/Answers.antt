use Rattle.std.proofs.Common.{◌≡◌, ◌∷◌, List, codes, Some, None, option_and_then, arith, rules}
use Rattle.json.specs.Token.{Token}
use Rattle.json.specs.Json.{read_key}
use Rattle.json.proofs.Grammar.{read_key-shorter}
use Rattle.serde_json.specs.Data.{Data, object, no_members, put}
use Rattle.serde_json.specs.Find.{as_str}
use Rattle.amr_time.specs.Time.{Moment}
use Rattle.amr_time.specs.MomentRead.{moment_at}
use Rattle.amr_events.specs.Actions.Events as events
use Rattle.amr_events.specs.declared.posts.posted_alert.PostedAlert.{PostedAlert}
use Rattle.amr_events.specs.Shapes.{moment_under}
use Rattle.amr_events.specs.Posted.{alerts_of}
use Rattle.amr_events.specs.Lines.{act_count, post_of, act_in}
use Rattle.amr_events.specs.Refused.{EventIs}
use Rattle.amr_events.specs.declared.version.Version.{Version}
use Rattle.amr_events.proofs.Stating.{states_object, no_member_read, one_more_member, all_members_read}
use Rattle.amr_events.proofs.post_line.post.Goals as goal

-- an object with a moment and alerts is a post, in both versions
is_post : (stated_at stated_alerts : Data) (at : Moment) (alerts : List PostedAlert) → option_and_then moment_at (as_str stated_at) ≡ Some at → alerts_of stated_alerts ≡ Some alerts
    → (version : Version) → EventIs version (object (put (codes "alerts") stated_alerts (put (codes "at") stated_at no_members))) (record { at = at; act = events.Act.Post alerts })
unfolding moment_under act_count post_of act_in
is_post stated_at stated_alerts at alerts moment posted version = grind arith

pub returns : goal.returns
returns c =
    let start = c.opens_object.new.reader in
    let opened : c.args.reader.now ≡ Token.begin_object ∷ start = search rules in
    let first : read_key start ≡ Some (Some (codes "at"), c.has_key.new.reader) = search rules in
    let second : read_key c.usual_moment.new.reader ≡ Some (Some (codes "alerts"), c.has_key-2.new.reader) = search rules in
    let closed : read_key c.usual_alerts.new.reader ≡ Some (None, c.closes_object.new.reader) = search rules in
    let at = c.in-Some.ensures.read 126 in
    let alerts = (rw c.in-Some-2.is at c.in_ok-alerts.ensures.read) 126 (omega arith) in
    let lesser = rw c.in-Some-2.is at c.in_ok-alerts.ensures.shorter in
    let with_at = one_more_member 126 _ start start c.has_key.new.reader c.usual_moment.new.reader no_members (codes "at") (no_member_read 126 start) first (read_key-shorter start _ _ first) c.in-Some.ensures.shorter at in
    let with_alerts = one_more_member 126 _ start c.usual_moment.new.reader c.has_key-2.new.reader c.usual_alerts.new.reader _ (codes "alerts") with_at second (read_key-shorter c.usual_moment.new.reader _ _ second) lesser alerts in
    rw c.new.ensures (
    states_object 127 _ c.args.reader.now start c.closes_object.new.reader _ (omega arith) opened (all_members_read 126 start c.usual_alerts.new.reader c.closes_object.new.reader _ with_alerts closed)
    (is_post at.stated alerts.stated c.in-Some.at c.in-Some-2.alerts at.such alerts.such)
    )
