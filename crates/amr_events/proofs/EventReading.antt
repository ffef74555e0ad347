-- The moments of an event that was read are among those that a text can spell.
use Rattle.std.proofs.Common.{ℕ, List, Option, Some, None, ℤ, pos, negsuc, arith}
use Rattle.std.specs.Prelude.{All, IfSome, codes}
use Rattle.std.proofs.lemmas.Bool.Decides.{nat_tests}
use Rattle.std.proofs.lemmas.List.Elements.{All-nil, All-cons}
use Rattle.serde_json.specs.Data.{Data, Items, no_items, item}
use Rattle.amr_time.specs.MomentRead.{moment_at, in_range}
use Rattle.amr_events.specs.Actions.Events.{Act}
use Rattle.amr_events.specs.Actions.Events as events
use Rattle.amr_events.specs.Shapes.{each_item, moment_under}
use Rattle.amr_events.specs.Posted.{time_of, time_in, alert_of, alerts_of}
use Rattle.amr_events.specs.PostedSilences.{silence_of}
use Rattle.amr_events.specs.Lines.{post_of, silencing_of, expiry_of, tick_of, labelling_of, act_of_stated, act_in}
use Rattle.amr_events.specs.Refused.{ActIs}
use Rattle.amr_events.specs.EventLaws.{IsStatable, AlertIsStatable, ActIsStatable, ReadEventsAreStatable}
use Rattle.amr_events.specs.declared.version.Version.{Version}

in_range-bound : (z : ℤ) → IfSome (in_range z) IsStatable
in_range-bound (pos n) = grind (arith, nat_tests)
in_range-bound (negsuc n) = tt

moment_at-bound : (text : List ℕ) → IfSome (moment_at text) IsStatable
unfolding moment_at
moment_at-bound text = grind (arith, in_range-bound)

moment_under-bound : (key : List ℕ) (d : Data) → IfSome (moment_under key d) IsStatable
unfolding moment_under
moment_under-bound key d = grind (arith, moment_at-bound)

time_of-bound : (text : List ℕ) → IfSome (time_of text) (λ time. IfSome time IsStatable)
unfolding time_of
time_of-bound text = grind (arith, moment_at-bound text)

time_in-bound : (key : List ℕ) (d : Data) → IfSome (time_in key d) (λ time. IfSome time IsStatable)
unfolding time_in
time_in-bound key d = grind (arith, time_of-bound)

alert_of-bound : (d : Data) → IfSome (alert_of d) AlertIsStatable
unfolding alert_of
alert_of-bound d = grind (arith, time_in-bound (codes "startsAt") d, time_in-bound (codes "endsAt") d)

each_alert-bound : (items : Items) → IfSome (each_item alert_of items) (All AlertIsStatable)
each_alert-bound no_items = All-nil AlertIsStatable
each_alert-bound (item d items) = grind (arith, alert_of-bound d, each_alert-bound items, All-cons AlertIsStatable)

alerts_of-bound : (d : Data) → IfSome (alerts_of d) (All AlertIsStatable)
unfolding alerts_of
alerts_of-bound d = grind (arith, each_alert-bound)

silence_of-bound : (line d : Data) → IfSome (silence_of line d) (λ silence. IsStatable silence.starts_at × IsStatable silence.ends_at)
unfolding silence_of
silence_of-bound line d = grind (arith, moment_under-bound (codes "startsAt") d, moment_under-bound (codes "endsAt") d)

stated-bound : (line : Data) (alerts silence id config tick label : Option Data) → IfSome (act_of_stated line alerts silence id config tick label) ActIsStatable
unfolding post_of silencing_of expiry_of tick_of labelling_of
stated-bound line (Some d) silence id config tick label = grind (arith, alerts_of-bound d)
stated-bound line None (Some d) id config tick label = grind (arith, silence_of-bound line d)
stated-bound line None None id config tick label = grind arith

act_in-bound : (version : Version) (d : Data) → IfSome (act_in version d) ActIsStatable
unfolding act_in
act_in-bound version d = grind (arith, stated-bound d)

act-bound : (version : Version) (d : Data) (act : Act) → ActIs version d act → ActIsStatable act
act-bound version d (events.Act.Post alerts) is = rw is at (act_in-bound version d)
act-bound version d (events.Act.Silence silence) (stated, is, so) = rw (so.starts_at, so.ends_at) (rw is at (act_in-bound version d))
act-bound version d (events.Act.Expire id) is = tt
act-bound version d (events.Act.Reload config) is = tt
act-bound version d events.Act.Tick is = tt
act-bound version d (events.Act.Label text) is = tt

pub read_events_are_statable : ReadEventsAreStatable
read_events_are_statable version line event is = record {
  at = rw is.reads.at at (moment_under-bound (codes "at") is.stated);
  act = act-bound version is.stated event.act is.reads.act;
}
