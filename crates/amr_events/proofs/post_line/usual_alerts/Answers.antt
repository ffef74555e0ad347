use Rattle.std.proofs.Common.{◌≡◌, ℕ, ◌+◌, ◌-◌, ◌≤◌, ◌∷◌, length, Some, None, arith, rules}
use Rattle.json.specs.Token.{Token}
use Rattle.json.specs.Json.{after_end_array}
use Rattle.json.proofs.Grammar.{after_end_array-shorter}
use Rattle.amr_events.specs.Posted.{alert_of, alerts_of}
use Rattle.amr_events.proofs.Stating.{states_array, one_more_item, all_items_read}
use Rattle.amr_events.proofs.post_line.usual_alerts.Goals as goal

pub loop-cache-preserved : goal.loop-cache-preserved
loop-cache-preserved c =
    let alert = c.in-Some.alert in
    let read = rw c.in-Some.is at c.in_ok-alert.ensures.read in
    let less = rw c.in-Some.is at c.in_ok-alert.ensures.shorter in
    let going : (after_end_array c.loop-cache.reader ≡ None) × (c.take_end_array.new.self ≡ c.loop-cache.reader) = grind arith in
    record {
      left = λ (depth : ℕ) (some : 2 ≤ depth). rw c.in_ok-push-in-Some.ensures.items (
          one_more_item alert_of depth c.opens_array.new.reader c.loop-cache.reader c.usual_alert.new.reader c.loop-cache.alerts.items alert (c.loop-cache.invariant.left depth some) going.0 (rw going.1 at less) (rw going.1 at (read depth some))
          );
      shorter = omega (arith, rw going.1 at less, c.loop-cache.invariant.shorter);
    }

pub returns-clause-read : goal.returns-clause-read
unfolding alerts_of
returns-clause-read c depth some =
    let alerts = c.loop-cache.alerts.items in
    let made : c.in_ok-alerts.alerts ≡ alerts = search rules in
    let opened : c.args.reader.now ≡ Token.begin_array ∷ c.opens_array.new.reader = search rules in
    let closed : after_end_array c.loop-cache.reader ≡ Some c.take_end_array.new.self = grind arith in
    let all = all_items_read alert_of (depth - 1) c.opens_array.new.reader c.loop-cache.reader c.take_end_array.new.self alerts (c.loop-cache.invariant.left (depth - 1) (omega arith)) closed in
    rw made (states_array depth (λ d. alerts_of d ≡ Some alerts) c.args.reader.now c.opens_array.new.reader c.take_end_array.new.self all.0 (omega arith) opened all.1 all.2)

pub returns-clause-shorter : goal.returns-clause-shorter
returns-clause-shorter c =
    let opened : c.args.reader.now ≡ Token.begin_array ∷ c.opens_array.new.reader = search rules in
    let longer : length c.args.reader.now ≡ length c.opens_array.new.reader + 1 = rw opened (omega arith) in
    let closed : after_end_array c.loop-cache.reader ≡ Some c.take_end_array.new.self = grind arith in
    omega (arith, longer, after_end_array-shorter c.loop-cache.reader c.take_end_array.new.self closed, c.loop-cache.invariant.shorter)
