use Rattle.std.proofs.Common.{◌≡◌, ap, ◌∙◌}
use Rattle.amr_labels.specs.Map.{get, insert}
use Rattle.amr_rules.specs.Alerts.{alert_to_store}
use Rattle.amr_config.specs.Groups.{groups_of}
use Rattle.amr_engine.specs.State.State.{State, insert_into_groups}
use Rattle.amr_engine.specs.Events.{put}
use Rattle.amr_engine.proofs.CachedQuiet.{still_true}
use Rattle.amr_engine.proofs.post.put.Goals as goal

pub returns-clause-cache : goal.returns-clause-cache
unfolding put
returns-clause-cache c =
    let s = c.args.store.now.state in
    let labels = c.args.labels.now in
    let stored = c.in_ok-number.ensures.stored in
    let changed : c.groups_of.new.self.state ≡ record s { alerts = insert s.alerts labels (alert_to_store s.moment (get s.alerts labels) c.args.alert) } =
    ap (λ k. k.state) c.groups_of.ensures.same ∙ c.in_ok-number.ensures.ok ∙ (λ i. record s { alerts = insert s.alerts labels (stored i) }) in
    let groups : c.in_ok-groups.groups ≡ groups_of s.config labels = c.in_ok-groups.ensures.groups ∙ ap (λ (state : State). groups_of state.config labels) c.in_ok-number.ensures.ok in
    still_true c.insert_into_each.result c.forget_joined.new.self c.insert_into_each.new.store.state (insert_into_groups c.groups_of.new.self.state (labels, c.in_ok-number.stored)) (put s (labels, c.args.alert))
    (c.forget_joined.ensures s (labels, c.args.alert) (c.as_slice-groups.ensures ∙ c.get.ensures ∙ groups) c.requires)
    (λ i. insert_into_groups (changed i) (labels, stored i)) c.insert_into_each.ensures.ok
