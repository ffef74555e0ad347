use Rattle.std.proofs.Common.{fold, filter_map, ◌≡◌, ℕ, ◌+◌, ◌∷◌, [], Some, None, List, length, drop, sym, ap, ◌∙◌, arith}
use Rattle.std.proofs.lemmas.List.{drop_more, append_assoc}
use Rattle.amr_labels.specs.Labels.{LabelSet}
use Rattle.amr_events.specs.declared.posts.posted_alert.PostedAlert.{PostedAlert}
use Rattle.amr_rules.specs.Alerts.{completed_alert}
use Rattle.amr_rules.specs.declared.alert.Alert.{Alert}
use Rattle.amr_engine.specs.State.State.{State}
use Rattle.amr_engine.specs.Events.{put, skipped_from}
use Rattle.amr_engine.specs.Weight.{alerts_weight}
use Rattle.amr_engine.proofs.Copied.{put-config}
use Rattle.amr_engine.proofs.Growing.{put_more}
use Rattle.amr_engine.proofs.post.put_all.Goals.{in-Some+in_ok-put-in-Some, in-None+in_ok-push-in-None}
use Rattle.amr_engine.proofs.post.put_all.Goals as goal

pub loop-index-preserved : goal.loop-index-preserved
loop-index-preserved c =
    let now : ℕ = c.moment-now.result in
    let timeout : ℕ = c.resolve_timeout-timeout.result in
    let posted : List PostedAlert = c.args.posted.now in
    let index : ℕ = c.loop-index.index in
    let s : State = c.loop-index.store.state in
    let config = c.args.store.now.state.config in
    let inv = c.loop-index.invariant in
    let alert : PostedAlert = c.index-posted-index.result in
    let rest : List PostedAlert = drop (index + 1) posted in
    let left : drop index posted ≡ alert ∷ rest = drop_more posted index alert c.loop-index-test.true ∙ ap (λ (x : PostedAlert). x ∷ rest) (sym c.index-posted-index.is) in
    elim c.match-branch-2.branch [
      | in-Some+in_ok-put-in-Some w ↦
          let valid : LabelSet × Alert = (w.in-Some.labels, w.in-Some.alert) in
          let is : Some valid ≡ completed_alert now timeout alert = sym w.in-Some.is ∙ c.in_ok-labels.ensures in
          let items : filter_map (completed_alert now timeout) (drop index posted) ≡ valid ∷ filter_map (completed_alert now timeout) rest = grind (arith, left, is) in
          rw (w.store-is, w.quiet_groups-is, w.skipped-is) (record {
            ok = ap (λ (k : State). fold put k (filter_map (completed_alert now timeout) rest)) w.in_ok-put-in-Some.ensures.ok ∙ sym (ap (fold put s) items) ∙ inv.ok;
            skipped = grind (arith, left, is, inv.skipped);
            kept = w.in_ok-put-in-Some.ensures.kept ∙ inv.kept;
            cache = w.in_ok-put-in-Some.ensures.cache;
            config = ap (λ (k : State). k.config) w.in_ok-put-in-Some.ensures.ok ∙ put-config s valid ∙ inv.config;
            grown = put_more config s.config (filter_map (completed_alert now timeout) (drop index posted)) valid (filter_map (completed_alert now timeout) rest) (length c.loop-index.store.current)
                (length w.put.new.store.current) (length c.args.store.now.current + alerts_weight config (filter_map (completed_alert now timeout) posted)) inv.grown items inv.config w.put.ensures.grown;
          })
      | in-None+in_ok-push-in-None w ↦
          let is : None ≡ completed_alert now timeout alert = sym w.in-None.is ∙ c.in_ok-labels.ensures in
          let items : filter_map (completed_alert now timeout) (drop index posted) ≡ filter_map (completed_alert now timeout) rest = grind (arith, left, is) in
          rw (w.store-is, w.quiet_groups-is, w.skipped-is) (record {
            ok = sym (ap (fold put s) items) ∙ inv.ok;
            skipped = grind (arith, left, is, inv.skipped, w.in_ok-push-in-None.ensures.ok, append_assoc c.loop-index.skipped ((index + 1) ∷ []) (skipped_from (index + 1 + 1) now timeout rest));
            kept = inv.kept;
            cache = inv.cache;
            config = inv.config;
            grown = rw (← items) inv.grown;
          })
    ]
