use Rattle.std.proofs.Common.{◌≡◌, refl, sym, subst}
use Rattle.amr_engine.specs.State.Kept.{Kept}
use Rattle.amr_engine.specs.declared.quiet.QuietGroups.{QuietGroups}
use Rattle.amr_engine.specs.CachedQuiet.{IsTrueOf}
use Rattle.amr_engine.proofs.CachedQuiet.{unmuted}
use Rattle.amr_engine.proofs.apply.perform.Goals.{in-Silence+in_ok-store_update-in-Silence, in-Expire+in_ok-change-in-Expire, in-Reload+in_ok-reload-in-Reload, in-Tick}
use Rattle.amr_engine.proofs.apply.perform.Goals as goal

merged : (q quiet : QuietGroups) (k kept : Kept) → q ≡ quiet → k ≡ kept → IsTrueOf quiet kept.state → IsTrueOf q k.state
merged q quiet k kept q_is k_is holds = subst (λ (x : QuietGroups). IsTrueOf x k.state) (sym q_is) (subst (λ (x : Kept). IsTrueOf quiet x.state) (sym k_is) holds)

pub returns-clause-cache : goal.returns-clause-cache
returns-clause-cache c =
    let s = c.args.store.now.state in
    let cache = c.args.quiet_groups.now in
    elim c.match-prepared.branch [
      | in-Silence+in_ok-store_update-in-Silence w ↦ merged _ _ _ _ w.quiet_groups-is w.store-is
          (subst (IsTrueOf w.forget_muting.new.self) (sym w.in_ok-store_update-in-Silence.ensures.ok) (w.forget_muting.ensures s _ refl (unmuted cache s s.alerts _) c.requires))
      | in-Expire+in_ok-change-in-Expire w ↦ merged _ _ _ _ w.quiet_groups-is w.store-is
          (subst (IsTrueOf w.forget_muting-in-Expire.new.self) (sym w.in_ok-change-in-Expire.ensures.ok) (w.forget_muting-in-Expire.ensures s _ refl (unmuted cache s s.alerts _) c.requires))
      | in-Reload+in_ok-reload-in-Reload w ↦ merged _ _ _ _ w.quiet_groups-is w.store-is (w.clear.ensures _)
      | in-Tick w ↦ merged _ _ _ _ w.quiet_groups-is w.store-is c.requires
    ]
