use Rattle.std.proofs.Common.{le_refl, ◌&&◌, nat_cmp, ◌≡◌, true, subst, ◌∙◌}
use Rattle.std.specs.List.{list_all}
use Rattle.amr_rules.specs.declared.silence.Silence.{Silence}
use Rattle.amr_engine.specs.Quiet.{is_outside}
use Rattle.amr_engine.proofs.Values.{all_covered}
use Rattle.amr_engine.proofs.quiet_until.silence_turn.Goals as goal

pub loop-silence-init : goal.loop-silence-init
loop-silence-init c = record {
  within = le_refl c.args.until;
  still = λ end le all.
      let outside = λ (silence : Silence). is_outside c.args.at end silence.starts_at && is_outside c.args.at end silence.ends_at in
      all_covered nat_cmp outside c.silences.result.now c.args.store.now.state.silences c.silences.ensures (subst (λ values. list_all outside values ≡ true) (c.into_iter-silence-iterator.ensures.into_iter_gives ∙ c.values-silence-items.ensures) all);
}
