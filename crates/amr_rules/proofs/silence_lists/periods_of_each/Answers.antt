use Rattle.std.proofs.Common.{ℕ, List, map, sym, ap, ◌∙◌, arith}
use Rattle.std.proofs.lemmas.List.{take_all}
use Rattle.std.proofs.lemmas.Grind.{common_steps}
use Rattle.amr_rules.specs.declared.silence.Silence.{Silence}
use Rattle.amr_rules.specs.SilencePeriods.{periods_among}
use Rattle.amr_rules.proofs.LaterSilences.{periods_later}
use Rattle.amr_rules.proofs.EachPeriods.{asked_more}
use Rattle.amr_rules.proofs.silence_lists.periods_of_each.Goals as goal

pub loop-id-preserved : goal.loop-id-preserved
loop-id-preserved c =
    grind (arith, common_steps, asked_more c.args.from c.args.listed.now c.loop-id.id-index c.loop-id-item.result c.loop-id-test.true (sym c.loop-id-item.is) c.args.label_sets.now)

pub returns-clause-among : goal.returns-clause-among
returns-clause-among c =
    c.loop-id.invariant ∙ ap (λ (listed : List (ℕ × Silence)). map (λ labels. periods_among c.args.from labels listed) c.args.label_sets.now) (take_all _ _ c.loop-id-test.false)

pub returns-clause-all : goal.returns-clause-all
returns-clause-all c = λ earlier silences le is.
    returns-clause-among c
    ∙ (λ i. map (λ labels. (ap (periods_among c.args.from labels) is ∙ periods_later c.args.from earlier labels le _) i) c.args.label_sets.now)
