-- What is read is what the file says, and a refusal of its shape is that of the first fault.
use Rattle.std.proofs.Common.{◌≡◌, ℕ, List, Option, Some, None, Result, Ok, Err, inl, inr, sym, ap, subst, ◌∙◌, append-nil, arith}
use Rattle.std.proofs.lemmas.Bool.{false_from_ne_true}
use Rattle.serde_json.specs.Data.{Data}
use Rattle.amr_labels.specs.Labels.{Text}
use Rattle.amr_config.specs.declared.read.error.Refusal.{Refusal}
use Rattle.amr_config.specs.declared.stated.stated.Stated.{Stated}
use Rattle.amr_config.specs.Read.Readings.{Reading, plain, next, value_after, MayGive, IsBadPattern}
use Rattle.amr_config.specs.Read.RouteParts.{is_too_deep}
use Rattle.amr_config.specs.Read.Walking.{walked_at}
use Rattle.amr_config.specs.Read.Table.{StatesWhole}
use Rattle.amr_config.specs.Read.Faults.{first_fault, patterns_before, findings_of}
use Rattle.amr_config.proofs.ReadLemmas.Judged.{Judged, Tells}
use Rattle.amr_config.proofs.ReadLemmas.JudgedRoutes.{walked_judged, walked_states}
use Rattle.amr_config.proofs.ReadLemmas.DeepRoutes.{deep_route_of}
use Rattle.amr_config.specs.Stated.Config.{Config}
use Rattle.amr_config.specs.Read.Judging.{refusal_of}
use Rattle.amr_config.specs.Read.Reading.{unless_refused, reading_of}
use Rattle.amr_config.specs.Read.ReadLaws.{WhatIsReadIsStated, AnswersBy, AnswersGoByTheFirstFault}
use Rattle.amr_config.proofs.ReadLemmas.WholeConfigs.{was_judged}

pub what_is_read_is_stated : WhatIsReadIsStated
what_is_read_is_stated d config e =
    let was = was_judged d config e in
    rw was.is (walked_states d was.stated was.shallow was.walked)

-- ---- answers

same_patterns : {A B : Type 0} (part : Reading A) (f : A → Result B Refusal) → (next part (λ x. plain (f x))).patterns ≡ part.patterns
unfolding next
same_patterns part f = grind (arith, append-nil)

by_value : (d : Data) (answer : Result Config Refusal) (r : Result Stated Refusal) → Tells r (findings_of d) (StatesWhole d) → value_after r (λ stated. plain (unless_refused stated (refusal_of stated))) ≡ answer → AnswersBy d (first_fault (findings_of d)) answer
by_value d answer (Ok stated) (none, states) is = rw none (inl (stated, states, sym is))
by_value d answer (Err refusal) (path, same, first) is = rw first (inl (sym is ∙ ap (λ (r : Refusal). Err r) same))

by_pattern : (d : Data) (refusal : Refusal) (o : Option (List ℕ)) → IsBadPattern (patterns_before (findings_of d)) refusal → AnswersBy d o (Err refusal)
by_pattern d refusal None bad = inr bad
by_pattern d refusal (Some path) bad = inr bad

answered : (d : Data) (answer : Result Config Refusal) → Judged (walked_at d) (findings_of d) (StatesWhole d) → MayGive (next (walked_at d) (λ stated. plain (unless_refused stated (refusal_of stated)))) answer → AnswersBy d (first_fault (findings_of d)) answer
unfolding next
answered d (Ok config) j is = by_value d (Ok config) (walked_at d).value j.tells is
answered d (Err refusal) j (inl is) = by_value d (Err refusal) (walked_at d).value j.tells is
answered d (Err refusal) j (inr bad) =
    let same = same_patterns (walked_at d) (λ stated. unless_refused stated (refusal_of stated)) ∙ j.met in
    by_pattern d refusal (first_fault (findings_of d)) (subst (λ (patterns : List (List ℕ × Text)). IsBadPattern patterns refusal) same bad)

pub answers_go_by_the_first_fault : AnswersGoByTheFirstFault
unfolding reading_of
answers_go_by_the_first_fault d answer none is =
    let shallow = false_from_ne_true (is_too_deep d) (λ deep. none (deep_route_of d deep)) in
    answered d answer (walked_judged d shallow) (rw shallow at is)
