-- A configuration is refused as too deep exactly if one of its routes is too deep.
use Rattle.std.proofs.Common.{◌≡◌, false, List, Result, Err, subst, inl, inr, arith}
use Rattle.serde_json.specs.Data.{Data}
use Rattle.amr_config.specs.declared.read.error.Refusal.{Refusal}
use Rattle.amr_config.specs.declared.read.error.Refusal.TheVariants.{Other}
use Rattle.amr_config.specs.declared.read.error.Cause.TheVariants.{TooDeep}
use Rattle.amr_config.specs.declared.stated.stated.Stated.{Stated}
use Rattle.amr_config.specs.Stated.Config.{Config}
use Rattle.amr_config.specs.Read.Readings.{Reading, plain, next, value_after, MayGive}
use Rattle.amr_config.specs.Read.RouteParts.{is_too_deep}
use Rattle.amr_config.specs.Read.Judging.{refusal_of}
use Rattle.amr_config.specs.Read.Reading.{unless_refused, reading_of, config_of}
use Rattle.amr_config.specs.Read.Walking.{walked_at}
use Rattle.amr_config.specs.Read.LevelLaws.{DeepIsRefused, DeepIsAnswered}
use Rattle.amr_config.proofs.ReadLemmas.DeepRoutes.{deep_route_of, too_deep_by}
use Rattle.amr_config.specs.Read.Table.{StatesWhole}
use Rattle.amr_config.specs.Read.Faults.{Finding, findings_of}
use Rattle.amr_config.proofs.ReadLemmas.Judged.{Tells}
use Rattle.amr_config.proofs.ReadLemmas.JudgedRoutes.{walked_judged}

not_deep : (r : Result Stated Refusal) (findings : List Finding) (P : Stated → Type 0) → Tells r findings P → value_after r (λ stated. plain (unless_refused stated (refusal_of stated))) ≡ Err (Other TooDeep) → ⊥
unfolding refusal_of
not_deep r findings P t e = grind arith

shallow_config : (d : Data) → is_too_deep d ≡ false → config_of d ≡ Err (Other TooDeep) → ⊥
unfolding reading_of next
shallow_config d shallow e =
    let value : value_after (walked_at d).value (λ stated. plain (unless_refused stated (refusal_of stated))) ≡ Err (Other TooDeep) = rw (shallow, config_of) at e in
    not_deep (walked_at d).value (findings_of d) (StatesWhole d) (walked_judged d shallow).tells value

pub deep_is_refused : DeepIsRefused
unfolding reading_of
deep_is_refused d = (λ refused. deep_route_of d (grind (arith, shallow_config d)), λ has. rw (too_deep_by d has, config_of))

-- ---- answers if a pattern may be refused

only_answer : (reading : Reading Config) (answer : Result Config Refusal) → reading ≡ plain (Err (Other TooDeep)) → MayGive reading answer → answer ≡ Err (Other TooDeep)
only_answer reading answer is h = grind arith

answered_deep : (reading : Reading Config) → MayGive reading (Err (Other TooDeep)) → reading.value ≡ Err (Other TooDeep)
answered_deep reading (inl h) = h
answered_deep reading (inr (path, text, met, may, faulty)) = absurd (cc)

pub deep_is_answered : DeepIsAnswered
unfolding reading_of
deep_is_answered d answer is =
    (λ refused. (deep_is_refused d).0 (answered_deep (reading_of d) (subst (λ (a : Result Config Refusal). MayGive (reading_of d) a) refused is)), λ has. only_answer (reading_of d) answer (rw (too_deep_by d has)) is)
