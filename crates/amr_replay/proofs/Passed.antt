-- The outcomes of the events that are passed forward.
use Rattle.std.proofs.Common.{◌≡◌, ℕ, ◌+◌, ◌<◌, Bool, List, [], ◌∷◌, ◌++◌, length, take, drop, map, Some, cond, nat_le, sym, ap, ◌∙◌, arith, slice_get, append_assoc}
use Rattle.std.specs.List.{take_while}
use Rattle.std.proofs.lemmas.List.{get_or-take, length-take, map-append, at_drop_more}
use Rattle.std.proofs.lemmas.List.Sums.{take_while-cons}
use Rattle.std.proofs.lemmas.Option.{slice_get_within, get_or_from_slice_get}
use Rattle.amr_time.specs.Time.{Moment}
use Rattle.amr_config.specs.Stated.Config.{Config}
use Rattle.amr_events.specs.Actions.Events.{Event}
use Rattle.amr_engine.specs.declared.outcome.Outcome as code
use Rattle.amr_engine.specs.Outcomes.{outcome_view}
use Rattle.amr_engine.specs.Events.{outcome_of}
use Rattle.amr_replay.specs.Session.{state_at, outcomes_of, outcomes_passed, events_until}
use Rattle.amr_replay.proofs.Positions.{run_more}

-- the first of the events from n up to m
passed_one : (c : Config) (es : List Event) (n m : ℕ) (e : Event) → slice_get es n ≡ Some e → n < m → outcomes_passed c es n m ≡ outcome_of (state_at c es n) e ∷ outcomes_passed c es (n + 1) m
passed_one c es n m e at before =
    let rest = drop (n + 1) (take m es) in
    let head = get_or-take m es n e before ∙ get_or_from_slice_get es n e e at in
    at_drop_more (outcomes_of (state_at c es n)) (take m es) n e (omega (arith, slice_get_within es n e at, length-take m es))
    ∙ ap (λ d. outcomes_of (state_at c es n) (d ∷ rest)) head
    ∙ ap (λ s. outcome_of (state_at c es n) e ∷ outcomes_of s rest) (sym (run_more c es n e at))

-- one more outcome is returned
pub told_more : (c : Config) (es : List Event) (n m : ℕ) (e : Event) (told : List code.Outcome) (o : code.Outcome) → slice_get es n ≡ Some e → n < m → outcome_view o ≡ outcome_of (state_at c es n) e → map outcome_view (told ++ o ∷ []) ++ outcomes_passed c es (n + 1) m ≡ map outcome_view told ++ outcomes_passed c es n m
told_more c es n m e told o at before is =
    let rest = outcomes_passed c es (n + 1) m in
    ap (λ x. x ++ rest) (map-append outcome_view told (o ∷ []))
    ∙ append_assoc (map outcome_view told) (outcome_view o ∷ []) rest
    ∙ ap (λ x. map outcome_view told ++ x ∷ rest) is
    ∙ ap (λ x. map outcome_view told ++ x) (sym (passed_one c es n m e at before))

count_of : {X : Type 0} (b : Bool) (x : X) (xs : List X) → length (cond b (x ∷ xs) []) ≡ cond b (length xs + 1) 0
count_of b x xs = grind arith

-- the event at n counts if it is at or before the moment, and else the count ends
pub until_more : (at : Moment) (es : List Event) (n : ℕ) (e : Event) → slice_get es n ≡ Some e → events_until at (drop n es) ≡ cond (nat_le e.at at) (events_until at (drop (n + 1) es) + 1) 0
until_more at es n e h =
    let rest = drop (n + 1) es in
    at_drop_more (events_until at) es n e (slice_get_within es n e h)
    ∙ ap (λ d. events_until at (d ∷ rest)) (get_or_from_slice_get es n e e h)
    ∙ ap length (take_while-cons (λ event. nat_le event.at at) e rest)
    ∙ count_of (nat_le e.at at) e (take_while (λ event. nat_le event.at at) rest)
