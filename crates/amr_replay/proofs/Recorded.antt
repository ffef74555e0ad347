-- One record for each event before the cursor.
use Rattle.std.specs.Prelude.{◌≡◌, ℕ, zero, suc, ◌+◌, ◌<◌, ◌≤◌, ◌*◌, List, [], ◌∷◌, ◌++◌, length, take, Some, option_map}
use Rattle.std.specs.List.{slice_get}
use Rattle.std.proofs.Common.{refl, sym, ap, subst, ◌∙◌, arith, length-take, length-append}
use Rattle.amr_config.specs.Stated.Config.{Config}
use Rattle.amr_events.specs.Actions.Events.{Event}
use Rattle.amr_engine.specs.declared.state.change.Change.{Change}
use Rattle.amr_engine.specs.State.State.{State, start}
use Rattle.amr_engine.specs.State.Records.{put_back}
use Rattle.amr_engine.specs.State.Steps.{Steps}
use Rattle.amr_engine.specs.declared.outcome.Outcome as code
use Rattle.amr_engine.specs.Outcomes.{outcome_view}
use Rattle.amr_engine.specs.Kept.{RecordOf}
use Rattle.amr_engine.specs.Weight.{event_weight}
use Rattle.amr_engine.specs.Events.{outcome_of, after_event, after_events}
use Rattle.amr_replay.specs.Session.{state_at}
use Rattle.amr_replay.specs.Records.{IsRecord, AreRecords, HasEntries}
use Rattle.amr_replay.proofs.Positions.{front, item}

abbrev Records : Type 0
Records = List (List Change)

-- ---- from any state

pub length-records : (s : State) (es : List Event) (rs : Records) → AreRecords s es rs → length rs ≡ length es
length-records s [] [] h = refl
length-records s (e ∷ es) (r ∷ rs) h = ap suc (length-records (after_event s e) es rs h.1)
length-records s es rs h = absurd h

records-push : (s : State) (es : List Event) (rs : Records) (e : Event) (r : List Change) → AreRecords s es rs → IsRecord (after_events s es) e r → AreRecords s (es ++ e ∷ []) (rs ++ r ∷ [])
records-push s [] [] e r h is = (is, tt)
records-push s (d ∷ es) (q ∷ rs) e r h is = (h.0, records-push (after_event s d) es rs e r h.1 is)
records-push s es rs e r h is = absurd h

records-pop : (s : State) (es : List Event) (rs : Records) (e : Event) (r : List Change) → AreRecords s (es ++ e ∷ []) (rs ++ r ∷ []) → AreRecords s es rs
records-pop s [] [] e r h = tt
records-pop s [] (q ∷ rs) e r h = absurd (omega (arith, length-records s (e ∷ []) (q ∷ (rs ++ r ∷ [])) h, length-append rs (r ∷ [])))
records-pop s (d ∷ es) [] e r h = absurd (omega (arith, length-records s (d ∷ (es ++ e ∷ [])) (r ∷ []) h, length-append es (e ∷ [])))
records-pop s (d ∷ es) (q ∷ rs) e r h = (h.0, records-pop (after_event s d) es rs e r h.1)

-- the record of one of the first n events
pub record_at : (n : ℕ) (s : State) (es : List Event) (rs : Records) (k : ℕ) (e : Event) (m : ℕ) → AreRecords s (take n es) rs → k < n → slice_get es k ≡ Some e → option_map length (slice_get rs k) ≡ Some m
    → HasEntries (after_events s (take k es)) e m
record_at (suc n) s (d ∷ es) (r ∷ rs) zero e m h before at is =
    let same : d ≡ e = cc in
    subst (λ x. HasEntries s x m) same (r, h.0, cc)
record_at (suc n) s (d ∷ es) (r ∷ rs) (suc k) e m h before at is = record_at n (after_event s d) es rs k e m h.1 (omega (arith, before)) at is
record_at n s es rs k e m h before at is = absurd (grind arith)

-- ---- at a cursor

-- there are as many records as events before the cursor
pub records_count : (c : Config) (es : List Event) (n : ℕ) (rs : Records) → AreRecords (start c) (take n es) rs → n ≤ length es → length rs ≡ n
records_count c es n rs h within = omega (arith, length-records (start c) (take n es) rs h, length-take n es)

-- one event on
pub records_next : (c : Config) (es : List Event) (n : ℕ) (before after : Steps) (e : Event) (o : code.Outcome) (r : List Change) → AreRecords (start c) (take n es) before.records → before.state ≡ state_at c es n
    → slice_get es n ≡ Some e → outcome_view o ≡ outcome_of before.state e → after.state ≡ after_event before.state e → RecordOf before e after o r → AreRecords (start c) (take (n + 1) es) after.records
records_next c es n before after e o r h here at told is kept =
    let one : IsRecord before.state e r = record {
      back = ap (put_back r) (sym is) ∙ kept.back;
      empty = λ reason refused. grind (arith, told, refused, kept.empty);
      label = kept.label;
      short = subst (λ s. length r ≤ 4 * event_weight before.state e s) is kept.short;
    } in
    rw (kept.added, front es n e at) (records-push (start c) (take n es) before.records e r h (subst (λ s. IsRecord s e r) here one))

-- one event back
pub records_last : (c : Config) (es : List Event) (m n : ℕ) (rs rs' : Records) (last : List Change) → m ≡ n + 1 → m ≤ length es → AreRecords (start c) (take m es) rs → rs ≡ rs' ++ last ∷ [] → AreRecords (start c) (take n es) rs'
records_last c es m n rs rs' last one within h popped =
    let (e, at) = item es n (omega (arith, one, within)) in
    records-pop (start c) (take n es) rs' e last (rw (← front es n e at, ← one, ← popped) h)
