-- One more event, and one less.
use Rattle.std.proofs.Common.{◌≡◌, ℕ, ◌+◌, ◌<◌, ◌≤◌, List, [], ◌∷◌, ◌++◌, length, take, Some, refl, sym, ap, ◌∙◌, arith, slice_get, ⊎_elim}
use Rattle.std.proofs.lemmas.List.{take_more, same_from_push}
use Rattle.std.proofs.lemmas.Option.{slice_get_within, get_or_from_slice_get, slice_get_cases}
use Rattle.std.proofs.lemmas.List.Sums.{fold-append}
use Rattle.amr_config.specs.Stated.Config.{Config}
use Rattle.amr_events.specs.Actions.Events.{Event}
use Rattle.amr_events.specs.declared.version.Version.{Version}
use Rattle.amr_engine.specs.State.State.{State, start}
use Rattle.amr_engine.specs.Events.{after_event, after_events, run_of}
use Rattle.amr_replay.specs.Session.{View, at_cursor, states_before}

before_push : (s : State) (es : List Event) (e : Event) → states_before s (es ++ e ∷ []) ≡ states_before s es ++ after_events s es ∷ []
before_push s [] e = refl
before_push s (d ∷ es) e = ap (λ t. s ∷ t) (before_push (after_event s d) es e)

-- the events up to n and the one at n
pub front : (es : List Event) (n : ℕ) (e : Event) → slice_get es n ≡ Some e → take (n + 1) es ≡ take n es ++ e ∷ []
front es n e at = take_more es n e (slice_get_within es n e at) ∙ ap (λ x. take n es ++ x ∷ []) (get_or_from_slice_get es n e e at)

pub run_more : (c : Config) (es : List Event) (n : ℕ) (e : Event) → slice_get es n ≡ Some e → run_of c (take (n + 1) es) ≡ after_event (run_of c (take n es)) e
run_more c es n e at = ap (run_of c) (front es n e at) ∙ fold-append after_event (start c) (take n es) (e ∷ [])

before_more : (c : Config) (es : List Event) (n : ℕ) (e : Event) → slice_get es n ≡ Some e → states_before (start c) (take (n + 1) es) ≡ states_before (start c) (take n es) ++ run_of c (take n es) ∷ []
before_more c es n e at = ap (states_before (start c)) (front es n e at) ∙ before_push (start c) (take n es) e

abbrev view_at : Config → Version → List Event → ℕ → State → List State → View
view_at c version es n s past = record { config = c; version = version; events = es; cursor = n; state = s; past = past }

-- one event on
pub at_next : (c : Config) (version : Version) (es : List Event) (n : ℕ) (s s' : State) (past past' : List State) (e : Event) → view_at c version es n s past ≡ at_cursor c version es n → slice_get es n ≡ Some e → s' ≡ after_event s e → past' ≡ past ++ s ∷ [] → view_at c version es (n + 1) s' past' ≡ at_cursor c version es (n + 1)
at_next c version es n s s' past past' e v at is grown =
    let state : s' ≡ run_of c (take (n + 1) es) = is ∙ ap (λ (w : View). after_event w.state e) v ∙ sym (run_more c es n e at) in
    let older : past' ≡ states_before (start c) (take (n + 1) es) = grown ∙ ap (λ (w : View). w.past ++ w.state ∷ []) v ∙ sym (before_more c es n e at) in
    λ i. view_at c version es (n + 1) (state i) (older i)

pub item : (es : List Event) (n : ℕ) → n < length es → (e : Event) × (slice_get es n ≡ Some e)
item es n h = ⊎_elim (λ w. (w.0, w.2)) (λ w. absurd (omega (arith, w.0))) (slice_get_cases es n).1

-- one event back
pub at_before : (c : Config) (version : Version) (es : List Event) (m n : ℕ) (s s' : State) (past past' : List State) → m ≡ n + 1 → m ≤ length es → view_at c version es m s past ≡ at_cursor c version es m → past ≡ past' ++ s' ∷ [] → view_at c version es n s' past' ≡ at_cursor c version es n
at_before c version es m n s s' past past' one within v popped =
    let (e, at) = item es n (omega arith) in
    let both = same_from_push past' (states_before (start c) (take n es)) s' (run_of c (take n es)) (sym popped ∙ ap (λ (w : View). w.past) v ∙ ap (λ k. states_before (start c) (take k es)) one ∙ before_more c es n e at) in
    λ i. view_at c version es n (both.1 i) (both.0 i)
