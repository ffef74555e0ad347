use Rattle.amr_engine.specs.declared.state.change.Change.{Change}
use Rattle.std.proofs.Common.{◌≡◌, ◌≤◌, ◌*◌, List, length, sym, ap, subst, ◌∙◌, ◌++◌, ◌∷◌, []}
use Rattle.amr_engine.specs.State.State.{State}
use Rattle.amr_engine.specs.State.Steps.{Steps}
use Rattle.amr_engine.specs.State.Kept.{Kept}
use Rattle.amr_engine.specs.State.Records.{befores, put_back}
use Rattle.amr_engine.specs.Events.{after_event}
use Rattle.amr_engine.specs.CachedQuiet.{IsTrueOf}
use Rattle.amr_engine.specs.Placed.{StayPlaced}
use Rattle.amr_engine.specs.Weight.{event_weight}
use Rattle.amr_engine.proofs.PlacedRuns.{applied_stays}
use Rattle.amr_engine.proofs.Settling.{has_room, past_is, records_are, state_back, put_back_whole, is_idle, label_entryless}
use Rattle.amr_engine.proofs.engine.Engine.apply_noting.Goals as goal

abbrev steps_of : State → List (List Change) → Steps
steps_of state records = record { state = state; past = befores records state; records = records }

abbrev seen : Kept → Steps
seen k = steps_of k.state k.records

pub close-requires : goal.close-requires
close-requires c = has_room c.begin.new.self c.attempt.new.store c.in-Ok.ensures.settled.undone_is c.in_ok-begin.ensures.room

pub invariant_of-self-in-Err : goal.invariant_of-self-in-Err
invariant_of-self-in-Err c =
    let before = c.self.inside.store in
    let after = c.undo_open.new.self in
    let begun = c.begin.new.self in
    let whole : after ≡ begun = put_back_whole begun c.attempt.new.store after (c.in_ok-begin.ensures.current ∙ c.self.invariant.0) c.in-Err.ensures.kept c.undo_open.ensures in
    let same : seen after ≡ steps_of before.state before.records = ap seen whole ∙ (λ i. steps_of (c.in_ok-begin.ensures.state i) (c.in_ok-begin.ensures.records i)) in (
      is_idle c.attempt.new.store after c.undo_open.ensures,
      c.clear.ensures after.state,
      subst (λ (v : Steps). StayPlaced v.state v.past) (sym same) c.self.invariant.2,
    )

pub invariant_of-self-in-Ok : goal.invariant_of-self-in-Ok
invariant_of-self-in-Ok c =
    let before = c.self.inside.store in
    let after = c.close.new.self in
    let done = c.in-Ok.ensures.settled in (
      c.close.ensures.current,
      subst (IsTrueOf c.attempt.new.quiet_groups) (sym c.close.ensures.state) c.in-Ok.ensures.cache,
      applied_stays before.state after.state (befores before.records before.state) (befores after.records after.state) c.args.event.now
          (c.close.ensures.state ∙ done.state ∙ ap (λ (s : State). after_event s c.args.event.now) c.in_ok-begin.ensures.state)
          (past_is c.begin.new.self c.attempt.new.store done.undone_is after c.close.ensures.state c.close.ensures.records
          ∙ (λ i. befores (c.in_ok-begin.ensures.records i) (c.in_ok-begin.ensures.state i) ++ c.in_ok-begin.ensures.state i ∷ []))
          c.self.invariant.2,
    )

pub returns-in-Ok-clause-past : goal.returns-in-Ok-clause-past
returns-in-Ok-clause-past c =
    past_is c.begin.new.self c.attempt.new.store c.in-Ok.ensures.settled.undone_is c.close.new.self c.close.ensures.state c.close.ensures.records
    ∙ (λ i. befores (c.in_ok-begin.ensures.records i) (c.in_ok-begin.ensures.state i) ++ c.in_ok-begin.ensures.state i ∷ [])
    ∙ ap (λ (v : Steps). v.past ++ v.state ∷ []) c.self.view_is

pub returns-in-Ok-clause-record_kept : goal.returns-in-Ok-clause-record_kept
returns-in-Ok-clause-record_kept c =
    let done = c.in-Ok.ensures.settled in
    let left = c.attempt.new.store in
    let short =
    subst (λ (p : State × State). length left.current ≤ 4 * event_weight p.0 c.args.event.now p.1) (λ i. ((c.in_ok-begin.ensures.state ∙ ap (λ (v : Steps). v.state) c.self.view_is) i, sym c.close.ensures.state i)) done.short in (
      left.current,
      record {
        added = c.close.ensures.records ∙ ap (λ rs. rs ++ left.current ∷ []) (records_are c.begin.new.self left done.undone_is ∙ c.in_ok-begin.ensures.records ∙ ap (λ (v : Steps). v.records) c.self.view_is);
        back = ap (λ (state : State). put_back left.current state) c.close.ensures.state ∙ state_back c.begin.new.self left done.undone_is ∙ c.in_ok-begin.ensures.state ∙ ap (λ (v : Steps). v.state) c.self.view_is;
        empty = done.empty;
        label = label_entryless c.args.self.now.state c.close.new.self.state c.args.event.now left.current short;
        short = short;
      },
    )

pub returns-in-Err-clause-err : goal.returns-in-Err-clause-err
returns-in-Err-clause-err c =
    let begun = c.begin.new.self in
    let whole : c.undo_open.new.self ≡ begun = put_back_whole begun c.attempt.new.store c.undo_open.new.self (c.in_ok-begin.ensures.current ∙ c.self.invariant.0) c.in-Err.ensures.kept c.undo_open.ensures in
    ap seen whole
    ∙ (λ i. steps_of (c.in_ok-begin.ensures.state i) (c.in_ok-begin.ensures.records i))
    ∙ c.self.view_is
