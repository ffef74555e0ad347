use Rattle.std.proofs.Common.{◌≡◌, ℕ, ◌-◌, ◌≤◌, ◌∷◌, Some, None, refl, arith, rules}
use Rattle.std.proofs.lemmas.Option.{IfSome_then}
use Rattle.json.specs.Token.{Token}
use Rattle.json.specs.Json.{read_key}
use Rattle.json.proofs.Grammar.{read_key-shorter}
use Rattle.serde_json.specs.Data.{no_members, put}
use Rattle.amr_events.specs.Posted.{alert_of}
use Rattle.amr_events.specs.Tokens.{IsDraft}
use Rattle.amr_events.proofs.Stating.{states_object, no_member_read, one_more_member, all_members_read}
use Rattle.amr_events.proofs.Drafting.{empty_draft}
use Rattle.amr_events.proofs.posted_tokens.usual_alert.Goals as goal

pub loop-draft-init : goal.loop-draft-init
loop-draft-init c = record {
  read = λ (depth : ℕ) (some : 1 ≤ depth). (no_members, no_member_read depth c.opens_object.new.reader, rw c.new-draft.ensures (empty_draft _ refl c.in_ok-no_texts.ensures refl refl));
  shorter = omega arith;
}

pub returns-in-Ok-None-clause-read : goal.returns-in-Ok-None-clause-read
returns-in-Ok-None-clause-read c =
    let opened : c.args.reader.now ≡ Token.begin_object ∷ c.opens_object.new.reader = search rules in
    let closed : read_key c.loop-draft.reader ≡ Some (None, c.next_key.new.self) = grind arith in
    IfSome_then c.finish.result c.finish.ensures (λ alert finishes depth some.
    let so_far = c.loop-draft.invariant.read (depth - 1) (omega (arith, some)) in
    states_object depth (λ d. alert_of d ≡ Some alert) c.args.reader.now c.opens_object.new.reader c.next_key.new.self so_far.0 (omega (arith, some)) opened
    (all_members_read (depth - 1) c.opens_object.new.reader c.loop-draft.reader c.next_key.new.self so_far.0 so_far.1 closed) (finishes so_far.0 so_far.2))

pub loop-draft-preserved : goal.loop-draft-preserved
loop-draft-preserved c =
    let key = c.in-Ok-Some.key.now in
    let added = rw c.in-Some.is at c.in_ok-more-in-Ok-Some.ensures.added in
    let lesser = rw c.in-Some.is at c.in_ok-more-in-Ok-Some.ensures.shorter in
    let named : read_key c.loop-draft.reader ≡ Some (Some key, c.next_key.new.self) = grind arith in
    let less = read_key-shorter c.loop-draft.reader (Some key) c.next_key.new.self named in
    record {
      read = λ (depth : ℕ) (some : 1 ≤ depth).
          let so_far = c.loop-draft.invariant.read depth some in
          let stated = added depth some so_far.0 so_far.2 in
          (put key stated.stated so_far.0, one_more_member depth (λ d. IsDraft (put key d so_far.0) c.in-Some.more) c.opens_object.new.reader c.loop-draft.reader c.next_key.new.self c.read_member.new.reader so_far.0 key so_far.1 named less lesser stated, stated.such);
      shorter = omega (arith, less, lesser, c.loop-draft.invariant.shorter);
    }
