-- Flushes of quiet groups can be made in any order, so those of one group can all be made first.
use Rattle.std.proofs.Common.{[], ◌≡◌, ℕ, zero, suc, true, IsSomeAnd, List, ◌∷◌, ◌++◌, Option, Some, None, ◌≤◌, ◌<◌, ◌+◌, ◌-◌, ◌*◌, ◌/◌, map, option_map, IsTrue, IfSome, Contains, filter_map, is_eq, mul-le-mul_right, div-add-mod', true≢false, refl, sym, ap, ◌∙◌, subst, arith}
use Rattle.std.specs.Option.{option_map_or}
use Rattle.std.proofs.lemmas.Cmp.{tied_itself}
use Rattle.amr_labels.specs.Map.{Map, get, insert, entries}
use Rattle.amr_labels.specs.Labels.{label_set_cmp_total, label_set_cmp-IsAntisymmetric}
use Rattle.amr_time.specs.Time.{Moment, second, next_multiple_of}
use Rattle.amr_config.specs.Routing.{group_interval_of}
use Rattle.amr_config.specs.declared.route_labels.RouteLabels.{RouteLabels}
use Rattle.amr_config.specs.RouteLabels.{on_route, route_labels_cmp, route_labels_cmp_total, route_labels_cmp-IsAntisymmetric}
use Rattle.amr_rules.specs.Muting.{Alerts}
use Rattle.amr_engine.specs.declared.state.notification.GroupTimer.{GroupTimer}
use Rattle.amr_engine.specs.State.State.{State}
use Rattle.amr_engine.specs.declared.quiet.QuietGroups.{QuietGroups}
use Rattle.amr_engine.specs.CachedQuiet.{IsTrueOf}
use Rattle.amr_engine.specs.declared.state.due.Kind.{Kind}
use Rattle.amr_engine.specs.declared.state.due.Kind.TheVariants.{AlertRemoval, GroupRemoval, GroupFlush}
use Rattle.amr_engine.specs.declared.state.due.Timer.{Timer}
use Rattle.amr_engine.specs.declared.state.due.Timer.TheVariants as timers
use Rattle.amr_engine.specs.State.Timed.{IsFirstOfKind}
use Rattle.amr_tables.specs.Members.{has}
use Rattle.amr_tables.specs.Places.{value_at}
use Rattle.amr_tables.specs.Numbered.{Numbered, map_of, key_at, next_number, IsNumbering}
use Rattle.amr_tables.proofs.Naming.{key_at_number, number_of_value, value_at_number}
use Rattle.amr_engine.specs.State.Dues.{Due, due_at, due_cmp, due_cmp_total, due_cmp-IsAntisymmetric, dues_of, dues, alert_removal_of, group_removal_of, flush_of, next_due}
use Rattle.amr_engine.specs.Quiet.{with_timer_reset}
use Rattle.amr_engine.specs.Moves.{move, advance, counted_run, plus_moves}
use Rattle.amr_engine.specs.Weight.{move_weight, first_weight}
use Rattle.amr_engine.specs.Said.{IsIn}
use Rattle.amr_engine.specs.Calm.{AreNoneRemoved, IsQuietBeyond, IsCalm}
use Rattle.amr_engine.proofs.Cascade.{advance_over, advance_some, counted_holds, plus_twice}
use Rattle.amr_engine.proofs.Growing.{first_weight-some}
use Rattle.amr_engine.proofs.Listed.{none_listed, first_or_rest}
use Rattle.amr_engine.proofs.PlacedLists.{among_entries, get-inserted, get-insert_apart, get-insert_cases, same_or_apart}
use Rattle.amr_engine.proofs.Lasting.{in_map, in_right, timer_among, removal_at, removal_of, due_holds, next_is_due, some_due}
use Rattle.amr_engine.proofs.CachedQuiet.{stays_true}
use Rattle.amr_engine.proofs.QuietLaws.{quiet_flush, stays_quiet}
use Rattle.amr_engine.proofs.QuietStays.{apart}
use Rattle.std.proofs.lemmas.Map.Views.{tells_apart}
use Rattle.amr_engine.proofs.StateLemmas.Least.{not_later}
use Rattle.amr_engine.proofs.StateLemmas.Undoing.{set-set, set-swap}

abbrev Timers : Type 0
Timers = Map route_labels_cmp GroupTimer

-- ---- a timer that is set

got_other : (timers : Timers) (group other : RouteLabels) (new : GroupTimer) → (other ≡ group → ⊥) → get (insert timers group new) other ≡ get timers other
got_other timers group other new differ =
    get-insert_apart route_labels_cmp_total route_labels_cmp-IsAntisymmetric timers group new other (apart route_labels_cmp-IsAntisymmetric other group differ)

-- two timers can be set in either order
set_both : (timers : Timers) (a b : RouteLabels) (x y : GroupTimer) → (a ≡ b → ⊥) → insert (insert timers a x) b y ≡ insert (insert timers b y) a x
set_both timers a b x y differ =
    set-swap route_labels_cmp_total route_labels_cmp-IsAntisymmetric timers a b (Some x) (Some y) (apart route_labels_cmp-IsAntisymmetric a b differ)

-- of a timer that is set twice, the second counts
set_again : (timers : Timers) (group : RouteLabels) (x y : GroupTimer) → insert (insert timers group x) group y ≡ insert timers group y
set_again timers group x y =
    set-set route_labels_cmp_total route_labels_cmp-IsAntisymmetric timers group group (Some x) (Some y) (ap is_eq (tied_itself route_labels_cmp_total group))

-- the group's next flush is at this moment, and it was flushed
abbrev pub set_at : State → RouteLabels → GroupTimer → Moment → State
set_at s group timer next = record s { timers = insert s.timers group (record timer { next_flush = next; flushed = true }) }

pub reset_is : (m : Moment) (s : State) (group : RouteLabels) (timer : GroupTimer) → get s.timers group ≡ Some timer
    → with_timer_reset m group s ≡ set_at s group timer (m + group_interval_of s.config group.route)
reset_is m s group timer timed =
    ap (λ (o : Option GroupTimer). record s { timers = option_map_or (λ t. insert s.timers group (record t { next_flush = m + group_interval_of s.config group.route; flushed = true })) o s.timers }) timed

-- ---- removals

-- if none is removed up to the moment, a removal that is pending is later
module _ (at : Moment) (alerts : Alerts) (timers : Timers) (none : AreNoneRemoved at alerts timers) where
  pub removed_later : (d : Due) → (d.kind ≡ GroupFlush → ⊥) → IsIn d (dues_of alerts timers) → at < d.moment
  removed_later d removal among =
      due_holds alerts timers (λ d. (d.kind ≡ GroupFlush → ⊥) → at < d.moment) (λ labels alert got _. none.of_alerts labels alert got)
      (λ group timer since timed empty _. none.of_groups group timer (next_multiple_of since (30 * second)) timed (ap (option_map (λ m. next_multiple_of m (30 * second))) empty))
      (λ _ _ _ removal. absurd (removal refl)) d among removal

-- ---- the next move

module _ (at : Moment) where
  -- the move sets the timer of a group that is due
  pub record Resets (s : State) (d : Due) : Type 0 where
    pub group : RouteLabels
    pub timer : GroupTimer
    pub timed : get s.timers group ≡ Some timer
    pub soon : timer.next_flush ≤ at
    pub is : d ≡ flush_of (group, timer)
    pub made : move d s ≡ set_at s group timer (timer.next_flush + group_interval_of s.config group.route)

  resets_flush : (s : State) (entry : RouteLabels × GroupTimer) → IsCalm at s → get s.timers entry.0 ≡ Some entry.1 → entry.1.next_flush ≤ at → Resets s (flush_of entry)
  unfolding move
  resets_flush s entry calm timed soon =
      let quiet = calm.flushed entry.0 entry.1 timed soon in
      let before : entry.1.next_flush < quiet.until = omega (arith, soon, quiet.beyond) in
      record {
        group = entry.0;
        timer = entry.1;
        timed = timed;
        soon = soon;
        is = refl;
        made = quiet_flush s entry.0 quiet.from quiet.until entry.1.next_flush quiet.begun before quiet.quiet ∙ reset_is entry.1.next_flush s entry.0 entry.1 timed;
      }

  pub next_resets : (s : State) (d : Due) → IsCalm at s → next_due at s ≡ Some d → Resets s d
  unfolding dues
  next_resets s d calm next =
      let due = next_is_due at s d next in
      due_holds s.alerts s.timers (λ d. d.moment ≤ at → Resets s d) (λ labels alert got soon. absurd (omega (arith, calm.removed.of_alerts labels alert got, soon)))
      (λ group timer since timed empty soon.
      absurd (omega (arith, calm.removed.of_groups group timer (next_multiple_of since (30 * second)) timed (ap (option_map (λ m. next_multiple_of m (30 * second))) empty), soon)))
      (λ group timer timed soon. resets_flush s (group, timer) calm timed soon) d due.0 due.1

  -- a group stays quiet beyond the moment when timers are set, its own to a later flush
  beyond_after : (s : State) (timers : Timers) (group : RouteLabels) (was timer : GroupTimer) → was.next_flush ≤ timer.next_flush → IsQuietBeyond at s group was
      → IsQuietBeyond at (record s { timers = timers }) group timer
  beyond_after s timers group was timer later quiet = record {
    from = quiet.from;
    until = quiet.until;
    begun = omega (arith, quiet.begun, later);
    beyond = quiet.beyond;
    quiet = stays_quiet s s.moment timers s.notes group quiet.from quiet.until quiet.quiet;
    apart = quiet.apart;
  }

  -- it stays calm when a timer is set later
  pub calm_after : (s : State) (group : RouteLabels) (timer : GroupTimer) (next : Moment) → IsCalm at s → get s.timers group ≡ Some timer → timer.next_flush ≤ at → timer.next_flush ≤ next
      → IsCalm at (set_at s group timer next)
  calm_after s group timer next calm timed soon later =
      let new : GroupTimer = record timer { next_flush = next; flushed = true } in
      let t : State = set_at s group timer next in
      let cases = get-insert_cases route_labels_cmp_total route_labels_cmp-IsAntisymmetric s.timers group new in
      record {
        removed = record {
          of_alerts = calm.removed.of_alerts;
          of_groups = λ other its removal got is. grind (arith, cases other its got, calm.removed.of_groups group timer removal timed, calm.removed.of_groups other its removal);
        };
        flushed = λ other its got due.
            let itself : its.next_flush ≤ its.next_flush = omega arith in
            let own = beyond_after s t.timers group timer new later (calm.flushed group timer timed soon) in
            grind (arith, cases other its got, own, beyond_after s t.timers other its its itself, calm.flushed other its);
      }

  -- ---- the flushes of one group, made first

  abbrev pub later_by : State → RouteLabels → GroupTimer → ℕ → State
  later_by s group timer flushes = set_at s group timer (timer.next_flush + flushes * group_interval_of s.config group.route)

  abbrev once : State → RouteLabels → GroupTimer → State
  once s group timer = set_at s group timer (timer.next_flush + group_interval_of s.config group.route)

  once_calm : (s : State) (group : RouteLabels) (timer : GroupTimer) → IsCalm at s → get s.timers group ≡ Some timer → timer.next_flush ≤ at → IsCalm at (once s group timer)
  once_calm s group timer calm timed soon = calm_after s group timer (timer.next_flush + group_interval_of s.config group.route) calm timed soon (omega arith)

  over : (s : State) (group : RouteLabels) (timer : GroupTimer) → get s.timers group ≡ Some timer → timer.next_flush ≤ at → counted_run (advance 0 at s) ≡ None
  over s group timer timed soon = let d = some_due at group s timer timed soon in advance_over at s d.0 d.1

  -- if it makes no difference which of two other groups is flushed first
  one_first : (l : ℕ) (s : State) (group : RouteLabels) (timer : GroupTimer) → IsCalm at s → get s.timers group ≡ Some timer → timer.next_flush ≤ at
      → ((other : RouteLabels) (its : GroupTimer) → get s.timers other ≡ Some its → its.next_flush ≤ at → (other ≡ group → ⊥)
      → counted_run (advance l at (once s other its)) ≡ counted_run (advance l at (once s group timer)))
      → counted_run (advance (suc l) at s) ≡ plus_moves (counted_run (advance l at (once s group timer))) 1
  one_first l s group timer calm timed soon beside =
      let d = some_due at group s timer timed soon in
      let first = next_resets s d.0 calm d.1 in
      let either = same_or_apart route_labels_cmp_total route_labels_cmp-IsAntisymmetric first.group group in
      grind (arith, advance_some l at s d.0 d.1, first.made, first.timed, either, beside first.group first.timer first.timed first.soon)

  -- any group that is due can be flushed first
  any_first : (l : ℕ) (s : State) (group : RouteLabels) (timer : GroupTimer) → IsCalm at s → get s.timers group ≡ Some timer → timer.next_flush ≤ at
      → counted_run (advance (suc l) at s) ≡ plus_moves (counted_run (advance l at (once s group timer))) 1
  any_first zero s group timer calm timed soon =
      one_first zero s group timer calm timed soon (λ other its got due differ.
      over (once s other its) group timer (got_other s.timers other group _ (λ same. differ (sym same)) ∙ timed) soon
      ∙ sym (over (once s group timer) other its (got_other s.timers group other _ differ ∙ got) due))
  any_first (suc k) s group timer calm timed soon =
      one_first (suc k) s group timer calm timed soon (λ other its got due differ.
      any_first k (once s other its) group timer (once_calm s other its calm got due) (got_other s.timers other group _ (λ same. differ (sym same)) ∙ timed) soon
      ∙ ap (λ (timers : Timers). plus_moves (counted_run (advance k at (record s { timers = timers }))) 1) (set_both s.timers other group _ _ differ)
      ∙ sym (any_first k (once s group timer) other its (once_calm s group timer calm timed soon) (got_other s.timers group other _ differ ∙ got) due))

  -- and so can all of its flushes
  pub all_first : (k l : ℕ) (s : State) (group : RouteLabels) (timer : GroupTimer) → IsCalm at s → get s.timers group ≡ Some timer
      → timer.next_flush + k * group_interval_of s.config group.route ≤ at
      → counted_run (advance (suc (k + l)) at s) ≡ plus_moves (counted_run (advance l at (later_by s group timer (suc k)))) (suc k)
  all_first zero l s group timer calm timed late = let soon : timer.next_flush ≤ at = omega (arith, late) in grind (arith, any_first l s group timer calm timed soon)
  all_first (suc k) l s group timer calm timed late =
      let interval = group_interval_of s.config group.route in
      let soon : timer.next_flush ≤ at = omega (arith, late) in
      let after : GroupTimer = record timer { next_flush = timer.next_flush + interval; flushed = true } in
      let rest : timer.next_flush + interval + k * interval ≤ at = omega (arith, late) in
      let next : timer.next_flush + interval + suc k * interval ≡ timer.next_flush + suc (suc k) * interval = omega arith in
      let count : suc k + l ≡ suc (k + l) = omega arith in
      let one_more : 1 + suc k ≡ suc (suc k) = omega arith in
      let more = all_first k l (once s group timer) group after (once_calm s group timer calm timed soon) (get-inserted route_labels_cmp_total route_labels_cmp-IsAntisymmetric s.timers group after) rest in
      let twice = plus_twice (counted_run (advance l at (later_by (once s group timer) group after (suc k)))) (suc k) 1 in
      let again = set_again s.timers group after (record timer { next_flush = timer.next_flush + interval + suc k * interval; flushed = true }) in
      grind (arith, any_first (suc k + l) s group timer calm timed soon, more, twice, again, next, count, one_more)

  -- if they are more than the limit, the moves are
  pub over_first : (l : ℕ) (s : State) (group : RouteLabels) (timer : GroupTimer) → IsCalm at s → get s.timers group ≡ Some timer
      → timer.next_flush + l * group_interval_of s.config group.route ≤ at → counted_run (advance l at s) ≡ None
  over_first zero s group timer calm timed late = over s group timer timed (omega (arith, late))
  over_first (suc l) s group timer calm timed late =
      let interval = group_interval_of s.config group.route in
      let soon : timer.next_flush ≤ at = omega (arith, late) in
      let after : GroupTimer = record timer { next_flush = timer.next_flush + interval; flushed = true } in
      let rest : timer.next_flush + interval + l * interval ≤ at = omega (arith, late) in
      any_first l s group timer calm timed soon
      ∙ ap (λ r. plus_moves r 1) (over_first l (once s group timer) group after (once_calm s group timer calm timed soon) (get-inserted route_labels_cmp_total route_labels_cmp-IsAntisymmetric s.timers group after) rest)

-- ---- what the code makes at once

-- nothing but the flush of a group is due
pub only_flushes : (at : Moment) (s : State) (moment : Moment) (timer : Timer) → IsCalm at s → next_due at s ≡ Some (due_at moment timer) → ((group : RouteLabels) → timer ≡ timers.GroupFlush group → ⊥) → ⊥
only_flushes at s moment (timers.GroupFlush group) calm next none = none group refl
only_flushes at s moment timer calm next none = cc (ap (λ (d : Due). d.kind) (next_resets at s (due_at moment timer) calm next).is)

record Flushed (at : Moment) (s : State) (moment : Moment) (group : RouteLabels) : Type 0 where
  timer : GroupTimer
  timed : get s.timers group ≡ Some timer
  first : timer.next_flush ≡ moment
  soon : moment ≤ at
  apart : 0 < group_interval_of s.config group.route

flushed_group : (at : Moment) (s : State) (moment : Moment) (group : RouteLabels) → IsCalm at s → next_due at s ≡ Some (due_at moment (timers.GroupFlush group)) → Flushed at s moment group
flushed_group at s moment group calm next =
    let r = next_resets at s (due_at moment (timers.GroupFlush group)) calm next in
    let same : r.group ≡ group = ap (λ (d : Due). on_route d.route d.labels) (sym r.is) in
    let first : r.timer.next_flush ≡ moment = ap (λ (d : Due). d.moment) (sym r.is) in
    record {
      timer = r.timer;
      timed = ap (get s.timers) (sym same) ∙ r.timed;
      first = first;
      soon = subst (λ m. m ≤ at) first r.soon;
      apart = subst (λ (g : RouteLabels). 0 < group_interval_of s.config g.route) same (calm.flushed r.group r.timer r.timed r.soon).apart;
    }

pub are_apart : (at : Moment) (s : State) (moment : Moment) (group : RouteLabels) → IsCalm at s → next_due at s ≡ Some (due_at moment (timers.GroupFlush group)) → 0 < group_interval_of s.config group.route
are_apart at s moment group calm next = (flushed_group at s moment group calm next).apart

-- how often the group is flushed after its first flush
abbrev pub more_flushes : Moment → State → Moment → RouteLabels → ℕ
more_flushes at s moment group = (at - moment) / group_interval_of s.config group.route

last_is : (at moment interval : ℕ) → moment ≤ at → moment + (at - moment) / interval * interval ≤ at
last_is at moment interval soon = let rest = div-add-mod' (at - moment) interval in omega (arith, rest, soon)

-- the flushes of a group, made at once
pub record AreMade (at : Moment) (s t : State) (flushes : ℕ) : Type 0 where
  pub calm : IsCalm at t
  pub counted : (l : ℕ) → counted_run (advance (flushes + l) at s) ≡ plus_moves (counted_run (advance l at t)) flushes
  pub cache : (cache : QuietGroups) → IsTrueOf cache s → IsTrueOf cache t

pub at_once : (at : Moment) (s t : State) (moment : Moment) (group : RouteLabels) (last : Moment) → IsCalm at s → next_due at s ≡ Some (due_at moment (timers.GroupFlush group))
    → last ≡ moment + more_flushes at s moment group * group_interval_of s.config group.route → t ≡ with_timer_reset last group s → AreMade at s t (more_flushes at s moment group + 1)
at_once at s t moment group last calm due is made =
    let g = flushed_group at s moment group calm due in
    let interval = group_interval_of s.config group.route in
    let k = more_flushes at s moment group in
    let next = last + interval in
    let soon : g.timer.next_flush ≤ at = subst (λ m. m ≤ at) (sym g.first) g.soon in
    let late : g.timer.next_flush + k * interval ≤ at = subst (λ m. m + k * interval ≤ at) (sym g.first) (last_is at moment interval g.soon) in
    let first = g.first in
    let last_from : last ≡ g.timer.next_flush + k * interval = is ∙ ap (λ m. m + k * interval) (sym first) in
    let next_is : next ≡ g.timer.next_flush + suc k * interval = omega (arith, last_from) in
    let later : g.timer.next_flush ≤ next = omega (arith, last_from) in
    let set : t ≡ set_at s group g.timer next = made ∙ reset_is last s group g.timer g.timed in
    record {
      calm = subst (IsCalm at) (sym set) (calm_after at s group g.timer next calm g.timed soon later);
      counted = λ l. grind (arith, all_first at k l s group g.timer calm g.timed late, set, next_is);
      cache = λ cache holds. subst (IsTrueOf cache) (sym set) (stays_true s s.moment (set_at s group g.timer next).timers s.notes cache holds);
    }

pub over_at_once : (at : Moment) (s : State) (moment : Moment) (group : RouteLabels) (l : ℕ) → IsCalm at s → next_due at s ≡ Some (due_at moment (timers.GroupFlush group))
    → l < more_flushes at s moment group + 1 → counted_run (advance l at s) ≡ None
over_at_once at s moment group l calm due over =
    let g = flushed_group at s moment group calm due in
    let interval = group_interval_of s.config group.route in
    let last = last_is at moment interval g.soon in
    let first = g.first in
    let few : l ≤ more_flushes at s moment group = omega (arith, over) in
    let fewer = mul-le-mul_right interval few in
    over_first at l s group g.timer calm g.timed (omega (arith, last, first, fewer))

-- ---- what is found of all groups

-- the groups with numbers below this one are quiet, if they are due
abbrev pub AreQuiet : Moment → State → Numbered RouteLabels GroupTimer → ℕ → Type 0
AreQuiet at s timers next = (n : ℕ) (group : RouteLabels) (timer : GroupTimer) → n < next → key_at timers n ≡ Some group → value_at timers.cells n ≡ Some timer
    → timer.next_flush ≤ at → IsQuietBeyond at s group timer

-- a group with a timer has a number
numbered : (t : Numbered RouteLabels GroupTimer) → IsNumbering route_labels_cmp t → (group : RouteLabels) (timer : GroupTimer) → get (map_of route_labels_cmp t) group ≡ Some timer
    → (n : ℕ) × (n < next_number t) × (key_at t n ≡ Some group) × (value_at t.cells n ≡ Some timer)
numbered t is group timer got =
    let n = number_of_value route_labels_cmp_total route_labels_cmp-IsAntisymmetric t is group timer got in
    let key = key_at_number route_labels_cmp_total route_labels_cmp-IsAntisymmetric t is group n.0 n.1 in
    (n.0, is.within group n.0 n.1, key, sym (value_at_number route_labels_cmp_total route_labels_cmp-IsAntisymmetric t is group n.0 n.1) ∙ got)

-- so is the group with the next number
pub one_more : (at : Moment) (s : State) (timers : Numbered RouteLabels GroupTimer) (next : ℕ) → AreQuiet at s timers next → (group : RouteLabels) (timer : GroupTimer)
    → Some group ≡ key_at timers next → Some timer ≡ value_at timers.cells next → (timer.next_flush ≤ at → IsQuietBeyond at s group timer) → AreQuiet at s timers (next + 1)
one_more at s timers next quiet group timer named timed here = λ n other its less other_named its_timed due. grind (arith, quiet n other its)

pub calm_if_quiet : (at : Moment) (s : State) (timers : Numbered RouteLabels GroupTimer) → IsNumbering route_labels_cmp timers → map_of route_labels_cmp timers ≡ s.timers
    → AreNoneRemoved at s.alerts s.timers → AreQuiet at s timers (next_number timers) → IsCalm at s
calm_if_quiet at s timers is shown removed quiet = record {
  removed = removed;
  flushed = λ group timer timed soon. let its = numbered timers is group timer (ap (λ (m : Timers). get m group) shown ∙ timed) in
      quiet its.0 group timer its.1 its.2 its.3 soon;
}

-- ---- each move has a weight

weighs : (s : State) (d : Due) (kind : Kind) → 1 ≤ move_weight s d kind
weighs s d kind = grind arith

module _ (at : Moment) where
  -- as many moves as were counted, or as the limit if there are more
  abbrev pub Weighs : ℕ → State → Option (ℕ × State) → Type 0
  Weighs l s None = l ≤ first_weight l at s
  Weighs l s (Some run) = run.0 ≤ first_weight l at s

  pub moves_weigh : (l : ℕ) (s : State) → Weighs l s (counted_run (advance l at s))
  moves_weigh = counted_holds at Weighs (λ l s e. omega arith) (λ s d e. omega arith) (λ l s d r e w. grind (arith, first_weight-some l at s d e, weighs s d d.kind))

-- ---- that nothing is removed

in_left : (d : Due) (xs ys : List Due) → IsIn d xs → IsIn d (xs ++ ys)
in_left d [] ys h = absurd h
in_left d (x ∷ xs) ys h = grind (arith, in_left d xs ys)

in_filter_map : {A : Type 0} (f : A → Option Due) (e : A) (d : Due) (es : List A) → Contains es e → f e ≡ Some d → IsIn d (filter_map f es)
in_filter_map f e d [] h is = absurd (none_listed e h)
in_filter_map f e d (x ∷ es) h is = grind (arith, first_or_rest x e es h, in_filter_map f e d es)

has_in : (d : Due) (dues : List Due) → IsIn d dues → IsTrue (has due_cmp dues d)
has_in d [] h = absurd h
has_in d (x ∷ dues) h = grind (arith, has_in d dues, tied_itself due_cmp_total d)

-- if the first timer of a kind is after the moment, all of the kind are
after_first : (at : Moment) (kind : Kind) (dues : List Due) (first : Option Due) → IsFirstOfKind kind dues first → IfSome first (λ due. at < due.moment)
    → (d : Due) → d.kind ≡ kind → IsIn d dues → at < d.moment
after_first at kind dues first is later d same among = grind (arith, has_in d dues among, not_later)

in_has : (d : Due) (dues : List Due) → IsTrue (has due_cmp dues d) → IsIn d dues
in_has d [] h = absurd (true≢false (sym h))
in_has d (x ∷ dues) h = grind (arith, in_has d dues, tells_apart due_cmp-IsAntisymmetric d x)

-- the first removal of a kind isn't due, if nothing is removed up to the moment
pub first_is_later : (at : Moment) (alerts : Alerts) (timers : Timers) (kind : Kind) (first : Option Due) → AreNoneRemoved at alerts timers → (kind ≡ GroupFlush → ⊥)
    → IsFirstOfKind kind (dues_of alerts timers) first → IsSomeAnd first (λ due. due.moment ≤ at) → ⊥
first_is_later at alerts timers kind None none removal is due = due
first_is_later at alerts timers kind (Some d) none removal is due = grind (arith, removed_later at alerts timers none d, in_has d (dues_of alerts timers) is.1.0)

pub none_removed : (at : Moment) (alerts : Alerts) (timers : Timers) (alert group : Option Due) → IsFirstOfKind AlertRemoval (dues_of alerts timers) alert
    → IsFirstOfKind GroupRemoval (dues_of alerts timers) group → IfSome alert (λ due. at < due.moment) → IfSome group (λ due. at < due.moment) → AreNoneRemoved at alerts timers
none_removed at alerts timers alert group first_alert first_group later_alert later_group = record {
  of_alerts = λ labels stored got.
      let d = alert_removal_of (labels, stored) in
      let among = among_entries label_set_cmp_total label_set_cmp-IsAntisymmetric alerts labels stored got in
      after_first at AlertRemoval (dues_of alerts timers) alert first_alert later_alert d refl
      (in_left d (map alert_removal_of (entries alerts) ++ filter_map group_removal_of (entries timers)) (map flush_of (entries timers))
      (in_left d (map alert_removal_of (entries alerts)) (filter_map group_removal_of (entries timers)) (in_map alert_removal_of (labels, stored) (entries alerts) among)));
  of_groups = λ key timer removal got is.
      let d : Due = removal_at key removal in
      let same : group_removal_of (key, timer) ≡ Some d = removal_is key timer removal timer.empty_since is in
      after_first at GroupRemoval (dues_of alerts timers) group first_group later_group d refl
      (in_left d (map alert_removal_of (entries alerts) ++ filter_map group_removal_of (entries timers)) (map flush_of (entries timers))
      (in_right d (map alert_removal_of (entries alerts)) (filter_map group_removal_of (entries timers))
      (in_filter_map group_removal_of (key, timer) d (entries timers) (timer_among timers key timer got) same)));
}
  where
    removal_is : (key : RouteLabels) (timer : GroupTimer) (removal : Moment) (o : Option Moment) → option_map (λ since. next_multiple_of since (30 * second)) o ≡ Some removal
        → option_map (removal_of key) o ≡ Some (removal_at key removal)
    removal_is key timer removal o is = grind arith
