-- How many entries an event adds to the open record.
use Rattle.std.proofs.Common.{◌≡◌, ℕ, suc, false, List, ◌∷◌, Option, None, Some, length, drop, ◌+◌, ◌-◌, ◌*◌, ◌≤◌, ◌<◌, fold, sum_by, get_or, sym, ap, ◌∙◌, arith}
use Rattle.std.specs.Option.{option_map, option_map_or}
use Rattle.std.proofs.lemmas.List.{at_drop_more}
use Rattle.std.proofs.lemmas.List.Sums.{sum_by-cons, sum_by-drop_more}
use Rattle.amr_labels.specs.Map.{entries}
use Rattle.amr_labels.specs.Labels.{LabelSet}
use Rattle.amr_time.specs.Time.{Moment}
use Rattle.amr_config.specs.Stated.Config.{Config}
use Rattle.amr_config.specs.Routing.{chosen_routes}
use Rattle.amr_rules.specs.declared.alert.Alert.{Alert}
use Rattle.amr_events.specs.Actions.Events.{Event, Act, is_label}
use Rattle.amr_engine.specs.State.State.{State}
use Rattle.amr_engine.specs.State.Dues.{Due, next_due}
use Rattle.amr_engine.specs.declared.prepare.Prepared as prepare
use Rattle.amr_engine.specs.Runs.{after_step}
use Rattle.amr_engine.specs.Moves.{move, advance}
use Rattle.amr_engine.specs.Events.{at_moment, move_limit, with_config}
use Rattle.amr_engine.specs.Applied.{run_moved}
use Rattle.amr_engine.specs.Prepared.{DoesAsPrepared, entries_of}
use Rattle.amr_engine.specs.Weight.{move_weight, moves_weight, first_weight, reload_entries, alert_weight, alerts_weight, copies, act_weight, event_weight}
use Rattle.amr_engine.proofs.RunsLaws.{run_holds}
use Rattle.amr_engine.proofs.Endings.{Ran, some_run, stays}
use Rattle.amr_engine.proofs.Copied.{copies_are_members}

abbrev spent_by : State → Option (List Due × State) → ℕ
spent_by s run = option_map_or (λ q. moves_weight s q.0) run 0

pub first_weight-some : (n : ℕ) (at : Moment) (s : State) (d : Due) → next_due at s ≡ Some d → first_weight (suc n) at s ≡ move_weight s d d.kind + first_weight n at (move d s)
first_weight-some n at s d e = ap (λ (o : Option Due). option_map_or (λ d. move_weight s d d.kind + first_weight n at (move d s)) o 0) e

pub first_weight-none : (n : ℕ) (at : Moment) (s : State) → next_due at s ≡ None → first_weight n at s ≡ 0
first_weight-none n at s e = grind arith

-- the weight of a run's moves
abbrev IsWeighed : Moment → ℕ → State → Option (List Due × State) → Type 0
IsWeighed at n s run = (r : List Due × State) → run ≡ Some r → first_weight n at s ≡ moves_weight s r.0

stepped : (at : Moment) (n : ℕ) (s : State) (d : Due) (run : Option (List Due × State)) → next_due at s ≡ Some d → IsWeighed at n (move d s) run
    → IsWeighed at (suc n) s (option_map (after_step (next_due at) move d) run)
stepped at n s d run next rest r e = grind (arith, first_weight-some n at s d next, rest)

first_weight-run : (limit : ℕ) (at : Moment) (s : State) → IsWeighed at limit s (advance limit at s)
first_weight-run limit at s =
    run_holds (next_due at) move (IsWeighed at) (λ n s none r e. first_weight-none n at s none ∙ ap (spent_by s) e) (λ s d next r e. absurd (cc)) (stepped at) limit s

-- before the first move
pub none_spent : (limit : ℕ) (at : Moment) (s : State) (k : ℕ) → k + 2 * first_weight (limit - 0) at s ≤ k + 2 * first_weight limit at s
none_spent limit at s k = grind arith

-- one more move keeps the count
pub spent : (limit made : ℕ) (at : Moment) (s next : State) (d : Due) (now later bound : ℕ) → now + 2 * first_weight (limit - made) at s ≤ bound
    → made < limit → Some d ≡ next_due at s → next ≡ move d s → later ≤ now + 2 * move_weight s d d.kind → later + 2 * first_weight (limit - (made + 1)) at next ≤ bound
spent limit made at s next d now later bound so_far less some is grown =
    let one : limit - made ≡ suc (limit - (made + 1)) = omega (arith, less) in
    grind (arith, one, first_weight-some (limit - (made + 1)) at s d (sym some))

-- one more item of a list is done, and the rest is left
one_more : {X : Type 0} (f : X → ℕ) (xs : List X) (i : ℕ) (x : X) → i < length xs → x ≡ get_or xs i x → sum_by f (drop i xs) ≡ f x + sum_by f (drop (i + 1) xs)
one_more f xs i x less is = sum_by-drop_more f xs i x less ∙ ap (λ y. f y + sum_by f (drop (i + 1) xs)) (sym is)

pub fold_left : {A X : Type 0} (f : A → X → A) (s : A) (xs : List X) (i : ℕ) (x : X) → i < length xs → x ≡ get_or xs i x → fold f s (drop i xs) ≡ fold f (f s x) (drop (i + 1) xs)
fold_left f s xs i x less is = at_drop_more (fold f s) xs i x less ∙ ap (λ y. fold f (f s y) (drop (i + 1) xs)) (sym is)

-- one more alert is inserted into its groups
pub placed_more : (config was : Config) (alerts : List (LabelSet × Alert)) (i : ℕ) (alert : LabelSet × Alert) (now later bound : ℕ) → now + 2 * copies config (drop i alerts) ≤ bound
    → i < length alerts → alert ≡ get_or alerts i alert → was ≡ config → later ≤ now + 2 * length (chosen_routes was alert.0) → later + 2 * copies config (drop (i + 1) alerts) ≤ bound
placed_more config was alerts i alert now later bound so_far less is same grown = grind (arith, one_more (λ a. length (chosen_routes config a.0)) alerts i alert less is)

-- one more alert is stored
pub put_more : (config was : Config) (alerts : List (LabelSet × Alert)) (alert : LabelSet × Alert) (rest : List (LabelSet × Alert)) (now later bound : ℕ) → now + alerts_weight config alerts ≤ bound
    → alerts ≡ alert ∷ rest → was ≡ config → later ≤ now + alert_weight was alert.0 → later + alerts_weight config rest ≤ bound
put_more config was alerts alert rest now later bound so_far is same grown = grind (arith, sum_by-cons (λ (a : LabelSet × Alert). alert_weight config a.0) alert rest)

-- the entries of a reload
pub reloaded : (s : State) (config replacing : Config) (alerts : List (LabelSet × Alert)) (after : State) (now replaced placed : ℕ) → after ≡ with_config s config → replacing ≡ config
    → alerts ≡ entries s.alerts → replaced ≤ now + 1 → placed ≤ replaced + 2 * copies replacing alerts → placed ≤ now + reload_entries after
reloaded s config replacing alerts after now replaced placed is same all first later = grind (arith, copies_are_members s config)

-- an accepted event as a whole
pub light_done : (s : State) (event : Event) (at : Moment) (act : Act) (at_is : at ≡ event.at) (act_is : act ≡ event.act) (prepared : prepare.Prepared) (count : ℕ) (next after : State)
    (now moved done : ℕ) → is_label act ≡ false → DoesAsPrepared s at act prepared
    → Some (count, next) ≡ run_moved at (advance move_limit at s) → moved ≤ now + (1 + 2 * first_weight move_limit at s) → done ≤ moved + entries_of prepared next after
    → done ≤ now + 4 * event_weight s event after
light_done s event at act at_is act_is prepared count next after now moved done no_label does ran went acted =
    let r : Ran at (advance move_limit at s) count next = some_run at (advance move_limit at s) count next ran in
    let light : entries_of prepared next after ≤ 1 + 2 * act_weight next after act = does.light next after (stays s at count next ran) in
    let ends : act_weight next after act ≡ act_weight (at_moment at r.moved) after act = ap (λ (x : State). act_weight x after act) r.ends in
    grind (arith, light, ends, first_weight-run move_limit at s (r.moves, r.moved) r.ran, r.ran)
