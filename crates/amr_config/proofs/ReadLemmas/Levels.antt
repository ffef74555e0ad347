-- One level of the routes of routes.
use Rattle.std.proofs.Common.{◌≡◌, ◌≢◌, ℕ, zero, suc, ◌-◌, List, length, Option, Ok, Err, refl, ap, arith}
use Rattle.serde_json.specs.Data.{Data, Items}
use Rattle.amr_config.specs.declared.stated.route.Route.{Route}
use Rattle.amr_config.specs.declared.read.error.ConfigError.{ConfigError}
use Rattle.amr_config.specs.declared.read.error.Refusal.TheVariants.{Other}
use Rattle.amr_config.specs.declared.read.error.Cause.TheVariants.{TooDeep}
use Rattle.amr_config.specs.Read.Answers.{Fails, Stops}
use Rattle.amr_config.specs.Read.Readings.{Reading, MayGive, give, items_in_turn}
use Rattle.amr_config.specs.Read.RouteParts.{children_at}
use Rattle.amr_config.specs.Read.ReadRoutes.{own_into, add_route, child_into}
use Rattle.amr_config.proofs.ReadLemmas.Readings.{stops_first, stops_later, stops_plain}
use Rattle.amr_config.proofs.ReadLemmas.Turns.{Ends, ends_past}

pub at_zero : (whole : Data) (left : ℕ) (path : List ℕ) (parent : Option ℕ) (d : Data) (routes : List Route) → left ≡ 0 → (add_route whole left path parent d routes).value ≡ Err (Other TooDeep)
unfolding add_route
at_zero whole zero path parent d routes e = refl
at_zero whole (suc left) path parent d routes e = absurd (omega (arith, e))

pub own_stops : (e : ConfigError) (whole : Data) (left : ℕ) (path : List ℕ) (parent : Option ℕ) (d : Data) (routes : List Route) → left ≢ 0 → Stops e (MayGive (own_into whole path parent d routes)) → Stops e (MayGive (add_route whole left path parent d routes))
unfolding add_route
own_stops e whole zero path parent d routes ne h = absurd (ne refl)
own_stops e whole (suc left) path parent d routes ne h = stops_first _ _ _ h

pub children_stop : (e : ConfigError) (whole : Data) (left : ℕ) (path : List ℕ) (parent : Option ℕ) (d : Data) (routes own : List Route) → left ≢ 0 → (own_into whole path parent d routes).value ≡ Ok own → Fails e (children_at path d) → Stops e (MayGive (add_route whole left path parent d routes))
unfolding add_route
children_stop e whole zero path parent d routes own ne g h = absurd (ne refl)
children_stop e whole (suc left) path parent d routes own ne g h = stops_later _ _ _ _ g (stops_first _ _ _ (stops_plain _ _ h))

pub begins : (whole : Data) (left : ℕ) (path : List ℕ) (parent : Option ℕ) (d : Data) (routes own : List Route) (children : Items) → left ≢ 0 → (own_into whole path parent d routes).value ≡ Ok own → children_at path d ≡ give children → Ends (items_in_turn (child_into whole (left - 1) path (length routes)) 0 children own) (add_route whole left path parent d routes)
unfolding add_route
begins whole zero path parent d routes own children ne g h = absurd (ne refl)
begins whole (suc left) path parent d routes own children ne g h =
    let same : suc left - 1 ≡ left = omega arith in
    rw same (ends_past _ _ _ _ (ap (λ (part : Reading _). part.value) h) (ends_past _ _ _ _ g (record { reads = λ a e. e; stops = λ error stop. stop })))
