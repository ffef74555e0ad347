-- The settings of a configuration, and the routes that they come from.
use Rattle.std.proofs.Common.{◌≡◌, ℕ, zero, suc, ◌<◌, ◌≤◌, List, [], ◌∷◌, length, get_or, Option, Some, None, MatchOption, Bor, refl, ap, ◌∙◌, arith}
use Rattle.std.specs.Slice.{IsItemAt}
use Rattle.std.proofs.lemmas.List.FromFn.{length-map-range_with_len, get_or-map-range_with_len}
use Rattle.std.proofs.lemmas.Option.{slice_get_past}
use Rattle.amr_config.specs.declared.stated.route.Route.{Route}
use Rattle.amr_config.specs.declared.settings.Settings.{Settings}
use Rattle.amr_config.specs.Stated.Config.{Config}
use Rattle.amr_config.specs.Routing.{line_within, inherited_value, path_of}
use Rattle.amr_config.specs.Settled.{settings_of, settings_of_all}

pub length-settled : (config : Config) → length (settings_of_all config) ≡ length config.routes
unfolding settings_of_all
length-settled config = length-map-range_with_len (settings_of config) 0 (length config.routes)

pub get_or-settled : (config : Config) (n : ℕ) (d : Settings) → n < length config.routes → get_or (settings_of_all config) n d ≡ settings_of config n
unfolding settings_of_all
get_or-settled config n d h = get_or-map-range_with_len (settings_of config) 0 (length config.routes) n n d h (omega arith)

pub settings_found : (config : Config) (settings : List Settings) (n : ℕ) (r : Option (Bor Settings)) → settings ≡ settings_of_all config → IsItemAt settings n r → MatchOption r (length config.routes ≤ n) (λ found. (n < length config.routes) × (found.now ≡ settings_of config n))
settings_found config settings n None e h = omega (arith, ap length e, length-settled config, h.3)
settings_found config settings n (Some x) e h =
    let lt : n < length config.routes = omega (arith, ap length e, length-settled config, h.3.0) in
    (lt, h.4 (omega (arith, h.3.0)) x.now ∙ ap (λ s. get_or s n x.now) e ∙ get_or-settled config n x.now lt)

-- there is no route above a number without a route
no_line : (config : Config) (most n : ℕ) → length config.routes ≤ n → line_within most config n ≡ n ∷ []
no_line config zero n h = refl
no_line config (suc most) n h = rw (slice_get_past config.routes n h)

pub inherited_past : {X : Type 0} (field : Route → Option X) (config : Config) (n : ℕ) → length config.routes ≤ n → inherited_value field config n ≡ None
unfolding inherited_value
inherited_past field config n h = rw (no_line config n n h, slice_get_past config.routes n h)

pub path_of_past : (config : Config) (n : ℕ) → length config.routes ≤ n → path_of config n ≡ [] ∷ []
unfolding path_of
path_of_past config n h = rw (no_line config n n h, slice_get_past config.routes n h)
