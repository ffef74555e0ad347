-- What is kept for each route, found at the route's number.
use Rattle.std.proofs.Common.{◌≡◌, ℕ, ◌<◌, ◌≤◌, List, [], length, Option, Some, None, MatchOption, Bor, sym, ap, ◌∙◌, arith, unwrap_or, slice_get}
use Rattle.std.specs.Slice.{IsItemAt}
use Rattle.std.proofs.lemmas.List.{length-map}
use Rattle.std.proofs.lemmas.Option.{slice_get-get_or, slice_get-map}
use Rattle.amr_config.specs.declared.stated.receiver.Receiver.{Receiver}
use Rattle.amr_config.specs.declared.stated.route.Route.{Route}
use Rattle.amr_config.specs.Stated.Config.{Config}
use Rattle.amr_config.specs.declared.settings.Settings.{Settings}
use Rattle.amr_config.specs.Receivers.{receiver_at, receiver_named, AreReceivers}
use Rattle.amr_config.specs.Routing.{receiver_name_of}
use Rattle.amr_config.specs.Settled.{settings_of, settings_of_all}
use Rattle.amr_config.proofs.Inherited.{get_or-settled, inherited_past}
use Rattle.amr_config.proofs.Receivers.{as_many}

module _ (config : Config) (settings : List Settings) where
  pub receiver_found : (receivers : List Receiver) (indexes : List (Option ℕ)) (n : ℕ) (r : Option (Bor (Option ℕ))) → settings ≡ settings_of_all config → AreReceivers receivers settings indexes → IsItemAt indexes n r
      → MatchOption r (length config.routes ≤ n) (λ found. receiver_at receivers found.now ≡ receiver_named receivers (receiver_name_of config n))
  unfolding settings_of
  receiver_found receivers indexes n None e are h =
      omega (arith, as_many config settings e, ap length are, length-map indexes (receiver_at receivers), length-map settings (λ (s : Settings). receiver_named receivers s.receiver), h.3)
  receiver_found receivers indexes n (Some x) e are h =
      let f = λ (s : Settings). receiver_named receivers s.receiver in
      let there : n < length config.routes = omega (arith, as_many config settings e, ap length are, length-map indexes (receiver_at receivers), length-map settings f, h.3.0) in
      let index : slice_get indexes n ≡ Some x.now = slice_get-get_or indexes n None h.3.0 ∙ ap (λ p. Some p) (sym (h.4 (omega (arith, h.3.0)) None)) in
      grind (arith, slice_get-map (receiver_at receivers) indexes n, ap (λ rs. slice_get rs n) are, slice_get-map f settings n, slice_get-get_or settings n (settings_of config n), get_or-settled config n (settings_of config n), as_many config settings e)

pub name_past : (config : Config) (n : ℕ) → length config.routes ≤ n → receiver_name_of config n ≡ []
name_past config n past = ap (λ o. unwrap_or o []) (inherited_past (λ (route : Route). route.receiver) config n past)
