use Rattle.std.proofs.Common.{◌≡◌, ◌+◌, ◌<◌, ◌∙◌, length, Some, option_and_then, slice_get, unwrap_or, sym, ap, arith, rules}
use Rattle.std.specs.BTreeMap.Entry.{map_with_value}
use Rattle.std.proofs.lemmas.Grind.{common_steps}
use Rattle.std.proofs.lemmas.Option.{slice_get-get_or}
use Rattle.amr_config.specs.Paths.{path_hash}
use Rattle.amr_config.specs.Settled.{stated_config}
use Rattle.amr_config.proofs.OwnPaths.{path_settled, own_of, is_key, firsts_more, first_like, known_same, known_more}
use Rattle.amr_config.proofs.Receivers.{as_many}
use Rattle.amr_config.proofs.own_paths.first_routes.Goals as goal

pub bounds-settings-number : goal.bounds-settings-number
bounds-settings-number c =
    omega (arith, ap length c.as_slice-route-items.ensures, as_many (stated_config c.args.stated.now) c.args.settings.now c.requires.settings, c.loop-number-test.true)

pub loop-number-preserved : goal.loop-number-preserved
loop-number-preserved c =
    let config = stated_config c.args.stated.now in
    let number = c.loop-number.number in
    let route = c.route-item.result in
    let firsts = c.loop-number.firsts.items in
    let known = c.loop-number.known.entries in
    let first = c.or_insert-first.result.now in
    let more = (map_with_value c.in_ok-known.field-0 first).entries in
    let same : c.as_slice-route-items.result.now ≡ config.routes = c.as_slice-route-items.ensures in
    let within : number < length config.routes = omega (arith, ap length same, c.loop-number-test.true) in
    let here : slice_get config.routes number ≡ Some route =
    slice_get-get_or config.routes number route within ∙ ap (λ r. Some r) (sym (rw same at c.route-item.is)) in
    let path = path_settled config c.args.settings.now number c.index-settings-number.result c.requires.settings c.index-settings-number.is within in
    let above = c.above-first_above.ensures ∙ ap (λ fs. option_and_then (slice_get fs) route.parent) c.as_slice.ensures.value in
    let is_its = is_key config c.requires.parents number route here firsts c.loop-number.invariant.firsts _ c.in_ok-key.key path
    (c.in_ok-key.ensures ∙ (λ i. let at = sym c.index-settings-number.is i in (path_hash at.path, (above i, own_of at.path)))) in
    let like = first_like config number c.in_ok-key.key is_its known c.loop-number.invariant.known first (c.or_insert-first.ensures.value ∙ ap (λ o. unwrap_or o number) c.in_ok-known.ensures.value) in
    record {
      firsts = rw c.in_ok-push.ensures.items (firsts_more config number firsts first c.loop-number.invariant.firsts like);
      known = known_same config (number + 1) more _ (first_of (search rules, cc, grind (arith, common_steps)))
          (known_more config number c.in_ok-key.key is_its known c.loop-number.invariant.known first like more (c.in_ok-known.ensures.update.0 first).0);
    }
