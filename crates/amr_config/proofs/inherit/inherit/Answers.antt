use Rattle.std.proofs.Common.{◌≡◌, length, option_and_then, slice_get, ap, ◌∙◌, arith}
use Rattle.amr_config.specs.Settled.{stated_config}
use Rattle.amr_config.proofs.Settling.{settled_more}
use Rattle.amr_config.proofs.inherit.inherit.Goals as goal

pub loop-route-preserved : goal.loop-route-preserved
loop-route-preserved c =
    let stated = c.args.stated.now in
    let same : c.as_slice-route-items.result.now ≡ stated.routes = c.as_slice-route-items.ensures in
    settled_more (stated_config stated) c.requires c.loop-route.route-index c.route-item.result _ c.in_ok-made.made c.loop-route.settings.items c.push.new.self.items
    (omega (arith, ap length same, c.loop-route-test.true)) (rw same at c.route-item.is) c.loop-route.invariant
    (c.above.ensures ∙ ap (λ ss. option_and_then (slice_get ss) c.route-item.result.parent) c.as_slice.ensures.value) c.in_ok-made.ensures c.in_ok-push.ensures.items
