use Rattle.std.proofs.Common.{◌≡◌, ◌<◌, ◌∙◌, length, ap, subst, arith}
use Rattle.std.specs.BTreeMap as tree
use Rattle.std.specs.Option.{option_map_or}
use Rattle.amr_labels.specs.Labels.{text_cmp}
use Rattle.amr_config.specs.Receivers.{AreIndexes, index_at, receiver_parent}
use Rattle.amr_config.specs.Settled.{stated_config}
use Rattle.amr_config.proofs.Receivers.{as_many, receivers_more}
use Rattle.amr_config.proofs.receiver_indexes.receiver_indexes.Goals as goal

pub bounds-routes-number : goal.bounds-routes-number
bounds-routes-number c =
    omega (arith, ap length c.as_slice-routes.ensures, as_many (stated_config c.args.stated.now) c.args.settings.now c.requires.settings, c.loop-number-test.true)

pub loop-number-preserved : goal.loop-number-preserved
loop-number-preserved c =
    let stated = c.args.stated.now in
    let settings = c.args.settings.now in
    let known = c.in_ok-known.known in
    let route = c.index-routes-number.result in
    let its = c.index-settings-number.result in
    let same : c.as_slice-routes.result.now ≡ stated.routes = c.as_slice-routes.ensures in
    let within : c.loop-number.number < length stated.routes = omega (arith, as_many (stated_config stated) settings c.requires.settings, c.loop-number-test.true) in
    let are : AreIndexes stated.receivers known = subst (λ rs. AreIndexes rs known) c.as_slice.ensures c.in_ok-known.ensures in
    receivers_more stated.receivers (stated_config stated) settings c.requires.settings c.loop-number.number within known c.loop-number.indexes.items c.push.new.self.items
    route its c.index_of-index.result c.requires.parents are (rw same at c.index-routes-number.is) c.index-settings-number.is c.loop-number.invariant
    (c.index_of-index.ensures ∙ ap (λ indexes. option_map_or (index_at indexes) (receiver_parent route) (tree.get text_cmp known its.receiver)) c.as_slice-in-loop-number.ensures.value) c.in_ok-push.ensures.items
