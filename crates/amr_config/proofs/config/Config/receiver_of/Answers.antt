use Rattle.std.proofs.Common.{◌≡◌, ◌∙◌, ◌≤◌, length, Some, None, sym, ap, subst}
use Rattle.amr_config.specs.Stated.Config.{Config}
use Rattle.amr_config.specs.declared.config.Parts.{Parts}
use Rattle.amr_config.specs.Receivers.{receiver_at, receiver_named}
use Rattle.amr_config.specs.Routing.{receiver_name_of}
use Rattle.amr_config.specs.Settled.{config_of_parts}
use Rattle.amr_config.proofs.Found.{receiver_found, name_past}
use Rattle.amr_config.proofs.config.Config.receiver_of.Goals as goal

pub returns-in-Some : goal.returns-in-Some
returns-in-Some c =
    let parts = c.self.inside.shared.value in
    let receivers = parts.stated.receivers in
    let found = receiver_found (config_of_parts parts) parts.settings receivers c.as_slice.result.now c.args.route (Some c.in-Some.index) c.self.invariant.settings
    (rw (c.as_slice.ensures, c.deref.ensures) c.self.invariant.receivers) c.in-Some.ensures.lookup in
    let there : c.as_slice-in-Some.result.now ≡ receivers = c.as_slice-in-Some.ensures ∙ ap (λ (p : Parts). p.stated.receivers) c.deref-in-Some.ensures in
    c.receiver_at.ensures ∙ ap (λ rs. receiver_at rs c.in-Some.index.now) there ∙ found ∙ ap (λ (k : Config). receiver_named k.receivers (receiver_name_of k c.args.route)) c.self.view_is

pub returns-in-None : goal.returns-in-None
returns-in-None c =
    let parts = c.self.inside.shared.value in
    let past = receiver_found (config_of_parts parts) parts.settings parts.stated.receivers c.as_slice.result.now c.args.route None c.self.invariant.settings
    (rw (c.as_slice.ensures, c.deref.ensures) c.self.invariant.receivers) c.in-None.ensures.lookup in
    let here : length c.args.self.now.routes ≤ c.args.route = subst (λ (k : Config). length k.routes ≤ c.args.route) c.self.view_is past in
    c.receiver.ensures ∙ ap (receiver_named c.args.self.now.receivers) (sym (name_past c.args.self.now c.args.route here))
