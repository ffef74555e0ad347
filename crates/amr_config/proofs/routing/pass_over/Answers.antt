use Rattle.std.proofs.Common.{◌≡◌, ◌∙◌, ◌++◌, ◌-◌, if◌then◌else◌, take, replicate, vec_len, sym, ap, subst}
use Rattle.amr_config.specs.Standings.{IsMoreSeen}
use Rattle.amr_config.specs.Subtrees.{IsSubtreeEnd}
use Rattle.amr_config.proofs.PassingOver.{passed_over, shut, without_error}
use Rattle.amr_config.proofs.routing.pass_over.Goals as goal

pub returns : goal.returns
returns c =
    let config = c.args.config.now in
    let former = c.args.standings.now in
    let n = vec_len former in
    let stop = c.subtree_end-end.result in
    without_error c.resize.result (λ ok labels known closed.
    let made : c.resize.new.self.items ≡ take stop former.items ++ replicate (stop - n) shut = c.resize.ensures.items
    ∙ ap (λ b. if b then take stop former.items ++ replicate (stop - n) c.new.result else former.items) ok
    ∙ ap (λ m. take stop former.items ++ replicate (stop - n) m) c.new.ensures in
    let len : stop ≡ vec_len c.resize.new.self = sym (c.resize.ensures.len ∙ ap (λ b. if b then stop else n) ok) in
    subst (λ now. IsMoreSeen config labels n now c.resize.new.self.items) len
    (passed_over config labels c.subtree_end-end.ensures.parents n stop former.items c.resize.new.self.items
    (subst (λ m. IsSubtreeEnd config.routes m stop) c.len.ensures c.subtree_end-end.ensures.value) known closed made))
