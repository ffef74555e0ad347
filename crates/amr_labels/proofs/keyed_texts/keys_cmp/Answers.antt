use Rattle.amr_labels.specs.Head.{usual_name, text_head}
use Rattle.amr_labels.proofs.Heads.{heads_tell}
use Rattle.amr_labels.proofs.keyed_texts.keys_cmp.Goals as goal

pub returns-else-head-other_head : goal.returns-else-head-other_head
unfolding text_head
returns-else-head-other_head c =
    cc (heads_tell usual_name c.args.key.now c.args.other_key.now (λ k. (c.type_inv.key k).fits) (λ k. (c.type_inv.other_key k).fits) (λ same. c.if-head-other_head.false cc))
