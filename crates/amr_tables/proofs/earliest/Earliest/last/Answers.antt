use Rattle.std.proofs.Common.{◌∙◌, arith, ap, None}
use Rattle.std.specs.List.{last_or}
use Rattle.std.specs.Option.{option_copied}
use Rattle.amr_tables.specs.Earliest.{Earliest}
use Rattle.amr_tables.proofs.Queueing.{copied_last}
use Rattle.amr_tables.proofs.earliest.Earliest.last.Goals as goal

pub returns : goal.returns
returns c =
    let item = c.back.ensures.item in
    c.copied.ensures
    ∙ copied_last c.self.inside.queue.items _ (option_copied c.back.result) c.self.inside.queue.ok.0 (grind (arith, item.0)) (λ d. item.4 (omega arith) d)
    ∙ ap (λ (x : Earliest). last_or None x.queue) c.self.view_is
