use Rattle.std.proofs.Common.{◌∙◌, sym}
use Rattle.amr_tables.specs.Earliest.{Earliest}
use Rattle.amr_tables.proofs.Firsts.{held_shorter}
use Rattle.amr_tables.proofs.earliest.Earliest.reserve.Goals as goal

pub returns-clause-held : goal.returns-clause-held
returns-clause-held c = λ n held.
    let e : Earliest = record { queue = c.self.inside.queue.items; rest = c.self.inside.rest } in
    rw (← c.self.view_is) (held_shorter e (record e { rest = c.reserve.new.self }) (λ s is. (is.0, sym (c.reserve.ensures.same is.0) ∙ is.1)) (λ s h. h) n held)
