use Rattle.std.proofs.Common.{sym}
use Rattle.amr_config.proofs.Alike.{same_cached}
use Rattle.amr_config.proofs.Cached.{cached_alike}
use Rattle.amr_config.proofs.router.Router.swap_cache.Goals as goal

pub invariant_of-self : goal.invariant_of-self
invariant_of-self c =
    let same = same_cached c.self.inside.config c.other.inside.config (c.is_alike.ensures.0 c.if-is_alike.true) in
    rw (c.swap-then-is_alike.ensures.x_after, c.swap-then-is_alike-2.ensures.x_after)
    (cached_alike c.self.inside.config c.other.inside.config (λ labels. sym (same labels)) c.other.inside.cache.items c.other.inside.sides c.other.invariant)

pub invariant_of-other : goal.invariant_of-other
invariant_of-other c =
    let same = same_cached c.self.inside.config c.other.inside.config (c.is_alike.ensures.0 c.if-is_alike.true) in
    rw (c.swap-then-is_alike.ensures.y_after, c.swap-then-is_alike-2.ensures.y_after)
    (cached_alike c.other.inside.config c.self.inside.config same c.self.inside.cache.items c.self.inside.sides c.self.invariant)
