use Rattle.std.proofs.Common.{option_copied, Some, sym, ap, ◌∙◌, inl, inr}
use Rattle.amr_engine.proofs.CachedQuiet.{cached_quiet}
use Rattle.amr_engine.proofs.quiet.QuietGroups.is_quiet_at.Goals as goal

pub returns-in-None-clause-quiet : goal.returns-in-None-clause-quiet
returns-in-None-clause-quiet c =
    let cached = sym c.get.ensures ∙ ap option_copied c.in-Some.is in
    let inside = c.covers.ensures c.if-not-covers.false in
    λ _ s holds. cached_quiet c.args.self.now s c.args.group.now c.args.at c.in-Some.time.now cached inside.0 inside.1 (inl c.in-None.is) holds

pub returns-in-Some-generation-clause-quiet : goal.returns-in-Some-generation-clause-quiet
returns-in-Some-generation-clause-quiet c =
    let cached = sym c.get.ensures ∙ ap option_copied c.in-Some.is in
    let inside = c.covers.ensures c.if-not-covers.false in
    λ _ s holds. cached_quiet c.args.self.now s c.args.group.now c.args.at c.in-Some.time.now cached inside.0 inside.1
    (inr (c.in-Some-generation.is ∙ ap (λ n. Some n) c.if-generation-self.true)) holds
