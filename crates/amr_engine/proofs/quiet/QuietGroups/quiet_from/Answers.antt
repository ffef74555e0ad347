use Rattle.std.proofs.Common.{option_copied, Some, sym, ap, ◌∙◌, inl, inr}
use Rattle.amr_engine.proofs.CachedQuiet.{quiet_if_cached}
use Rattle.amr_engine.proofs.quiet.QuietGroups.quiet_from.Goals as goal

pub returns-in-None : goal.returns-in-None
returns-in-None c =
    let time = c.in-Some.time.now in
    let cached = sym c.get.ensures ∙ ap option_copied c.in-Some.is in
    let begun = (c.covers.ensures c.if-not-covers.false).0 in
    λ _ soon _ s holds. (time.period.from, time.period.until, begun, soon, quiet_if_cached c.args.self.now s c.args.group.now time cached (inl c.in-None.is) holds)

pub returns-in-Some-generation : goal.returns-in-Some-generation
returns-in-Some-generation c =
    let time = c.in-Some.time.now in
    let cached = sym c.get.ensures ∙ ap option_copied c.in-Some.is in
    let begun = (c.covers.ensures c.if-not-covers.false).0 in
    let present = inr (c.in-Some-generation.is ∙ ap (λ n. Some n) c.if-generation-self.true) in
    λ _ soon _ s holds. (time.period.from, time.period.until, begun, soon, quiet_if_cached c.args.self.now s c.args.group.now time cached present holds)
