use Rattle.std.proofs.Common.{◌≡◌, filter, rules}
use Rattle.std.proofs.lemmas.Fn.{filter_same}
use Rattle.amr_engine.specs.Indexes.CachedSilences.{ends_after}
use Rattle.amr_engine.proofs.indexes.cached_periods.CachedPeriods.leave_out_ended.Goals as goal

pub returns : goal.returns
returns c =
    let kept : c.retain.new.self ≡ filter (ends_after c.args.at) c.args.self.now.periods = filter_same _ _ _ (λ x b f' k. search rules) _ _ c.retain.ensures in
    λ i. record { labels = c.args.self.now.labels; bits = c.args.self.now.bits; from = c.args.at; version = c.args.self.now.version; periods = kept i }
