use Rattle.std.proofs.Common.{nat_cmp, IfSome, Some, length}
use Rattle.std.proofs.lemmas.List.Elements.{All-set}
use Rattle.amr_tables.proofs.Emptying.{so_with_empty}
use Rattle.amr_tables.specs.Numbered.{map_of}
use Rattle.amr_engine.specs.declared.indexes.cached_periods.CachedPeriods.{CachedPeriods}
use Rattle.amr_engine.specs.Indexes.CachedSilences.{IsCached}
use Rattle.amr_engine.proofs.IndexesLemmas.CachedSilences.{filled}
use Rattle.amr_engine.proofs.indexes.silence_table.SilenceTable.insert.Goals as goal

pub invariant_of-self-2 : goal.invariant_of-self-2
invariant_of-self-2 c =
    let t = c.self.inside in
    let silences = map_of nat_cmp t.silences in
    let ids = t.changes.items in
    let cached : CachedPeriods = record { labels = c.in_ok-clone.field-0; bits = c.value_bits.result; from = c.args.at; version = length c.as_slice.result.now; periods = c.args.periods } in
    let right = filled silences ids cached (cc (c.in_ok-clone.ensures.cases)) (cc) (cc (c.in_ok-clone.ensures.cases)) in (
      All-set (λ place. IfSome place (IsCached silences ids)) c.make_place.new.places.items c.args.number (Some cached) right
          (so_with_empty (λ place. IfSome place (IsCached silences ids)) t.cached.items c.make_place.new.places.items _ c.in_ok-make_place.ensures.values tt c.self.invariant.0),
      c.self.invariant.1,
      c.self.invariant.2,
    )
