use Rattle.std.proofs.Common.{nat_cmp, ◌≡◌, ◌≤◌, length, rules, arith, sym, subst, ◌∙◌}
use Rattle.std.proofs.lemmas.Grind.{common_steps}
use Rattle.std.proofs.lemmas.Map.Views.{tells_apart}
use Rattle.amr_labels.specs.Labels.{label_set_cmp-IsAntisymmetric}
use Rattle.amr_tables.specs.Numbered.{map_of}
use Rattle.amr_rules.specs.Silences.{Silences}
use Rattle.amr_rules.proofs.SilencePeriods.{silencer_in}
use Rattle.amr_engine.specs.declared.indexes.cached_periods.CachedPeriods.{CachedPeriods}
use Rattle.amr_engine.specs.Indexes.CachedSilences.{AreCached}
use Rattle.amr_engine.proofs.IndexesLemmas.CachedSilences.{all_seen, cached_found}
use Rattle.amr_engine.proofs.indexes.silence_table.SilenceTable.periods.Goals as goal

pub returns-in-Some-Some : goal.returns-in-Some-Some
returns-in-Some-Some c =
    let t = c.self.inside in
    let at = c.args.at in
    let silences : Silences = map_of nat_cmp t.silences in
    let ids = t.changes.items in
    let found = c.in-Some-Some in
    let cached : CachedPeriods = found.cached in
    let own = cached_found silences ids c.deref.result.now c.in_ok-number.field-0 found.field-0 cached
    (subst (AreCached silences ids) (sym c.deref.ensures.value) c.self.invariant.0) found.ensures.lookup found.field-0-is in
    let le : cached.from ≤ at = first_of (search rules, grind (arith, common_steps)) in
    let version : cached.version ≡ length t.changes.items = first_of (omega arith, grind (arith, common_steps)) in
    let same : cached.labels ≡ c.args.labels.now = tells_apart label_set_cmp-IsAntisymmetric cached.labels c.args.labels.now (sym c.eq.ensures ∙ c.if-eq.true) in
    rw (c.as_slice.ensures, ← same, ← c.self.view_is) (silencer_in at cached.from cached.labels silences cached.periods le (all_seen silences ids cached own version))
