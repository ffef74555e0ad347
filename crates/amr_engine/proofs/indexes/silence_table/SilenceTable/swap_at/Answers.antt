use Rattle.std.proofs.Common.{nat_cmp, ◌≡◌, ℕ, Some, ap, ◌∙◌}
use Rattle.amr_tables.specs.Numbered.{Numbered, map_of, number_of}
use Rattle.amr_rules.specs.declared.silence.Silence.{Silence}
use Rattle.amr_rules.specs.Silences.{Silences}
use Rattle.amr_engine.specs.Indexes.CachedSilences.{change_of}
use Rattle.amr_engine.proofs.IndexesLemmas.CachedSilences.{noted_right}
use Rattle.amr_engine.proofs.indexes.silence_table.SilenceTable.swap_at.Goals as goal

pub invariant_of-self : goal.invariant_of-self
invariant_of-self c =
    let t = c.self.inside in
    let id = c.args.id.now in
    let at : number_of nat_cmp t.silences id ≡ Some c.args.number = ap (λ (v : Numbered ℕ Silence). number_of nat_cmp v id) c.self.view_is ∙ c.requires in
    let before : Silences = map_of nat_cmp t.silences in
    let after : Silences = map_of nat_cmp c.swap_at.new.self in
    let right = noted_right c.new-noted.result id before after c.args.silence.now (c.new-noted.ensures ∙ ap (change_of id) c.as_ref.ensures.value) (c.swap_at.ensures.shown id at) in (
      c.note_change.ensures.cached before after right.0 c.self.invariant.0,
      tt,
      c.note_change.ensures.noted before after right.0 right.1 c.self.invariant.2,
    )
