use Rattle.std.proofs.Common.{nat_cmp, ◌≡◌, is_some, sym, ap, ◌∙◌}
use Rattle.amr_rules.specs.Muting.{silencer_of}
use Rattle.amr_rules.proofs.MutingLaws.{is_silenced-named}
use Rattle.amr_rules.proofs.SilencePeriods.{one_least}
use Rattle.amr_tables.specs.Numbered.{map_of}
use Rattle.amr_engine.proofs.indexes.silence_table.SilenceTable.silenced_by.Goals as goal

pub returns-in-Some : goal.returns-in-Some
returns-in-Some c =
    let found : c.silenced_in.result ≡ silencer_of c.args.at c.args.labels.now (map_of nat_cmp c.args.self.now) = one_least _ _ _ c.silenced_in.ensures.least c.in-Some.ensures in
    record { named = found; exactly = is_silenced-named (map_of nat_cmp c.args.self.now) c.args.at c.args.labels.now ∙ ap is_some (sym found) }
