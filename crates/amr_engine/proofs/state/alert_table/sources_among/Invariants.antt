use Rattle.std.proofs.Common.{filter, ◌≡◌, ◌++◌, drop}
use Rattle.amr_labels.specs.Labels.{label_set_cmp}
use Rattle.amr_rules.specs.Muting.{is_agreeing, sources_of}
use Rattle.amr_tables.specs.Numbered.{map_of}
use Rattle.amr_engine.specs.Indexes.RuleSources.{pairs_of}
use Rattle.amr_engine.proofs.state.alert_table.sources_among.Given as goal

-- those found, and those of the rest that are sources, are all sources
abbrev pub invariant-loop-labels : goal.invariant-loop-labels
invariant-loop-labels l =
    pairs_of l.found.items ++ filter (λ stored. is_agreeing l.rule l.target stored.0) (pairs_of (drop l.labels-index l.labels-items))
    ≡ sources_of l.rule l.target (map_of label_set_cmp l.alerts)
