use Rattle.std.proofs.Common.{All, refl, sym, subst}
use Rattle.std.proofs.lemmas.List.Elements.{All-push}
use Rattle.amr_engine.specs.declared.indexes.rule_source.CachedSide.{CachedSide}
use Rattle.amr_engine.specs.Indexes.RuleSources.{ListsSide}
use Rattle.amr_engine.proofs.IndexesLemmas.Sources.{side_new}
use Rattle.amr_engine.proofs.indexes.rule_source.RuleSources.add_side.Goals.{In_ok-push}
use Rattle.amr_engine.proofs.indexes.rule_source.RuleSources.add_side.Goals as goal

-- each side lists its label sets, also the new one
all_listed : (c : In_ok-push) → All (ListsSide c.self.inside.arrived.items) c.push.new.self.items
all_listed c =
    let t = c.self.inside in
    let cached : CachedSide = record { side = c.in_ok-side_of.field-0; covered = 0; sources = c.new.result; listed = 0 } in
    subst (All (ListsSide t.arrived.items)) (sym c.in_ok-push.ensures.items)
    (All-push (ListsSide t.arrived.items) t.sides.items cached c.self.invariant.0 (side_new t.arrived.items cached refl c.new.ensures.shown))

pub invariant_of-self-in_err-insert : goal.invariant_of-self-in_err-insert
invariant_of-self-in_err-insert c = (all_listed (goal.at.invariant_of-self-in_err-insert c).In_ok-push, c.self.invariant.1)

pub invariant_of-self-2 : goal.invariant_of-self-2
invariant_of-self-2 c = (all_listed (goal.at.invariant_of-self-2 c).In_ok-push, c.self.invariant.1)
