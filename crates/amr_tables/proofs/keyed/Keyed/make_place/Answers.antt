use Rattle.std.proofs.Common.{◌≡◌, None, length, sym, ap, ◌∙◌, arith}
use Rattle.std.specs.FinMap.Entries.{find-put, length-put}
use Rattle.std.proofs.lemmas.List.{length_push}
use Rattle.amr_tables.specs.Numbered.{Numbered, IsNumbering, map_of}
use Rattle.amr_tables.proofs.Numbering.{added_is, added_shown}
use Rattle.amr_tables.proofs.keyed.Keyed.make_place.Given.{Over}
use Rattle.amr_tables.proofs.keyed.Keyed.make_place.Goals.{After-push_reserved}
use Rattle.amr_tables.proofs.keyed.Keyed.make_place.Goals as goal

-- the key gets the next number, and an empty place
module _ (g : Over) (c : After-push_reserved g) where
  abbrev now : Numbered g.row.K.Denot g.row.V.Denot
  now = record { numbers = c.insert.new.self.list; cells = c.push_reserved.new.self.items }

  numbering : IsNumbering g.K.Ord.cmp now
  numbering = added_is g.met.K.Ord.total _ now c.self.invariant.0 c.args.key (sym c.in_default.ensures) (cc) (cc)

  shown : map_of g.K.Ord.cmp now ≡ map_of g.K.Ord.cmp c.args.self.now
  shown = added_shown g.met.K.Ord.total _ now c.self.invariant.0 c.args.key (sym c.in_default.ensures) (cc) (cc) g.met.K.Key.exact ∙ ap (map_of g.K.Ord.cmp) c.self.view_is

pub invariant_of-self-2 : goal.invariant_of-self-2
invariant_of-self-2 g c = (
  numbering g (goal.at.invariant_of-self-2 g c).After-push_reserved,
  grind (arith, length-put g.K.Ord.cmp g.met.K.Ord.total c.args.key (length c.self.inside.cells.items) c.self.inside.numbers.list c.self.invariant.0.sorted, length_push c.self.inside.cells.items None, sym c.in_default.ensures),
)

pub returns-clause-numbering : goal.returns-clause-numbering
returns-clause-numbering g c = numbering g (goal.at.returns-clause-numbering g c).After-push_reserved

pub returns-clause-shown : goal.returns-clause-shown
returns-clause-shown g c = shown g (goal.at.returns-clause-shown g c).After-push_reserved

pub returns-clause-number : goal.returns-clause-number
returns-clause-number g c = λ none other. grind (arith, find-put g.K.Ord.cmp g.met.K.Ord.total other c.args.key (length c.self.inside.cells.items) c.self.inside.numbers.list)
