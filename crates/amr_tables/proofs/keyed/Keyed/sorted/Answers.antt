use Rattle.std.proofs.Common.{None, Some, append-nil, map, sym, ap, subst, ◌∙◌, arith}
use Rattle.std.specs.Map.Iter.{deref_pair}
use Rattle.std.specs.Option.{option_copied}
use Rattle.std.proofs.lemmas.List.{map-append, take_all}
use Rattle.amr_tables.specs.Numbered.{IsNumbering}
use Rattle.amr_tables.proofs.Numbering.{entries-shown}
use Rattle.amr_tables.proofs.Listed.{listed_more}
use Rattle.amr_tables.proofs.keyed.Keyed.sorted.Goals.{in-Some+in_ok-push, in_default}
use Rattle.amr_tables.proofs.keyed.Keyed.sorted.Goals as goal

pub loop-key-preserved : goal.loop-key-preserved
loop-key-preserved g c =
    let items = c.as_slice-key-items.result.now in
    elim c.match-at.branch [
      | in-Some+in_ok-push w ↦
          listed_more c.args.self.now.cells items c.loop-key.key-index c.loop-key-item.result (Some w.in-Some.value.now) c.loop-key-test.true c.loop-key-item.is (sym (ap option_copied w.in-Some.is) ∙ c.at.ensures.place) c.loop-key.invariant
          (ap (λ v. map deref_pair v.items) w.found-is ∙ ap (map deref_pair) w.in_ok-push.ensures.items ∙ map-append deref_pair c.loop-key.found.items _)
      | in_default w ↦
          listed_more c.args.self.now.cells items c.loop-key.key-index c.loop-key-item.result None c.loop-key-test.true c.loop-key-item.is (sym (ap option_copied w.in_default.is) ∙ c.at.ensures.place) c.loop-key.invariant
          (ap (λ v. map deref_pair v.items) w.found-is ∙ sym (append-nil _))
    ]

pub returns : goal.returns
returns g c =
    grind (arith, take_all _ _ c.loop-key-test.false, c.in_ok-numbers.ensures, entries-shown g.K.Ord.cmp c.args.self.now (subst (IsNumbering g.K.Ord.cmp) c.self.view_is c.self.invariant.0))
