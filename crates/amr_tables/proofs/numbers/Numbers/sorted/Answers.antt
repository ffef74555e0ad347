use Rattle.std.proofs.Common.{◌≡◌, map, ap, ◌∙◌, arith}
use Rattle.std.proofs.lemmas.List.{map-append, take_all}
use Rattle.amr_tables.specs.Numbered.{numbered_key}
use Rattle.amr_tables.proofs.Counting.{counted, counted-more, sorted_is}
use Rattle.amr_tables.proofs.numbers.Numbers.sorted.Goals as goal

pub loop-number-preserved : goal.loop-number-preserved
loop-number-preserved g c =
    grind (arith, map-append numbered_key c.loop-number.sorted.items, counted-more c.as_slice-key-items.result.now c.loop-number.number c.key-item.result c.loop-number-test.true c.key-item.is)

pub returns : goal.returns
returns g c =
    let ks = c.self.inside.keys.keys in
    let before : map numbered_key c.loop-number.sorted.items ≡ counted 0 ks = c.loop-number.invariant ∙ ap (counted 0) (take_all _ _ c.loop-number-test.false ∙ c.as_slice-key-items.ensures.keys) in
    sorted_is g.met.K.Ord.total g.K.PartialEq.eq g.met.K.Ord.matches_eq numbered_key g.met.K.Key.exact c.loop-number.sorted.items c.sort.new.self.items ks c.self.invariant before c.in_ok-sort.ensures.permutation c.in_ok-sort.ensures.sorted
    ∙ ap (λ n. n.list) c.self.view_is
