use Rattle.std.proofs.Common.{rules}
use Rattle.std.proofs.lemmas.Iterator.{items_from_collect, YieldsList-from_map, YieldsList-from_slice}
use Rattle.amr_labels.specs.Matcher.ValueBits.{value_bits}
use Rattle.amr_labels.proofs.matcher.bits.bits_of.Goals as goal

pub returns : goal.returns
returns c =
    items_from_collect _ c.collect.ensures.ran (YieldsList-from_map _ value_bits (YieldsList-from_slice c.args.label_sets.now cc) c.map.ensures.closure (λ x r q k. search rules))
