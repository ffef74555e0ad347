use Rattle.std.proofs.Common.{◌≡◌, take}
use Rattle.amr_labels.specs.Hashes.{text_fnv_hash}
use Rattle.amr_labels.proofs.text.fnv_hash.Given as goal

abbrev pub invariant-loop-byte : goal.invariant-loop-byte
invariant-loop-byte l = l.hash_value ≡ text_fnv_hash (take l.byte-index l.byte-items)
