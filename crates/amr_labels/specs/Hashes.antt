-- Hashes of texts and label sets. Nothing but the speed of look-ups depends on them.
use Rattle.std.specs.Prelude.{ℕ, ◌*◌, ◌%◌, ◌^◌, fold, bit_xor}
use Rattle.std.specs.Hash.DefaultHasher as sip
use Rattle.amr_labels.specs.Map.{entries}
use Rattle.amr_labels.specs.Labels.{Text, LabelSet}
use Rattle.amr_labels.specs.SortKey.{sort_key}

-- FNV-1a, the hash of Fowler, Noll and Vo
unfoldable pub text_fnv_hash : Text → ℕ
text_fnv_hash text = fold (λ hash_value byte. bit_xor hash_value byte * 1099511628211 % 2 ^ 64) 14695981039346656037 text

-- SipHash-1-3 with both keys 0
unfoldable pub text_sip_hash : Text → ℕ
text_sip_hash text = sip.finish (sip.write sip.initial text)

-- that of the names and values in order, with a 0 after each
unfoldable pub label_set_hash : LabelSet → ℕ
label_set_hash labels = text_sip_hash (sort_key (entries labels))
