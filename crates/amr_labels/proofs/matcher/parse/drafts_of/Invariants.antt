use Rattle.std.proofs.Common.{◌≡◌, length, take, Some, chars, encode_utf8_all}
use Rattle.amr_labels.specs.Matcher.MatcherReading.{run, start}
use Rattle.amr_labels.proofs.matcher.parse.drafts_of.Given as goal

abbrev pub invariant-loop-c : goal.invariant-loop-c
invariant-loop-c l = record {
  reached : run (Some start) (take (length l.yielded) (chars l.text)) ≡ Some l.reader;
  counted : l.at ≡ length (encode_utf8_all (take (length l.yielded) (chars l.text)));
}
