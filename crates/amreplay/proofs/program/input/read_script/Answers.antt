use Rattle.std.proofs.Common.{◌≡◌, ◌<◌, ◌++◌, ◌∙◌, length, take, arith}
use Rattle.std.proofs.KnownBytes.{Consumes-trans}
use Rattle.amr_events.specs.Scripts.{ScriptIs}
use Rattle.amr_events.proofs.ReaderSteps.{stop_refuses}
use Rattle.amreplay.proofs.ProgramLemmas.Reading.{read_to_end, whole_of}
use Rattle.amreplay.proofs.program.input.read_script.Goals as goal

pub returns-then-taken-eq0-clause-read : goal.returns-then-taken-eq0-clause-read
returns-then-taken-eq0-clause-read g c =
    let bytes = c.loop-script.invariant.bytes in
    let read = c.in_ok-taken.ensures.bytes in
    let none : c.in_ok-taken.taken ≡ 0 = omega (arith, c.if-taken-eq0.true) in
    let room : 0 < length c.read.new.chunk = omega arith in
    let all = read_to_end _ _ _ bytes c.read.new.chunk c.in_ok-taken.taken none c.loop-script.invariant.consumed read.0 (read.1 none room) in
    (bytes, all, c.finish.ensures bytes c.loop-script.invariant.read)

pub loop-script-preserved : goal.loop-script-preserved
loop-script-preserved g c =
    let bytes = c.loop-script.invariant.bytes in
    let chunk = take c.in_ok-taken.taken c.read.new.chunk in
    record {
      bytes = bytes ++ chunk;
      consumed = Consumes-trans (g.R.Read.remaining c.args.file.now.reader) (g.R.Read.remaining c.loop-script.file.reader) (g.R.Read.remaining c.read.new.self.reader) bytes chunk c.loop-script.invariant.consumed c.in_ok-taken.ensures.bytes.0;
      read = c.in_default.ensures.read bytes c.loop-script.invariant.read;
      failed = c.in_ok-taken.ensures.counted.2 ∙ c.loop-script.invariant.failed;
    }

pub returns-in-Err-clause-read : goal.returns-in-Err-clause-read
returns-in-Err-clause-read g c =
    let bytes = c.loop-script.invariant.bytes in
    let chunk = take c.in_ok-taken.taken c.read.new.chunk in
    let old = g.R.Read.remaining c.args.file.now.reader in
    let new = g.R.Read.remaining c.read.new.self.reader in
    let consumed = Consumes-trans old (g.R.Read.remaining c.loop-script.file.reader) new bytes chunk c.loop-script.invariant.consumed c.in_ok-taken.ensures.bytes.0 in
    let whole = whole_of old new (bytes ++ chunk) consumed in
    (bytes ++ chunk ++ whole.0, whole.1, stop_refuses (ScriptIs (bytes ++ chunk ++ whole.0)) c.in-Err.error (λ fault is. is bytes c.loop-script.invariant.read whole.0) c.in-Err.ensures.refused)
