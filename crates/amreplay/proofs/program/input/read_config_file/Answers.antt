use Rattle.std.proofs.Common.{subst, sym, arith}
use Rattle.std.specs.Io.KnownBytes.{Consumes}
use Rattle.std.proofs.KnownBytes.{Consumes-trans}
use Rattle.amreplay.proofs.ProgramLemmas.Reading.{config_cut}
use Rattle.amreplay.proofs.program.input.read_config_file.Goals as goal

pub returns-then-len-gt-LONGEST_CONFIG-clause-read : goal.returns-then-len-gt-LONGEST_CONFIG-clause-read
returns-then-len-gt-LONGEST_CONFIG-clause-read g c =
    let old = g.R.Read.remaining c.args.file.now.reader in
    let new = g.R.Read.remaining c.read.new.self.reader in
    let consumed : Consumes old new c.extend_from_slice.new.self.items =
    subst (Consumes old new) (sym c.in_default.ensures.items)
    (Consumes-trans old (g.R.Read.remaining c.loop-bytes.file.reader) new c.loop-bytes.bytes.items _ c.loop-bytes.invariant.consumed c.in_ok-taken.ensures.bytes.0) in
    config_cut old new c.extend_from_slice.new.self.items consumed (omega (arith, c.len.ensures, c.if-len-gt-LONGEST_CONFIG.true))
