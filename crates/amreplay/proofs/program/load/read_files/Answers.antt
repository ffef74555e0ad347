use Rattle.std.proofs.Common.{[]}
use Rattle.std.proofs.KnownBytes.{Consumes-nil}
use Rattle.amreplay.proofs.ProgramLemmas.Reading.{whole_of}
use Rattle.amreplay.proofs.program.load.read_files.Goals as goal

pub returns-in-Err-clause-files : goal.returns-in-Err-clause-files
returns-in-Err-clause-files g c =
    let whole = whole_of (g.R.Read.remaining c.args.script.now.reader) _ [] (Consumes-nil _) in
    (whole.0, whole.1, tt)
