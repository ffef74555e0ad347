-- What a check leaves if the writer can't be flushed.
use Rattle.std.proofs.Common.{◌≡◌, ℕ, List, Option, Ok, Err, refl, subst, inr}
use Rattle.std.proofs.KnownBytes.{Appends-kept}
use Rattle.std.specs.Io.KnownBytes.{Appends, Keeps}
use Rattle.amr_labels.specs.Labels.{Text}
use Rattle.amr_config.specs.Stated.Config.{Config}
use Rattle.amreplay.specs.declared.fault.Fault.TheVariants.{CannotWrite}
use Rattle.amreplay.specs.Program.Files.{ConfigFileIs}
use Rattle.amreplay.specs.Program.Checked.{counts_line, CheckLeaves}
use Rattle.amreplay.proofs.LinesLemmas.Parts.{AppendsBeginning-all}

pub CheckLeaves-unflushed : (a b c : Option Text) (bytes : List ℕ) (held : Config) (text : Text)
    → ConfigFileIs bytes (Ok held) → text ≡ counts_line held → Appends a b text → Keeps b c → CheckLeaves a c bytes (Err CannotWrite)
CheckLeaves-unflushed a b c bytes held text read is written kept =
    let whole : Appends a c (counts_line held) = subst (Appends a c) is (Appends-kept a b c text written kept) in
    inr (held, read, refl, AppendsBeginning-all a c _ whole)
