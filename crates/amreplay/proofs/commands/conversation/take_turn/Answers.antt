use Rattle.std.proofs.Common.{◌++◌, inl, ◌∙◌}
use Rattle.std.proofs.lemmas.Result.{err_from_is_err_and}
use Rattle.std.proofs.KnownBytes.{Consumes-kept, Consumes-trans}
use Rattle.amreplay.proofs.CommandsLemmas.Talks.{Consumes-nothing}
use Rattle.amreplay.proofs.commands.conversation.take_turn.Goals as goal

pub returns-in_err-n-clause-turned : goal.returns-in_err-n-clause-turned
returns-in_err-n-clause-turned g c =
    let p = err_from_is_err_and c.from_residual.result c.from_residual.ensures.1 in
    rw (p.1, p.2 ∙ c.in_err-n.ensures.read.0) (λ source start bytes consumed stands. (
      bytes,
      Consumes-kept _ _ _ bytes consumed c.in_err-n.ensures.read.1,
      (_, stands.0, stands.1),
    ))

pub returns-then-n-eq0-clause-turned : goal.returns-then-n-eq0-clause-turned
returns-then-n-eq0-clause-turned g c = λ source start bytes consumed stands. (
  bytes,
  Consumes-nothing _ _ _ bytes _ _ c.if-n-eq0.true consumed c.in_ok-n.ensures.read.1,
  (c.in_ok-n.ensures.read.2 c.if-n-eq0.true, c.in_ok-finish.ensures.printed start bytes stands),
)

pub returns-in_err-take_bytes-clause-turned : goal.returns-in_err-take_bytes-clause-turned
returns-in_err-take_bytes-clause-turned g c =
    let p = err_from_is_err_and c.from_residual-in_err-take_bytes.result c.from_residual-in_err-take_bytes.ensures.1 in
    rw (p.1, p.2) (λ source start bytes consumed stands. (
      bytes ++ _,
      Consumes-trans _ _ _ bytes _ consumed c.in_ok-n.ensures.read.1,
      inl (c.in_err-take_bytes.ensures.heard start bytes stands.0 stands.1 stands.2),
    ))

pub returns-clause-turned : goal.returns-clause-turned
returns-clause-turned g c = λ source start bytes consumed stands. (
  bytes ++ _,
  Consumes-trans _ _ _ bytes _ consumed c.in_ok-n.ensures.read.1,
  c.in_ok-take_bytes.ensures.heard start bytes stands.0 stands.1 stands.2,
)
