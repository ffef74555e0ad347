use Rattle.std.proofs.Common.{◌+◌, ◌-◌, [], ◌∷◌, ◌++◌, length, take, drop, sym, ap, ◌∙◌, append_assoc, arith}
use Rattle.std.proofs.lemmas.List.{take_all, length-drop}
use Rattle.std.proofs.lemmas.Result.{err_from_is_err_and, on_ok_weaker}
use Rattle.amr_events.proofs.LineEnds.{no_feed, at_feed}
use Rattle.amr_events.proofs.ReaderSteps.{stop_map, stops_map, follows_more, refused_later, refused_sooner}
use Rattle.amr_events.proofs.script_reader.ScriptReader.add_bytes.Goals as goal

pub end_line-requires : goal.end_line-requires
end_line-requires c = let found = c.in-Some.ensures in (at_feed c.loop-end.left.now c.in-Some.end found.0 found.1).0

pub keep-requires : goal.keep-requires
keep-requires c = no_feed c.loop-end.left.now c.in_default.ensures

pub returns-in_err-end_line-clause-refused : goal.returns-in_err-end_line-clause-refused
returns-in_err-end_line-clause-refused c =
    let p = err_from_is_err_and c.from_residual.result c.from_residual.ensures.1 in
    let found = c.in-Some.ensures in
    let cut = (at_feed c.loop-end.left.now c.in-Some.end found.0 found.1).1 in
    rw (p.1, p.2) (stop_map c.in_err-end_line.field-0.0 (λ fault is.
    rw (c.loop-end.invariant.bytes, cut) (refused_later c.loop-end.invariant.done _ c.args.self.now c.loop-end.self fault c.loop-end.invariant.read (refused_sooner _ _ c.loop-end.self fault is)))
    c.in_err-end_line.ensures.refused)

pub loop-end-preserved : goal.loop-end-preserved
loop-end-preserved c =
    let left = c.loop-end.left.now in
    let end = c.in-Some.end in
    let found = c.in-Some.ensures in
    let line = take end left ++ 10 ∷ [] in
    let invariant = c.loop-end.invariant in
    let rest = take_all (length left - (end + 1)) (drop (end + 1) left) (omega (arith, length-drop (end + 1) left)) in
    record {
      done = invariant.done ++ line;
      bytes = invariant.bytes ∙ ap (λ l. invariant.done ++ l) (at_feed left end found.0 found.1).1 ∙ sym (append_assoc invariant.done line (drop (end + 1) left))
          ∙ ap (λ l. invariant.done ++ line ++ l) (sym rest);
      read = follows_more invariant.done line c.args.self.now c.loop-end.self _ invariant.read c.in_ok-end_line.ensures.read;
    }

pub returns-clause-read : goal.returns-clause-read
returns-clause-read c =
    let invariant = c.loop-end.invariant in
    rw invariant.bytes (on_ok_weaker c.keep.result (follows_more invariant.done c.loop-end.left.now c.args.self.now c.loop-end.self _ invariant.read) c.keep.ensures.read)

pub returns-clause-refused : goal.returns-clause-refused
returns-clause-refused c =
    let invariant = c.loop-end.invariant in
    rw invariant.bytes (stops_map c.keep.result (λ fault. refused_later invariant.done c.loop-end.left.now c.args.self.now c.loop-end.self fault invariant.read) c.keep.ensures.refused)
