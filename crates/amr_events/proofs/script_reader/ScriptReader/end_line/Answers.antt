use Rattle.std.proofs.Common.{[], ◌∷◌, ◌++◌, refl, ap, sym, ◌∙◌, arith, append-nil}
use Rattle.std.proofs.lemmas.Bool.Decides.{nat_tests}
use Rattle.std.proofs.lemmas.Result.{err_from_is_err_and}
use Rattle.amr_events.proofs.Counts.{none_of}
use Rattle.amr_events.proofs.ReaderSteps.{stop_map, stops_map, both_ok, follows_more, refused_later, refused_sooner, line_ended, line_fails}
use Rattle.amr_events.proofs.script_reader.ScriptReader.end_line.Goals as goal

pub returns-then-is_empty-clause-read : goal.returns-then-is_empty-clause-read
returns-then-is_empty-clause-read c =
    let rest = c.args.rest.now in
    let old = c.args.self.now in
    let none = none_of old.unfinished.items (grind (arith, nat_tests)) in
    both_ok c.add_line.result (λ adds number. line_ended rest old c.requires rest (ap (λ l. l ++ rest) (sym none)) _ adds number none) c.add_line.ensures.added c.add_line.ensures.counted

pub returns-then-is_empty-clause-refused : goal.returns-then-is_empty-clause-refused
returns-then-is_empty-clause-refused c =
    let rest = c.args.rest.now in
    let old = c.args.self.now in
    let none = none_of old.unfinished.items (grind (arith, nat_tests)) in
    stops_map c.add_line.result (line_fails rest old c.requires rest (ap (λ l. l ++ rest) (sym none))) c.add_line.ensures.fault

pub returns-in_err-keep-clause-refused : goal.returns-in_err-keep-clause-refused
returns-in_err-keep-clause-refused c =
    let p = err_from_is_err_and c.from_residual.result c.from_residual.ensures.1 in
    rw (p.1, p.2) (stop_map c.in_err-keep.field-0.0 (refused_sooner c.args.rest.now (10 ∷ []) c.args.self.now) c.in_err-keep.ensures.refused)

pub returns-in_err-add_line-clause-refused : goal.returns-in_err-add_line-clause-refused
returns-in_err-add_line-clause-refused c =
    let p = err_from_is_err_and c.from_residual-in_err-add_line.result c.from_residual-in_err-add_line.ensures.1 in
    let between = c.keep.new.self in
    let line = c.as_slice.result.now in
    let fails = line_fails [] between refl line (c.as_slice.ensures.value ∙ sym (append-nil between.unfinished.items)) in
    rw (p.1, p.2) (stop_map c.in_err-add_line.field-0.0 (λ fault is. refused_later c.args.rest.now (10 ∷ []) c.args.self.now between fault c.in_ok-keep.ensures.read (fails fault is)) c.in_err-add_line.ensures.fault)

pub returns-clause-read : goal.returns-clause-read
returns-clause-read c =
    let between = c.keep.new.self in
    follows_more c.args.rest.now (10 ∷ []) c.args.self.now between _ c.in_ok-keep.ensures.read
    (line_ended [] between refl c.as_slice.result.now (c.as_slice.ensures.value ∙ sym (append-nil between.unfinished.items)) _ c.in_ok-add_line.ensures.added c.in_ok-add_line.ensures.counted c.clear.ensures.items)
