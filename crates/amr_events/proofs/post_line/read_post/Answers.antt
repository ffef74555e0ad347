use Rattle.std.proofs.Common.{◌≡◌, [], ap, ◌∙◌, rules}
use Rattle.std.proofs.lemmas.Option.{IfSome_then}
use Rattle.std.proofs.lemmas.Str.{is_utf8-from_IsUtf8}
use Rattle.json.specs.Lex.{tokens}
use Rattle.amr_events.specs.Lines.{json_of}
use Rattle.amr_events.proofs.Stating.{whole_read}
use Rattle.amr_events.proofs.post_line.read_post.Goals as goal

pub returns : goal.returns
unfolding json_of
returns c =
    let line = c.args.line.now in
    let text : c.in-Ok.text.now ≡ line = c.in-Ok.ensures.cases.0 in
    let whole : c.in_ok-reader.reader ≡ tokens line = c.in_ok-reader.ensures.ok ∙ ap tokens text in
    let over : c.post.new.reader ≡ [] = search rules in
    IfSome_then c.in_ok-event.event (rw (whole, over) at c.in_ok-event.ensures) (λ event stated version. record {
      stated = stated.stated;
      json = rw (is_utf8-from_IsUtf8 line c.in-Ok.ensures.cases.1) (whole_read line stated.stated stated.read);
      reads = stated.such version;
    })
