use Rattle.std.proofs.Common.{◌∙◌, ◌++◌, sym, ap, take, take-append-drop}
use Rattle.http_wire.proofs.runs.last_line.Goals as goal

pub returns : goal.returns
returns c =
    let text = c.args.text.now in
    let n = c.lines_len.result in
    (take n text, sym (take-append-drop n text) ∙ ap (λ z. take n text ++ z) (sym c.split_at.ensures.back), c.lines_len.ensures.starts)
