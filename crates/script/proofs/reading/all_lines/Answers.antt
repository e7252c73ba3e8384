-- A last line without newline is bad. For `all_lines`.
use Rattle.std.proofs.Common.{sym, ap, ◌+◌, ◌∙◌, Ok, Err}
use Rattle.script.proofs.Loop.{at_end, open_end}
use Rattle.script.proofs.reading.all_lines.Goals as goal

pub returns-then-not-is_empty : goal.returns-then-not-is_empty
returns-then-not-is_empty c = λ given h.
    open_end given c.args.rest.now c.args.lines.items h c.requires (sym c.is_empty.ensures ∙ c.if-not-is_empty.true)
    ∙ ap Err (sym (c.in_ok-last.ensures ∙ ap (λ n. n + 1) (c.len.ensures ∙ c.args.lines.ok.0)))

pub returns : goal.returns
returns c = λ given h.
    at_end given c.args.rest.now c.args.lines.items h c.requires (sym c.is_empty.ensures ∙ c.if-not-is_empty.false)
    ∙ ap Ok (sym c.from_vec.ensures)
