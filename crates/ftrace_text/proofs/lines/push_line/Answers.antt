-- The line made of an entry's three words is the line of its bytes. For `push_line`.
use Rattle.std.proofs.Common.{ap, ◌++◌, ◌∙◌, arith}
use Rattle.std.proofs.lemmas.Result.{on_ok_weaker}
use Rattle.ftrace_text.proofs.Entries.{line_of_entry}
use Rattle.ftrace_text.proofs.lines.push_line.Goals as goal

pub returns : goal.returns
returns c =
    on_ok_weaker c.push_words.result
    (λ e. e ∙ ap (λ more. c.args.out.now.items ++ more)
    (line_of_entry c.args.symbols.now c.args.shift c.args.entry.now (omega arith) (omega arith) (omega arith)))
    c.push_words.ensures
