-- A boot stopped after so many stores is the line `boot K`: it takes memory, and is refused for
-- nothing else. For `boot_part`.
use Rattle.std.proofs.lemmas.Result.{err_from_is_err_and}
use Rattle.ram_session.proofs.StateLines.{part_done, part_takes}
use Rattle.ram_session.proofs.state_lines.boot_part.Goals as goal

pub returns : goal.returns
returns c = part_done c.args.off c.in-Ok.parted.0 c.args.limit c.from.result c.in-Ok.parted.1 c.in_ok-text.text.items
    c.from.ensures c.in-Ok.ensures.parted c.in_ok-text.ensures

pub returns-in-Err : goal.returns-in-Err
returns-in-Err c = part_takes c.args.off c.args.limit

pub returns-in_err-text : goal.returns-in_err-text
returns-in_err-text c =
    let p = err_from_is_err_and c.from_residual.result c.from_residual.ensures.1 in
    rw (p.1, p.2) (part_takes c.args.off c.args.limit)
