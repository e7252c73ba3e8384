-- A boot takes memory, and is refused for nothing else. For `boot`.
use Rattle.std.proofs.lemmas.Result.{err_from_is_err_and}
use Rattle.ram_session.proofs.StateLines.{boot_takes}
use Rattle.ram_session.proofs.state_lines.boot.Goals as goal

pub returns-in-Err : goal.returns-in-Err
returns-in-Err c = boot_takes c.args.off

pub returns-in_err-text : goal.returns-in_err-text
returns-in_err-text c =
    let p = err_from_is_err_and c.from_residual.result c.from_residual.ensures.1 in
    rw (p.1, p.2) (boot_takes c.args.off)
