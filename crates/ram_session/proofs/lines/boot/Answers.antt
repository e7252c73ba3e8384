-- A kernel takes memory, and is refused for nothing else. For `boot`.
use Rattle.std.proofs.lemmas.Result.{err_from_is_err_and}
use Rattle.ram_session.proofs.Machines.{kernel_takes}
use Rattle.ram_session.proofs.lines.boot.Goals as goal

pub returns-in_err-kernel-clause-done : goal.returns-in_err-kernel-clause-done
returns-in_err-kernel-clause-done c =
    let p = err_from_is_err_and c.from_residual.result c.from_residual.ensures.1 in
    rw (p.1, p.2) (kernel_takes c.args.off)
