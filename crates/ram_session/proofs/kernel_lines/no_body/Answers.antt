-- A dump that is begun without a body tells whether the crash is refused. For `no_body`.
use Rattle.ram_session.proofs.KernelLines.{crash_takes, crash_unbegun}
use Rattle.ram_session.proofs.kernel_lines.no_body.Goals as goal

pub returns-in-Ok : goal.returns-in-Ok
returns-in-Ok c = λ logs kernel reason. crash_takes c.args.live.now c.begin_dump.new.live logs kernel reason
    c.args.time c.empty.result (c.in-Ok.ensures logs)

pub returns-in-Err : goal.returns-in-Err
returns-in-Err c = λ logs kernel reason. crash_unbegun c.args.live.now logs kernel reason c.args.time c.empty.result
    c.in-Err.e (c.in-Err.ensures logs)
