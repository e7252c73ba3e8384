-- A dump with the body that the log makes is the crash's line; a refused one is refused as that
-- line. For `crash`.
use Rattle.std.proofs.Common.{refl}
use Rattle.ram_session.proofs.KernelLines.{told_body, crash_done, crash_fails}
use Rattle.ram_session.proofs.kernel_lines.crash.Goals as goal

pub returns-in-Err-clause-done : goal.returns-in-Err-clause-done
returns-in-Err-clause-done c = λ logs. c.no_body.ensures logs c.args.kernel.now c.args.reason

pub returns-in-Ok-dump-clause-done : goal.returns-in-Ok-dump-clause-done
returns-in-Ok-dump-clause-done c = λ logs.
    crash_done c.args.live.now c.dump.new.live logs c.args.kernel.now _ c.args.reason c.args.time c.in-Ok.body
    (told_body c.args.live.now.layout c.zones.result.now c.args.kernel.now c.args.reason c.args.time c.in-Ok.body
    c.of_number.result c.body_room-room.result c.of_number.ensures c.body_room-room.ensures c.zones.ensures.value
    c.in-Ok.ensures) refl refl (c.in-Ok-dump.ensures logs)

pub returns-in-Err-dump-clause-done : goal.returns-in-Err-dump-clause-done
returns-in-Err-dump-clause-done c = λ logs.
    crash_fails c.args.live.now logs c.args.kernel.now c.args.reason c.args.time c.in-Ok.body c.in-Err-dump.e
    (told_body c.args.live.now.layout c.zones.result.now c.args.kernel.now c.args.reason c.args.time c.in-Ok.body
    c.of_number.result c.body_room-room.result c.of_number.ensures c.body_room-room.ensures c.zones.ensures.value
    c.in-Ok.ensures) (c.in-Err-dump.ensures logs)
