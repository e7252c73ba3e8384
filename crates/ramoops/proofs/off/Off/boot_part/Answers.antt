-- The first `limit` stores are made and the zones known as a cut boot leaves them. On a refusal
-- the machine is as it was.
use Rattle.std.proofs.Common.{◌-◌, List, length, sym, ap, ◌∙◌, subst, arith}
use Rattle.ramoops.specs.OffSeen.{OffSeen, known_all}
use Rattle.ramoops.specs.Booted.{BootedInPart}
use Rattle.ramoops.specs.Booting.{IsOpen}
use Rattle.ramoops.specs.declared.booting.Passed.{Passed}
use Rattle.ramoops.specs.Parted.{AreInOrder, IsParted}
use Rattle.ramoops.proofs.Boots.{open_fits, open_whole, open_closed, open_rests, logs_from}
use Rattle.ramoops.proofs.PartBoots.{part_size, part_order, part_is, part_listed, part_rests}
use Rattle.ramoops.proofs.off.Off.boot_part.Goals as goal
use Rattle.ramoops.proofs.off.Off.boot_part.Goals.{After-prepare_part, After-pass_known}

-- the machine is open still
opened : (c : After-prepare_part) → IsOpen c.args.self c.prepare_part.new.self
opened c = c.prepare_part.ensures.same c.args.self c.in_ok-open.ensures.«open»

-- the zones are passed
passes : (c : After-pass_known) → IsParted c.settle_part-progress.new.passed.items
    c.settle_part-progress.result.is_whole c.in-Ok.prepared.held.items
    (known_all (length c.in-Ok.prepared.held.items) c.prepare_part.new.self.zones.items) c.pass_known.new.known.items
passes c = subst (λ (passed : List Passed). IsParted passed c.settle_part-progress.result.is_whole
    c.in-Ok.prepared.held.items
    (known_all (length c.in-Ok.prepared.held.items) c.prepare_part.new.self.zones.items) c.pass_known.new.known.items)
    c.deref.ensures.value c.pass_known.ensures

pub prepare_part-requires-clause-spans : goal.prepare_part-requires-clause-spans
prepare_part-requires-clause-spans c = open_fits c.args.self c.in_ok-open.open c.in_ok-open.ensures.«open»

pub settle_part-progress-requires-clause-spans : goal.settle_part-progress-requires-clause-spans
settle_part-progress-requires-clause-spans c =
    open_fits c.args.self c.prepare_part.new.self
    (opened (goal.at.settle_part-progress-requires-clause-spans c).After-prepare_part)

pub settle_part-progress-requires-clause-logs : goal.settle_part-progress-requires-clause-logs
settle_part-progress-requires-clause-logs c = logs_from c.args.self c.prepare_part.new.self
    (opened (goal.at.settle_part-progress-requires-clause-logs c).After-prepare_part)
    c.in-Ok.prepared c.in-Ok.ensures.prepared

pub pass_known-requires-clause-within : goal.pass_known-requires-clause-within
pass_known-requires-clause-within c =
    let within = (opened (goal.at.pass_known-requires-clause-within c).After-prepare_part).known in
    let held = c.in-Ok.ensures.prepared.held_len in omega (arith, within, held)

pub pass_known-requires-clause-room : goal.pass_known-requires-clause-room
pass_known-requires-clause-room c =
    let room = c.in-Ok.ensures.room in
    let held = c.in-Ok.ensures.prepared.held_len in omega (arith, room, held)

pub pass_known-requires-clause-passed : goal.pass_known-requires-clause-passed
pass_known-requires-clause-passed c =
    ap length c.deref.ensures.value ∙ c.settle_part-progress.ensures.passed_len
    ∙ sym c.in-Ok.ensures.prepared.held_len

pub pass_known-requires-clause-order : goal.pass_known-requires-clause-order
pass_known-requires-clause-order c = subst (λ (p : List Passed). AreInOrder p) (sym c.deref.ensures.value)
    (part_order c.args.self c.prepare_part.new.self
    (opened (goal.at.pass_known-requires-clause-order c).After-prepare_part) c.settle_part-progress.new.spans
    c.args.limit c.settle_part-progress.result c.settle_part-progress.new.passed.items c.settle_part-progress.ensures)

pub close-requires-clause-size : goal.close-requires-clause-size
close-requires-clause-size c = part_size c.args.self c.prepare_part.new.self
    (opened (goal.at.close-requires-clause-size c).After-prepare_part)
    c.settle_part-progress.new.spans c.args.limit c.settle_part-progress.result
    c.settle_part-progress.new.passed.items c.settle_part-progress.ensures

pub close-requires-clause-known : goal.close-requires-clause-known
close-requires-clause-known c =
    let all = part_listed c.args.self c.prepare_part.new.self
    (opened (goal.at.close-requires-clause-known c).After-prepare_part) c.settle_part-progress.new.spans c.args.limit
    c.settle_part-progress.result c.settle_part-progress.new.passed.items c.settle_part-progress.ensures
    c.in-Ok.prepared c.in-Ok.ensures.prepared c.pass_known.new.known.items
    (passes (goal.at.close-requires-clause-known c).After-pass_known) in omega (arith, all)

pub close-requires-clause-resting : goal.close-requires-clause-resting
close-requires-clause-resting c =
    part_rests c.args.self c.prepare_part.new.self
    (opened (goal.at.close-requires-clause-resting c).After-prepare_part) c.settle_part-progress.new.spans c.args.limit
    c.settle_part-progress.result c.settle_part-progress.new.passed.items c.settle_part-progress.ensures
    c.in-Ok.prepared c.in-Ok.ensures.prepared c.pass_known.new.known.items
    (passes (goal.at.close-requires-clause-resting c).After-pass_known)

pub close-requires-in-Err-clause-size : goal.close-requires-in-Err-clause-size
close-requires-in-Err-clause-size c =
    let o = opened (goal.at.close-requires-in-Err-clause-size c).After-prepare_part in
    ap length (open_whole c.args.self c.prepare_part.new.self o) ∙ o.size

pub close-requires-in-Err-clause-resting : goal.close-requires-in-Err-clause-resting
close-requires-in-Err-clause-resting c = open_rests c.args.self c.prepare_part.new.self
    (opened (goal.at.close-requires-in-Err-clause-resting c).After-prepare_part)

pub returns-in-Err-clause-refused : goal.returns-in-Err-clause-refused
returns-in-Err-clause-refused c = c.close-in-Err.ensures
    ∙ open_closed c.args.self c.prepare_part.new.self
    (opened (goal.at.returns-in-Err-clause-refused c).After-prepare_part)

pub returns-in-Ok-clause-parted : goal.returns-in-Ok-clause-parted
returns-in-Ok-clause-parted c layout mem s stands =
    subst (λ (v : OffSeen). BootedInPart layout mem s c.args.limit v
    (c.args.limit - c.settle_part-progress.result.left)) (sym c.close.ensures)
    (part_is c.args.self c.prepare_part.new.self
    (opened (goal.at.returns-in-Ok-clause-parted c).After-prepare_part) c.settle_part-progress.new.spans c.args.limit
    c.settle_part-progress.result c.settle_part-progress.new.passed.items c.settle_part-progress.ensures
    c.in-Ok.prepared c.in-Ok.ensures.prepared c.pass_known.new.known.items
    (passes (goal.at.returns-in-Ok-clause-parted c).After-pass_known) layout mem s stands)
