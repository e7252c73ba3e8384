-- A member that halts ends the file, behind the last one the file ends, and any other leads on. For `members`.
use Rattle.std.proofs.Common.{length-drop, drop, arith, refl}
use Rattle.gzip_spec.specs.Headers.{header_end}
use Rattle.gzip_spec.specs.Files.{End, Leads}
use Rattle.gzip.specs.Goes.{Onward}
use Rattle.gzip.proofs.Onwards.{first_on, halts, all_read, all_more, at_rest, stopped_at, onward_at}
use Rattle.gzip.proofs.members.Goals as goal
use Rattle.gzip.proofs.members.Goals.{In-Ok}

pub members-init : goal.members-init
members-init c = record {
  inside = omega arith;
  short = rw c.requires (omega arith);
  here = rw c.requires (λ next outcome leads ends. first_on c.args.most c.args.bytes.now next outcome leads ends);
}

pub returns-in-Err : goal.returns-in-Err
returns-in-Err c =
    halts c.args.most c.args.bytes.now c.tail-rest.result.now c.member.new.text.items
    (Leads c.args.most (header_end c.members.other c.tail-rest.result.now) c.tail-rest.result.now c.members.text.items)
    c.in-Err.stop (λ outcome leads. c.members.invariant.here (End outcome) outcome
    (at_rest c.args.most c.members.other c.tail-rest.result.now (drop c.members.at c.args.bytes.now)
    c.members.text.items (End outcome) c.tail-rest.ensures leads) refl)
    (stopped_at c.args.most c.tail-rest.result.now c.member.new.text.items
    (Leads c.args.most (header_end c.members.other c.tail-rest.result.now) c.tail-rest.result.now c.members.text.items)
    c.member.result c.in-Err.stop c.in-Err.is c.member.ensures)

onward : (c : In-Ok) → Onward c.args.most (drop c.members.at c.args.bytes.now) c.member.new.text.items
    (Leads c.args.most (header_end c.members.other (drop c.members.at c.args.bytes.now))
    (drop c.members.at c.args.bytes.now) c.members.text.items) c.in-Ok.taken
onward c =
    onward_at c.args.most c.members.other c.tail-rest.result.now (drop c.members.at c.args.bytes.now)
    c.members.text.items c.member.new.text.items c.member.result c.in-Ok.taken
    c.tail-rest.ensures c.in-Ok.is c.member.ensures

pub returns-then-at-bytes : goal.returns-then-at-bytes
returns-then-at-bytes c =
    all_read c.args.most c.args.bytes.now c.member.new.text.items c.members.at c.in-Ok.taken
    (Leads c.args.most (header_end c.members.other (drop c.members.at c.args.bytes.now))
    (drop c.members.at c.args.bytes.now) c.members.text.items)
    (λ outcome leads. c.members.invariant.here (End outcome) outcome leads refl)
    (onward (goal.at.returns-then-at-bytes c).In-Ok) c.if-at-bytes.true

pub members-preserved : goal.members-preserved
members-preserved c =
    let on = onward (goal.at.members-preserved c).In-Ok in
    let inside = on.inside in
    record {
      inside = omega (arith, inside, length-drop c.members.at c.args.bytes.now);
      short = on.short;
      here = all_more c.args.most c.args.bytes.now c.member.new.text.items c.members.at c.in-Ok.taken
          (Leads c.args.most (header_end c.members.other (drop c.members.at c.args.bytes.now))
          (drop c.members.at c.args.bytes.now) c.members.text.items)
          c.members.invariant.here on c.if-at-bytes.false;
    }
