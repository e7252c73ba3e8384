-- A zone of which nothing is known more changes nothing that is known. For the loop of `list_all`.
use Rattle.std.proofs.Common.{sym, ap, ◌∙◌, arith}
use Rattle.ramoops.specs.OffSeen.{known_all}
use Rattle.ramoops.proofs.KnownZones.{all_listed, all_more}
use Rattle.ramoops.proofs.known.list_all.Goals as goal

pub loop-known-preserved : goal.loop-known-preserved
loop-known-preserved c =
    let test = c.loop-known-test.true in let n = c.len.ensures in let ok = c.loop-known.known.ok.0 in
    let m = c.push_reserved.ensures.len in let new = c.push_reserved.new.self.ok.0 in
    let capacity = c.push_reserved.ensures.capacity in let room = c.loop-known.invariant.room in record {
      within = omega (arith, test, n, ok, m, new);
      room = omega (arith, capacity, room);
      same = ap (known_all c.args.count) c.push_reserved.ensures.items
          ∙ all_more c.args.count c.loop-known.known.items (omega (arith, test, n, ok)) ∙ c.loop-known.invariant.same;
    }

pub returns : goal.returns
returns c =
    let test = c.loop-known-test.false in let n = c.len.ensures in let ok = c.loop-known.known.ok.0 in
    let within = c.loop-known.invariant.within in
    sym (all_listed c.args.count c.loop-known.known.items (omega (arith, test, n, ok, within)))
    ∙ c.loop-known.invariant.same
