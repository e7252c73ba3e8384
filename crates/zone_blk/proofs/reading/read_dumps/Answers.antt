-- One zone's dump more keeps the list that of the zones so far, and at the end it is that of all
-- zones. For `read_dumps`.
use Rattle.std.proofs.Common.{◌∙◌, subst, sym, arith}
use Rattle.blk_spec.specs.Answers.{HasRoom}
use Rattle.zone_blk.proofs.Readings.{told-more, told-all, dump-told, inside-more}
use Rattle.zone_blk.proofs.reading.read_dumps.Goals as goal

pub loop-index-preserved : goal.loop-index-preserved
loop-index-preserved g c = record {
  listed = told-more c.args.layout (g.M.Load.holds c.args.store.now)
      c.loop-index.index c.loop-index.dumps.items c.add_dump.new.dumps.items c.in-Ok.dump c.loop-index.invariant.listed
      (dump-told c.args.layout c.loop-index.index c.dump_zone.result (g.M.Load.holds c.loop-index.store)
      (g.M.Load.holds c.args.store.now) c.in-Ok.dump c.dump_zone.ensures.zone c.loop-index.invariant.same
      c.in-Ok.ensures.dump) c.in-Ok-add_dump.ensures;
  inside = inside-more c.args.layout c.loop-index.index c.loop-index.dumps.items c.add_dump.new.dumps.items
      c.in-Ok.dump c.loop-index-test.true c.loop-index.invariant.inside c.in-Ok.ensures.index c.in-Ok-add_dump.ensures;
  room = subst (HasRoom c.args.layout.total) (sym c.in-Ok.ensures.same) c.loop-index.invariant.room;
  same = c.in-Ok.ensures.same ∙ c.loop-index.invariant.same;
  unwritten = c.in-Ok.ensures.unwritten ∙ c.loop-index.invariant.unwritten;
  kept = c.in-Ok.ensures.ends.0 ∙ c.loop-index.invariant.kept;
  kept_fails = c.in-Ok.ensures.ends.1 ∙ c.loop-index.invariant.kept_fails;
}

pub returns-clause-dumps : goal.returns-clause-dumps
returns-clause-dumps g c = told-all c.args.layout (g.M.Load.holds c.args.store.now)
    c.loop-index.index c.loop-index.dumps.items (omega arith) c.loop-index.invariant.listed
