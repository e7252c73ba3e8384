-- The dump at hand is the first of the name, or the search goes on, or ends with none. For the
-- loop of `find_dump`.
use Rattle.std.proofs.Common.{◌≡◌, ◌∙◌, sym, ap, true, false}
use Rattle.blk_spec.specs.declared.BlkName.{BlkName}
use Rattle.blk_spec.specs.Reading.{BlkDump}
use Rattle.blk_spec.specs.Names.{is_name, dump_name}
use Rattle.zone_blk.proofs.FirstItem.{find-here, find-past, find-end}
use Rattle.zone_blk.proofs.names.find_dump.Goals as goal

pub returns-then-is_name : goal.returns-then-is_name
returns-then-is_name c =
    let same : is_name c.args.name (dump_name c.dump-item.result) ≡ true =
    sym (c.is_name.ensures ∙ ap (λ (n : BlkName). is_name c.args.name n) c.dump_name.ensures) ∙ c.if-is_name.true in
    sym (find-here (λ (d : BlkDump). is_name c.args.name (dump_name d))
    c.args.dumps.now c.loop-dump.dump-index c.dump-item.result c.loop-dump-test.true c.dump-item.is same
    c.loop-dump.invariant)

pub loop-dump-preserved : goal.loop-dump-preserved
loop-dump-preserved c =
    let other : is_name c.args.name (dump_name c.dump-item.result) ≡ false =
    sym (c.is_name.ensures ∙ ap (λ (n : BlkName). is_name c.args.name n) c.dump_name.ensures)
    ∙ c.if-is_name.false in
    find-past (λ (d : BlkDump). is_name c.args.name (dump_name d))
    c.args.dumps.now c.loop-dump.dump-index c.dump-item.result c.loop-dump-test.true c.dump-item.is other
    c.loop-dump.invariant

pub returns : goal.returns
returns c = sym (find-end (λ (d : BlkDump). is_name c.args.name (dump_name d))
    c.args.dumps.now c.loop-dump.dump-index c.loop-dump-test.false c.loop-dump.invariant)
