-- The dump at hand is the first of the number, or the search goes on, or ends with none. For the
-- loop of `find_time`.
use Rattle.std.proofs.Common.{◌≡◌, ◌≢◌, ◌==◌, ◌∙◌, sym, ap, false, eq-eqb, arith, Some}
use Rattle.std.specs.Option.{option_map}
use Rattle.std.proofs.lemmas.Bool.Decides.{nat_tests}
use Rattle.blk_spec.specs.Reading.{BlkDump}
use Rattle.zone_blk.proofs.FirstItem.{find-here, find-past, find-end}
use Rattle.zone_blk.proofs.names.find_time.Goals as goal

pub returns-then-dump-index : goal.returns-then-dump-index
returns-then-dump-index c =
    let index : c.dump-item.result.index ≡ c.args.index = sym (ap (λ (d : BlkDump). d.index) c.dump.view_is)
    ∙ c.if-dump-index.true in
    ap (λ (d : BlkDump). option_map (λ (e : BlkDump). e.time) (Some d)) c.dump.view_is
    ∙ sym (ap (option_map (λ (d : BlkDump). d.time)) (find-here (λ (d : BlkDump). d.index == c.args.index)
    c.args.dumps.now c.loop-dump.dump-index c.dump-item.result c.loop-dump-test.true c.dump-item.is
    (eq-eqb _ _ index) c.loop-dump.invariant))

pub loop-dump-preserved : goal.loop-dump-preserved
loop-dump-preserved c =
    let index : c.dump.inside.index ≡ c.dump-item.result.index = ap (λ (d : BlkDump). d.index) c.dump.view_is in
    let apart : c.dump-item.result.index ≢ c.args.index = λ e. c.if-dump-index.false (index ∙ e) in
    let other : (c.dump-item.result.index == c.args.index) ≡ false = grind (arith, nat_tests, apart) in
    find-past (λ (d : BlkDump). d.index == c.args.index)
    c.args.dumps.now c.loop-dump.dump-index c.dump-item.result c.loop-dump-test.true c.dump-item.is other
    c.loop-dump.invariant

pub returns : goal.returns
returns c = sym (ap (option_map (λ (d : BlkDump). d.time))
    (find-end (λ (d : BlkDump). d.index == c.args.index)
    c.args.dumps.now c.loop-dump.dump-index c.loop-dump-test.false c.loop-dump.invariant))
