-- No dump that was passed over has the number. For the loop of `find_time`.
use Rattle.std.proofs.Common.{◌≡◌, ◌==◌, drop}
use Rattle.std.specs.List.{find}
use Rattle.blk_spec.specs.Reading.{BlkDump}
use Rattle.zone_blk.proofs.names.find_time.Given as goal

-- none of the dumps passed over is the one
abbrev pub invariant-loop-dump : goal.invariant-loop-dump
invariant-loop-dump l = find (λ (d : BlkDump). d.index == l.index) (drop l.dump-index l.dumps)
    ≡ find (λ (d : BlkDump). d.index == l.index) l.dumps
