-- No dump that was passed over has the name. For the loop of `find_dump`.
use Rattle.std.proofs.Common.{◌≡◌, drop}
use Rattle.std.specs.List.{find}
use Rattle.blk_spec.specs.Reading.{BlkDump}
use Rattle.blk_spec.specs.Names.{is_name, dump_name}
use Rattle.zone_blk.proofs.names.find_dump.Given as goal

-- none of the dumps passed over is the one
abbrev pub invariant-loop-dump : goal.invariant-loop-dump
invariant-loop-dump l = find (λ (d : BlkDump). is_name l.name (dump_name d)) (drop l.dump-index l.dumps)
    ≡ find (λ (d : BlkDump). is_name l.name (dump_name d)) l.dumps
