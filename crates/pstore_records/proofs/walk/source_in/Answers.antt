-- A dump's source names its zone only where no other can be in its record. For `source_in`.
use Rattle.prz_read.specs.Saving.{saved}
use Rattle.pstore_records.proofs.Sources.{dump-source}
use Rattle.pstore_records.proofs.walk.source_in.Goals as goal

pub returns-in-Dump : goal.returns-in-Dump
returns-in-Dump c = λ s at. rw c.in-Dump.is (dump-source (saved c.args.logs.now) c.args.i s c.args.is_alone
    c.dump_in.result c.requires.alone at (c.dump_in.ensures.listed s at) c.dump_in.ensures.zone)
