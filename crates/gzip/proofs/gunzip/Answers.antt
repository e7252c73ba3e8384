-- What the file is, is what was read. For `gunzip`.
use Rattle.gzip.proofs.Onwards.{tells}
use Rattle.gzip.proofs.gunzip.Goals as goal

pub returns-clause-told : goal.returns-clause-told
returns-clause-told c = tells c.args.most c.args.bytes.now c.read.result c.read.ensures
