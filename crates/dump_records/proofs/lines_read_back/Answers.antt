-- A time line reads back as itself, and is short. By `Lines`.
use Rattle.dump_records.proofs.Lines.{read_back, short}
use Rattle.dump_records.proofs.lines_read_back.Goals as goal

pub returns-clause-read_back : goal.returns-clause-read_back
returns-clause-read_back c = read_back

pub returns-clause-short : goal.returns-clause-short
returns-clause-short c = short
