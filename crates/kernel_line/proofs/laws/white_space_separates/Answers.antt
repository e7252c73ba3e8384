-- Without quotes the words are what stands between white space. By `Plain`.
use Rattle.kernel_line.proofs.Plain.{plain}
use Rattle.kernel_line.proofs.laws.white_space_separates.Goals as goal

pub returns : goal.returns
returns c = plain
