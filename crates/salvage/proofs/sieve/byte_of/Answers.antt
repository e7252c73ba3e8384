-- A shifted lane's lowest byte. For `byte_of`.
use Rattle.std.proofs.Common.{refl}
use Rattle.rs_encode.specs.Lanes.{digit}
use Rattle.salvage.proofs.sieve.byte_of.Goals as goal

pub returns : goal.returns
unfolding digit
returns c = refl
