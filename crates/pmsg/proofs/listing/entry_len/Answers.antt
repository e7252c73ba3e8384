-- The length of a whole entry is at least 18 and within the bytes. For `entry_len`.
use Rattle.std.proofs.Common.{arith}
use Rattle.pmsg.proofs.Skips.{Fits, fits}
use Rattle.pmsg.proofs.listing.entry_len.Goals as goal

pub half-requires : goal.half-requires
half-requires c =
    let f : Fits c.args.bytes.now = fits c.args.bytes.now c.requires in omega (arith, f.least, f.within)

pub returns-clause-least : goal.returns-clause-least
returns-clause-least c =
    let f : Fits c.args.bytes.now = fits c.args.bytes.now c.requires in omega (arith, f.least, f.within)

pub returns-clause-within : goal.returns-clause-within
returns-clause-within c =
    let f : Fits c.args.bytes.now = fits c.args.bytes.now c.requires in omega (arith, f.least, f.within)
