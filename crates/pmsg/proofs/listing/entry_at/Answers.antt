-- A whole entry has at least 18 bytes, all of them there, so each of its fields can be read. For
-- `entry_at`.
use Rattle.std.proofs.Common.{arith}
use Rattle.pmsg.proofs.Skips.{Fits, fits}
use Rattle.pmsg.proofs.listing.entry_at.Goals as goal

pub bounds-rest-7 : goal.bounds-rest-7
bounds-rest-7 c =
    let f : Fits c.args.rest.now = fits c.args.rest.now c.requires.stands in omega (arith, f.least, f.within)

pub half-requires : goal.half-requires
half-requires c =
    let f : Fits c.args.rest.now = fits c.args.rest.now c.requires.stands in omega (arith, f.least, f.within)

pub half-requires-2 : goal.half-requires-2
half-requires-2 c =
    let f : Fits c.args.rest.now = fits c.args.rest.now c.requires.stands in omega (arith, f.least, f.within)

pub half-requires-3 : goal.half-requires-3
half-requires-3 c =
    let f : Fits c.args.rest.now = fits c.args.rest.now c.requires.stands in omega (arith, f.least, f.within)

pub word-requires : goal.word-requires
word-requires c =
    let f : Fits c.args.rest.now = fits c.args.rest.now c.requires.stands in omega (arith, f.least, f.within)

pub word-requires-2 : goal.word-requires-2
word-requires-2 c =
    let f : Fits c.args.rest.now = fits c.args.rest.now c.requires.stands in omega (arith, f.least, f.within)
