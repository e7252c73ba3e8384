-- A store of one byte lies in its span. For `store`.
use Rattle.std.proofs.Common.{lit<, arith}
use Rattle.prz_region.proofs.Stores.{AreBytes-one}
use Rattle.prz_region.proofs.spans.Spans.store.Goals as goal

pub store_array-requires : goal.store_array-requires
store_array-requires c =
    (lit< tt, (c.requires.span, (omega (arith, c.requires.place), AreBytes-one c.args.b c.ranges.b.fits)))
