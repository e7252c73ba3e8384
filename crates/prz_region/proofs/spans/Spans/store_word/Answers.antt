-- The four bytes of a word are bytes and lie in the span. For `store_word`.
use Rattle.std.proofs.Common.{lit<, subst, sym}
use Rattle.zone_spec.specs.Parts.{AreBytes}
use Rattle.prz_region.proofs.Stores.{AreBytes-word}
use Rattle.prz_region.proofs.spans.Spans.store_word.Goals as goal

pub store_array-requires : goal.store_array-requires
store_array-requires c = (
  lit< tt,
  (c.requires.span, (c.requires.place, subst AreBytes (sym c.bytes.ensures) (AreBytes-word c.args.order c.args.w))),
)
