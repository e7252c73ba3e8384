-- The eight bytes of two words are bytes and lie in the span. For `store_pair`.
use Rattle.std.proofs.Common.{lit<, subst, sym}
use Rattle.zone_spec.specs.Parts.{AreBytes}
use Rattle.prz_region.proofs.Stores.{AreBytes-word, AreBytes-eight}
use Rattle.prz_region.proofs.spans.Spans.store_pair.Goals as goal

pub store_array-requires : goal.store_array-requires
store_array-requires c =
    let first = c.bytes in
    let second = c.bytes-2 in (
      lit< tt,
      (
        c.requires.span,
        (
          c.requires.place,
          AreBytes-eight first.result second.result (subst AreBytes (sym first.ensures) (AreBytes-word c.args.order c.args.first))
              (subst AreBytes (sym second.ensures) (AreBytes-word c.args.order c.args.second)),
        ),
      ),
    )
