-- The size at hand is the first with room, or the next ones are looked at, or none has room.
use Rattle.std.proofs.Common.{◌≡◌, ◌+◌, nat_lt, false, get_or, sym, ap, arith}
use Rattle.std.specs.Prelude.{unwrap_or}
use Rattle.std.proofs.lemmas.List.{get_or_default}
use Rattle.std.proofs.lemmas.Bool.{lt-ltb}
use Rattle.std.proofs.lemmas.Bool.Decides.{nat_tests}
use Rattle.log_region.specs.Regions.{zone_sizes, size_for}
use Rattle.log_region.proofs.FirstSize.{find-here, find-past, find-end}
use Rattle.log_region.proofs.zone_size.Goals as goal

pub returns-then-len-size : goal.returns-then-len-size
unfolding size_for zone_sizes
returns-then-len-size c = sym (ap (λ o. unwrap_or o 16777216) (find-here (λ size. nat_lt (12 + c.args.len) size)
    zone_sizes c.loop-size.size-index (get_or zone_sizes c.loop-size.size-index 0) c.loop-size-test.true
    (get_or_default zone_sizes c.loop-size.size-index 0 _ c.loop-size-test.true)
    (lt-ltb _ _ c.if-len-size.true) c.loop-size.invariant))

pub loop-size-preserved : goal.loop-size-preserved
unfolding zone_sizes
loop-size-preserved c =
    let small : nat_lt (12 + c.args.len) (get_or zone_sizes c.loop-size.size-index 0) ≡ false =
    grind (arith, nat_tests, c.if-len-size.false) in
    find-past (λ size. nat_lt (12 + c.args.len) size)
    zone_sizes c.loop-size.size-index (get_or zone_sizes c.loop-size.size-index 0) c.loop-size-test.true
    (get_or_default zone_sizes c.loop-size.size-index 0 _ c.loop-size-test.true) small c.loop-size.invariant

pub returns : goal.returns
unfolding size_for zone_sizes
returns c = sym (ap (λ o. unwrap_or o 16777216) (find-end (λ size. nat_lt (12 + c.args.len) size)
    zone_sizes c.loop-size.size-index c.loop-size-test.false c.loop-size.invariant))
