-- A zone where no call stands joins those so far. For `resting`.
use Rattle.std.proofs.Common.{sym, refl, append-nil, arith}
use Rattle.std.proofs.lemmas.List.{take_all}
use Rattle.std.proofs.lemmas.List.Elements.{All-push}
use Rattle.ram_generator.specs.Damage.{IsWithin}
use Rattle.ram_generator.proofs.SessionCalls.{resting_more}
use Rattle.ram_generator.proofs.calls.resting.Goals as goal
use Rattle.ram_generator.proofs.calls.resting.Goals.{then-rests+in_ok-push, else-rests}

pub zones-preserved : goal.zones-preserved
zones-preserved c = elim c.if-rests.branch [
  | then-rests+in_ok-push w ↦ (record {
    resting = resting_more c.args.live.now c.args.zones.now c.zones.rest.items c.if-rests.rest.items
        c.zones.zone-index _ _ c.rests.result c.zones-test.true refl c.rests.ensures
        (rw (w.rest-is, w.if-rests.true) w.in_ok-push.ensures.items) c.zones.invariant.resting;
    within = rw (w.rest-is, w.in_ok-push.ensures.items) (All-push IsWithin c.zones.rest.items _
        c.zones.invariant.within (c.requires.within c.zones.zone-index _ c.zones-test.true));
  })
  | else-rests w ↦ (record {
    resting = resting_more c.args.live.now c.args.zones.now c.zones.rest.items c.if-rests.rest.items
        c.zones.zone-index _ _ c.rests.result c.zones-test.true refl c.rests.ensures
        (rw (w.rest-is, w.if-rests.false) (sym (append-nil c.zones.rest.items))) c.zones.invariant.resting;
    within = rw w.rest-is c.zones.invariant.within;
  })
]

pub returns-clause-resting : goal.returns-clause-resting
returns-clause-resting c layout mem s stands =
    rw (take_all c.zones.zone-index c.args.zones.now (omega (arith, c.zones-test.false)))
    at (c.zones.invariant.resting layout mem s stands)
