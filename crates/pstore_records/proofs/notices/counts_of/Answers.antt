-- One zone more adds what it counts. For the loop of `counts_of`.
use Rattle.std.proofs.Common.{◌+◌, ◌<◌, ◌||◌, ℕ, Bool, length, arith}
use Rattle.prz_read.specs.Saving.{saved}
use Rattle.pstore_records.specs.Counts.{has_parity, corrected_in, bad_in}
use Rattle.pstore_records.proofs.Additive.{has_parity-append, corrected_in-append, bad_in-append}
use Rattle.pstore_records.proofs.Steps.{added-more}
use Rattle.pstore_records.proofs.notices.counts_of.Goals as goal

pub loop-i-preserved : goal.loop-i-preserved
loop-i-preserved c =
    let zones = saved c.args.logs.now in
    let within : c.loop-i.i < length (saved c.args.logs.now) =
    omega (arith, c.len-i-end.ensures.saved, c.loop-i-test.true) in
    record {
      parity = added-more (has_parity c.args.name) (λ (a b : Bool). a || b) (has_parity-append c.args.name)
          zones c.loop-i.i c.loop-i.counts.has_parity c.counts_at-own.result.has_parity within
          c.counts_at-own.ensures.has_parity c.loop-i.invariant.parity;
      corrected = added-more (corrected_in c.args.name) (λ (a b : ℕ). a + b) (corrected_in-append c.args.name)
          zones c.loop-i.i c.loop-i.counts.corrected c.counts_at-own.result.corrected within
          c.counts_at-own.ensures.corrected c.loop-i.invariant.corrected;
      bad = added-more (bad_in c.args.name) (λ (a b : ℕ). a + b) (bad_in-append c.args.name)
          zones c.loop-i.i c.loop-i.counts.bad c.counts_at-own.result.bad within c.counts_at-own.ensures.bad
          c.loop-i.invariant.bad;
      few = omega (arith, c.loop-i.invariant.few, c.counts_at-own.ensures.few);
      rare = omega (arith, c.loop-i.invariant.rare, c.counts_at-own.ensures.rare);
    }
