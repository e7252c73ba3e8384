-- One block more adds its corrected bytes and whether it is bad. For the loop of `count_blocks`.
use Rattle.std.proofs.Common.{ℕ, ◌+◌, sym, ap₂, ◌∙◌, arith}
use Rattle.list_laws.proofs.Ranges.{sum_by-range_more}
use Rattle.zone_spec.specs.Parts.{Block}
use Rattle.zone_spec.specs.PartReadings.{part_reading}
use Rattle.zone_boot.proofs.summaries.count_blocks.Goals as goal

pub loop-b-preserved : goal.loop-b-preserved
loop-b-preserved c =
    let z = c.args.zone.now in
    let x = c.args.image.now in
    let b : ℕ = c.loop-b.b in
    let was = c.loop-b.invariant in
    let more = c.counts_of-more.ensures in
    let h = c.read_block-outcome.ensures.counts in
    record {
      corrected = ap₂ (λ (n k : ℕ). n + k) was.corrected (more.corrected _ h)
          ∙ sym (sum_by-range_more (λ (j : ℕ). (part_reading z x (Block j)).corrected) b);
      bad = ap₂ (λ (n k : ℕ). n + k) was.bad (more.bad _ h)
          ∙ sym (sum_by-range_more (λ (j : ℕ). (part_reading z x (Block j)).bad) b);
      few = (let a = was.few in let l = more.few in omega (arith, a, l));
      some = (let a = was.some in let l = more.one in omega (arith, a, l));
    }
