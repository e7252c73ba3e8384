-- A log's bytes are read block by block, two blocks at a time as far as they are whole
use Rattle.std.proofs.Common.{◌≡◌, ◌≤◌, ◌<◌, ℕ, ◌*◌, ◌/◌, refl, subst, ◌∙◌, sym, arith}
use Rattle.list_laws.proofs.RoundingUp.{lt_from_div_ceil}
use Rattle.ring_laws.proofs.PartsLaw.{block_some}
use Rattle.prz_read.proofs.BlockList.{pairs-below, reads-none, whole-bytes, whole-corrected, whole-bad, whole-few}
use Rattle.prz_read.proofs.BlockList.{whole-states, loop-end}
use Rattle.prz_read.proofs.reading.read_bytes.Goals as goal

pub push_pairs-requires-clause-whole : goal.push_pairs-requires-clause-whole
push_pairs-requires-clause-whole c = pairs-below c.args.zone.now.block c.args.size
    (block_some c.args.zone.now c.requires.valid)

pub push_pairs-requires-clause-none : goal.push_pairs-requires-clause-none
push_pairs-requires-clause-none c = reads-none _ _ _ _ (sym c.in_ok-bytes.ensures.items) refl refl
    c.in_ok-states.ensures.none

pub push_read-requires-clause-block : goal.push_read-requires-clause-block
push_read-requires-clause-block c =
    lt_from_div_ceil c.args.size c.args.zone.now.block c.loop-b.b (block_some c.args.zone.now c.requires.valid)
    (subst (λ (n : ℕ). c.loop-b.b < n) c.div_ceil-count.ensures c.loop-b-test.true)

pub returns : goal.returns
returns c =
    let z = c.args.zone.now in
    let x = c.args.span.now in
    let n = c.args.size in
    let b = c.loop-b.b in
    let some = block_some z c.requires.valid in
    let low = c.loop-b.auto.b-end (subst (λ (k : ℕ). 2 * (n / z.block / 2) ≤ k)
    (sym c.div_ceil-count.ensures) (loop-end n z.block _ some refl)) in
    let high = c.loop-b-test.false in
    let last : b ≡ c.div_ceil-count.result = omega (arith, low, high) in
    let end = last ∙ c.div_ceil-count.ensures in
    let reads = c.loop-b.invariant.0 in
    record {
      bytes = whole-bytes z x n b _ c.requires.valid reads end;
      corrected = whole-corrected z x n b _ c.requires.valid reads end;
      bad = whole-bad z x n b _ c.requires.valid reads end;
      few = whole-few z x n b _ c.requires.valid reads end;
      states = λ wanted. whole-states z x n b _ c.requires.valid reads end (c.loop-b.invariant.1 ∙ wanted);
    }
