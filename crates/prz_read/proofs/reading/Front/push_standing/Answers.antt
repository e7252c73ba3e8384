-- A codeword reads as it stands, with no count, so the front may take its bytes. For
-- `push_standing`.
use Rattle.std.proofs.Common.{ℕ, List, ◌+◌, ◌*◌, ◌++◌, slice_range, refl, ap, ap₂, ◌∙◌, arith}
use Rattle.zone_spec.specs.Parts.{Block}
use Rattle.zone_spec.specs.PartReadings.{part_reading}
use Rattle.prz_read.proofs.States.{clean-state}
use Rattle.prz_read.proofs.BlockList.{codeword-reads, pushed, standing}
use Rattle.prz_read.proofs.reading.Front.push_standing.Goals as goal

pub returns-clause-reads : goal.returns-clause-reads
returns-clause-reads c =
    let z = c.args.zone.now in
    let x = c.args.span.now in
    let b = c.args.b in
    let at : ℕ = 12 + z.block * b in
    let r = c.requires in
    let bytes = c.len-len.ensures.bytes in
    let reads = codeword-reads z x (Block b) r.clean in
    pushed z x c.args.size b r.valid r.len bytes r.within r.block c.args.self.now _ 0 0 _ r.before
    (c.in_ok-extend_from_slice.ensures.items ∙ ap (λ (l : List ℕ). c.args.self.now.bytes.items ++ l)
    (ap₂ (λ (l : List ℕ) (n : ℕ). slice_range l at (at + n)) c.bytes.ensures c.min-len.ensures
    ∙ standing z x c.args.size b r.valid r.len bytes r.within r.block at refl r.clean))
    (omega arith) reads.1 (omega arith) (omega arith) reads.2 (omega arith)
    (clean-state (part_reading z x (Block b)) reads.1 reads.2)
    c.in_ok-push.ensures.wanted c.in_ok-push.ensures.kept
