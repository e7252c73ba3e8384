-- The front with block `b` as it reads is the reading of the blocks up to it, with its counts. For
-- `push_decoded`.
use Rattle.std.proofs.Common.{◌≡◌, ℕ, List, ◌++◌, length, take, refl, sym, ap, ap₂, ◌∙◌, arith, length-take-le}
use Rattle.zone_spec.specs.Parts.{Block}
use Rattle.zone_spec.specs.PartReadings.{part_reading}
use Rattle.prz_read.proofs.Fronts.{bytes_read-next}
use Rattle.prz_read.proofs.BlockList.{pushed}
use Rattle.prz_read.proofs.reading.Front.push_decoded.Goals as goal

pub slice_bounds-extend_from_slice-end : goal.slice_bounds-extend_from_slice-end
slice_bounds-extend_from_slice-end c =
    let r = c.requires in
    let next = bytes_read-next c.args.zone.now c.args.span.now c.args.b c.args.size r.valid r.len
    c.len-len.ensures.bytes r.within r.block in
    let same : length c.args.block.now ≡ length (part_reading c.args.zone.now c.args.span.now
    (Block c.args.b)).bytes = ap length c.requires.data in
    sym (length-take-le c.min-len.result c.args.block.now (omega (arith, same, next.0, c.min-len.ensures)))

pub returns-clause-reads : goal.returns-clause-reads
returns-clause-reads c =
    let z = c.args.zone.now in
    let x = c.args.span.now in
    let r = c.requires in
    pushed z x c.args.size c.args.b r.valid r.len c.len-len.ensures.bytes r.within r.block c.args.self.now _ _ _ _
    r.before
    (c.in_ok-extend_from_slice.ensures.items ∙ ap (λ (l : List ℕ). c.args.self.now.bytes.items ++ l)
    (ap₂ (λ (n : ℕ) (ys : List ℕ). take n ys) c.min-len.ensures
    c.requires.data))
    refl (c.counts_of-more.ensures.corrected _ c.requires.counts)
    c.counts_of-more.ensures.few
    refl (c.counts_of-more.ensures.bad _ c.requires.counts)
    c.counts_of-more.ensures.one (c.part_state.ensures _ c.requires.counts)
    c.in_ok-push.ensures.wanted c.in_ok-push.ensures.kept
