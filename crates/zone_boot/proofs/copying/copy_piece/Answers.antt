-- The bytes copied are those of one block from `place` on, one at least. For `copy_piece`.
use Rattle.std.proofs.Common.{ℕ, List, ◌+◌, ◌%◌, ◌++◌, length, take, drop, sym, ap, ◌∙◌, arith, length-drop}
use Rattle.zone_boot.proofs.Rows.{put-is}
use Rattle.zone_boot.proofs.Blocks.{piece-long, piece-is}
use Rattle.zone_boot.proofs.copying.copy_piece.Goals as goal

pub split_at-requires : goal.split_at-requires
split_at-requires c =
    let long = piece-long c.args.zone.now c.args.image.now c.requires.valid c.requires.size
    (λ k. (c.type_inv.image k).fits) c.args.place c.requires.place c.as_slice.result.now
    (c.as_slice.ensures.value ∙ c.read_block-outcome.ensures.data) in
    omega (arith, long.0)

pub returns-clause-some : goal.returns-clause-some
returns-clause-some c =
    let out : List ℕ = c.as_slice.result.now in
    let long = piece-long c.args.zone.now c.args.image.now c.requires.valid c.requires.size
    (λ k. (c.type_inv.image k).fits) c.args.place c.requires.place out
    (c.as_slice.ensures.value ∙ c.read_block-outcome.ensures.data) in
    let back = ap length c.split_at.ensures.back in
    let left = length-drop (c.args.place % c.args.zone.now.block) out in
    omega (arith, long.0, c.min-len.ensures, back, left, c.requires.some)

pub returns-clause-copied : goal.returns-clause-copied
returns-clause-copied c =
    let n : ℕ = c.min-len.result in
    let out : List ℕ = c.as_slice.result.now in
    let back = ap length c.split_at.ensures.back in
    let left = length-drop (c.args.place % c.args.zone.now.block) out in
    put-is c.args.at n c.args.out.now c.copy_from_slice.new.self
    ∙ ap (λ (l : List ℕ). take c.args.at c.args.out.now ++ l ++ drop (c.args.at + n) c.args.out.now)
    (c.copy_from_slice.ensures.after ∙ ap (λ (l : List ℕ). take n l) c.split_at.ensures.back
    ∙ sym (piece-is c.args.zone.now c.args.image.now c.requires.valid c.requires.size
    (λ k. (c.type_inv.image k).fits) c.args.place c.requires.place out
    (c.as_slice.ensures.value ∙ c.read_block-outcome.ensures.data) n
    (omega (arith, c.min-len.ensures, back, left))))
