-- Zeros that are written in pieces join to a longer front of zeros. A failed piece leaves a
-- shorter front, and the image was asked to be written.
use Rattle.std.proofs.Common.{[], arith, refl, replicate, ℕ, ◌∙◌, inl, inr}
use Rattle.std.proofs.lemmas.List.{length-replicate}
use Rattle.image_file.proofs.Pieces.{written_reach, zeros_short, zeros_next, written_none, asked_on, counted_first}
use Rattle.image_file.proofs.Pieces.{counted_next, counted_all}
use Rattle.image_file.proofs.saving.fill.Goals as goal

pub returns-in-Err-clause-bytes : goal.returns-in-Err-clause-bytes
returns-in-Err-clause-bytes g c =
    zeros_short _ _ _ c.pieces.at c.min-count.result c.args.mem _ (omega (arith, c.min-count.ensures))
    (omega (arith, c.min-count.ensures, c.pieces-test.true, c.pieces.invariant.0))
    refl c.pieces.invariant.1 c.in-Err.ensures.bytes

pub write_at-requires : goal.write_at-requires
write_at-requires g c = written_reach (g.M.Load.holds c.args.image.now) _ c.pieces.at (replicate c.pieces.at 0)
    (omega (arith, length-replicate {A = ℕ} c.pieces.at 0)) c.pieces.invariant.1

pub pieces-preserved : goal.pieces-preserved
pieces-preserved g c = (
  omega (arith, c.min-count.ensures, c.pieces-test.true),
  zeros_next _ _ _ c.pieces.at c.min-count.result _ (omega (arith, c.min-count.ensures)) refl c.pieces.invariant.1
      c.in-Ok.ensures.bytes,
  c.in-Ok.ensures.cause.done ∙ c.pieces.invariant.2,
  inr (asked_on _ _ _ c.pieces.invariant.3 c.in-Ok.ensures.counted),
  c.in-Ok.ensures.unread ∙ c.pieces.invariant.4,
  counted_next c.args.mem c.pieces.at _ c.min-count.result _ _ _ (omega (arith, c.pieces-test.true))
      (omega (arith, c.min-count.ensures)) refl c.in-Ok.ensures.counted c.pieces.invariant.5,
)

pub returns-in-Err-clause-asked : goal.returns-in-Err-clause-asked
returns-in-Err-clause-asked g c = asked_on _ _ _ c.pieces.invariant.3 c.in-Err.ensures.counted

pub pieces-init : goal.pieces-init
pieces-init g c = (
  omega arith,
  written_none (g.M.Load.holds c.args.image.now) [] refl,
  refl,
  inl refl,
  refl,
  counted_first c.args.mem (g.M.Load.writes c.args.image.now),
)

pub returns-clause-written : goal.returns-clause-written
returns-clause-written g c = counted_all c.args.mem c.pieces.at _ _ (omega (arith, c.pieces-test.false))
    c.pieces.invariant.5

pub returns-in-Err-clause-unread : goal.returns-in-Err-clause-unread
returns-in-Err-clause-unread g c = c.in-Err.ensures.unread ∙ c.pieces.invariant.4
