-- A piece that is written lengthens the front of the image that is written, and a failed piece was
-- asked for. For `save`.
use Rattle.std.proofs.Common.{[], arith, length, refl, ◌∙◌, inl, inr}
use Rattle.std.proofs.lemmas.Grind.{common_steps}
use Rattle.image_file.proofs.Pieces.{written_none, written_next, asked_on, counted_first, counted_next, counted_all}
use Rattle.image_file.proofs.saving.save.Goals as goal

pub pieces-preserved : goal.pieces-preserved
pieces-preserved g c = (
  omega (arith, c.min-count.ensures, c.pieces-test.true),
  written_next _ _ _ c.pieces.at c.min-count.result c.args.bytes.now _
      (omega (arith, c.min-count.ensures, c.pieces-test.true)) (grind (arith, common_steps)) c.pieces.invariant.1
      c.in-Ok.ensures.bytes,
  c.in-Ok.ensures.cause.done ∙ c.pieces.invariant.2,
  inr (asked_on _ _ _ c.pieces.invariant.3 c.in-Ok.ensures.counted),
  c.in-Ok.ensures.unread ∙ c.pieces.invariant.4,
  counted_next (length c.args.bytes.now) c.pieces.at _ c.min-count.result _ _ _ (omega (arith, c.pieces-test.true))
      (omega (arith, c.min-count.ensures)) refl c.in-Ok.ensures.counted c.pieces.invariant.5,
)

pub pieces-init : goal.pieces-init
pieces-init g c = (
  omega arith,
  written_none (g.M.Load.holds c.args.image.now) [] refl,
  refl,
  inl refl,
  refl,
  counted_first (length c.args.bytes.now) (g.M.Load.writes c.args.image.now),
)

pub returns-clause-written : goal.returns-clause-written
returns-clause-written g c = counted_all (length c.args.bytes.now) c.pieces.at _ _ (omega (arith, c.pieces-test.false))
    c.pieces.invariant.5

pub returns-in-Err-clause-unread : goal.returns-in-Err-clause-unread
returns-in-Err-clause-unread g c = c.in-Err.ensures.unread ∙ c.pieces.invariant.4

pub returns-in-Err-clause-asked : goal.returns-in-Err-clause-asked
returns-in-Err-clause-asked g c = asked_on _ _ _ c.pieces.invariant.3 c.in-Err.ensures.counted
