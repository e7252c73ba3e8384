-- A loading that is refused, that clears both rings, or that fails at it answers as defined, and
-- leaves the store its size. For `Blk::load`.
use Rattle.std.proofs.Common.{◌≡◌, ◌∙◌, sym, ap, subst, ℕ, inr}
use Rattle.blk_spec.specs.Answers.{HasRoom, Device, device, further}
use Rattle.blk_spec.specs.Writes.{store_after}
use Rattle.blk_spec.specs.States.{load_writes}
use Rattle.zone_blk.proofs.LoadingWrites.{load-refused, uncut-store, uncut-asks, uncut-stays, fails-behind, room-makes}
use Rattle.zone_blk.proofs.LoadingWrites.{room-fails}
use Rattle.zone_blk.proofs.blk.Blk.load.Goals as goal

pub returns-in-Err-clause-answer : goal.returns-in-Err-clause-answer
returns-in-Err-clause-answer g c = load-refused c.in-Err.fault c.args.layout _ _ _ _ _ _ c.in-Err.ensures.ends
    c.in-Err.ensures.same c.in-Err.ensures.unwritten

pub returns-in-Ok-clear_rings-clause-answer : goal.returns-in-Ok-clear_rings-clause-answer
returns-in-Ok-clear_rings-clause-answer g c = (
  c.in-Ok.ensures.layout,
  c.in-Ok.ensures.read,
  uncut-store (load_writes c.args.layout) c.clear_rings.new.cut _ _ c.in-Ok-clear_rings.ensures.ends
      ∙ ap (store_after (load_writes c.args.layout)) c.in-Ok.ensures.same,
  c.in-Ok-clear_rings.ensures.ends.asked
      ∙ ap (λ (n : ℕ). further n (g.M.Load.writes c.read_all.new.store)) (uncut-asks c.args.layout)
      ∙ ap (further _) c.in-Ok.ensures.unwritten,
)

pub returns-in-Ok-clear_rings-clause-unread : goal.returns-in-Ok-clear_rings-clause-unread
returns-in-Ok-clear_rings-clause-unread g c = c.in-Ok-clear_rings.ensures.ends.unread ∙ c.in-Ok.ensures.ends.1

pub returns-in-Err-clear_rings-clause-answer : goal.returns-in-Err-clear_rings-clause-answer
returns-in-Err-clear_rings-clause-answer g c =
    let a : Device = device (g.M.Load.holds c.args.store.now) (g.M.Load.writes c.args.store.now)
    (g.M.Load.read_faults c.args.store.now) in
    let b : Device = device (g.M.Load.holds c.read_all.new.store) (g.M.Load.writes c.read_all.new.store)
    (g.M.Load.read_faults c.read_all.new.store) in
    let same : b ≡ a = cc (c.in-Ok.ensures.same, c.in-Ok.ensures.unwritten, c.in-Ok.ensures.ends.1) in
    inr (fails-behind (load_writes c.args.layout) a b _ same
    (uncut-stays (load_writes c.args.layout) c.clear_rings.new.cut b _ c.in-Err-clear_rings.ensures.ends))

pub returns-in-Ok-clear_rings-clause-room : goal.returns-in-Ok-clear_rings-clause-room
returns-in-Ok-clear_rings-clause-room g c = λ n room. room-makes _ _ _ _ _ _ c.in-Ok-clear_rings.ensures.ends n
    (subst (HasRoom n) (sym c.in-Ok.ensures.same) room)

pub returns-in-Err-clear_rings-clause-room : goal.returns-in-Err-clear_rings-clause-room
returns-in-Err-clear_rings-clause-room g c = λ n room. room-fails _ _ _ _ _ _ c.in-Err-clear_rings.ensures.ends n
    (subst (HasRoom n) (sym c.in-Ok.ensures.same) room)
