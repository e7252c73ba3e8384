-- A zone of no bytes needs no write; clearing any other leaves the store its size. For
-- `clear_ring`.
use Rattle.std.proofs.Common.{◌≡◌, sym, subst, List, eq-eqb, [], ◌∷◌}
use Rattle.std.proofs.lemmas.Bool.{cond-true}
use Rattle.blk_spec.specs.Writes.{Write}
use Rattle.blk_spec.specs.Answers.{Device, device, Makes}
use Rattle.blk_spec.specs.Rings.{header_write, empty_words}
use Rattle.blk_spec.specs.States.{clearing}
use Rattle.zone_blk.proofs.Sequences.{makes-no-write}
use Rattle.zone_blk.proofs.LoadingWrites.{room-ends}
use Rattle.zone_blk.proofs.blk.clear_ring.Goals as goal

pub returns-then-zone-eq0-clause-ends : goal.returns-then-zone-eq0-clause-ends
returns-then-zone-eq0-clause-ends g c =
    let nothing : clearing c.args.zone ≡ [] = cond-true _ [] (header_write c.args.zone empty_words ∷ [])
    (eq-eqb _ _ c.if-zone-eq0.true) in
    let a : Device = device (g.M.Load.holds c.args.store.now) (g.M.Load.writes c.args.store.now)
    (g.M.Load.read_faults c.args.store.now) in
    subst (λ (ws : List Write). Makes ws ws c.args.cut.now c.args.cut.now a a) (sym nothing)
    (makes-no-write a c.args.cut.now)

pub returns-clause-more : goal.returns-clause-more
returns-clause-more g c = λ n room. room-ends n c.write_header.result _ _ _ _ _ c.write_header.ensures.ends room
