-- A zone too small for a header, or with no log, has saved nothing; else the log that is read is
-- the saved one. For `read_ring`.
use Rattle.std.proofs.Common.{◌∙◌, ◌≡◌, drop, List, ℕ, Option, IfSome, subst, sym}
use Rattle.blk_spec.specs.Reading.{zone_bytes, ring_log}
use Rattle.zone_blk.proofs.Fronts.{small-saved, none-saved, log-saved}
use Rattle.zone_blk.proofs.reading.read_ring.Goals as goal

pub returns-then-zone-lt-HEADER-clause-saved : goal.returns-then-zone-lt-HEADER-clause-saved
returns-then-zone-lt-HEADER-clause-saved g c = small-saved c.args.zone (g.M.Load.holds c.args.store.now)
    c.requires.zone.sized c.if-zone-lt-HEADER.true c.requires.sig

pub returns-then-not-has_log-clause-saved : goal.returns-then-not-has_log-clause-saved
returns-then-not-has_log-clause-saved g c = none-saved c.args.zone (g.M.Load.holds c.args.store.now) c.in-Ok.words
    c.in-Ok.ensures.words (sym c.has_log.ensures ∙ c.if-not-has_log.true)

pub returns-in-Ok-read_log-clause-saved : goal.returns-in-Ok-read_log-clause-saved
returns-in-Ok-read_log-clause-saved g c =
    log-saved c.args.zone (g.M.Load.holds c.args.store.now) c.in-Ok.words c.in-Ok-read_log.log c.in-Ok.ensures.words
    (sym c.has_log.ensures ∙ c.if-not-has_log.false)
    (subst (λ (holds : Option (List ℕ)). IfSome holds (λ (bs : List ℕ). c.in-Ok-read_log.log
    ≡ ring_log c.in-Ok.words (drop 12 (zone_bytes bs c.args.zone)))) c.in-Ok.ensures.same c.in-Ok-read_log.ensures.log)
