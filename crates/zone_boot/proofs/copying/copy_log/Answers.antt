-- A zone that was found gives the bytes of its log that fit, any other none. For `copy_log`.
use Rattle.std.proofs.Common.{ℕ, List, ◌-◌, ◌++◌, length, take, drop, min, sym, ap, ◌∙◌, arith}
use Rattle.zone_boot.proofs.HeaderReading.{log-found, log-other}
use Rattle.zone_boot.proofs.copying.copy_log.Goals as goal

pub returns-in-Found-clause-len : goal.returns-in-Found-clause-len
returns-in-Found-clause-len c =
    c.copy_ring.ensures.len ∙ ap (λ (l : List ℕ). min (length l - c.args.from) (length c.args.out.now))
    (sym (log-found c.args.zone.now c.args.image.now c.read_header-header.result.words
    c.read_header-header.ensures.words (sym c.state_of.ensures ∙ c.in-Found.is)))

pub returns-in-Found-clause-copied : goal.returns-in-Found-clause-copied
returns-in-Found-clause-copied c =
    c.copy_ring.ensures.copied
    ∙ ap (λ (l : List ℕ). take c.copy_ring.result (drop c.args.from l) ++ drop c.copy_ring.result c.args.out.now)
    (sym (log-found c.args.zone.now c.args.image.now c.read_header-header.result.words
    c.read_header-header.ensures.words (sym c.state_of.ensures ∙ c.in-Found.is)))

pub returns-in_default-clause-len : goal.returns-in_default-clause-len
returns-in_default-clause-len c =
    let none = ap length (log-other c.args.zone.now c.args.image.now c.read_header-header.result.words
    c.read_header-header.ensures.words _ (sym c.state_of.ensures) c.in_default.not-Found) in
    omega (arith, none)
