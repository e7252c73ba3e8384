-- The two runs of a ring, from its start and from place 0, are the log's bytes from `from` on. For
-- `copy_ring`.
use Rattle.std.proofs.Common.{◌≡◌, ℕ, List, ◌+◌, ◌-◌, ◌++◌, drop, ap₂, ◌∙◌, arith}
use Rattle.zone_boot.specs.Reads.{bytes_at}
use Rattle.zone_boot.proofs.Rows.{put-then}
use Rattle.zone_boot.proofs.Blocks.{bytes_at-length}
use Rattle.zone_boot.proofs.Logs.{log-length, log-piece}
use Rattle.zone_boot.proofs.copying.copy_ring.Goals as goal

pub returns-then-from-clause-len : goal.returns-then-from-clause-len
returns-then-from-clause-len c =
    let long = log-length c.args.zone.now c.args.image.now c.args.words c.requires.ring in
    let past = c.if-from.true in
    let is = c.from.ensures in
    omega (arith, long, past, is)

pub returns-clause-len : goal.returns-clause-len
returns-clause-len c =
    let long = log-length c.args.zone.now c.args.image.now c.args.words c.requires.ring in
    let n = c.min-n.ensures in
    omega (arith, long, n)

pub returns-clause-copied : goal.returns-clause-copied
returns-clause-copied c =
    let z = c.args.zone.now in
    let x = c.args.image.now in
    let w = c.args.words in
    let from : ℕ = c.args.from in
    let n : ℕ = c.min-n.result in
    let place : ℕ = c.min-place.result in
    let first : ℕ = c.min-first.result in
    let turned : ℕ = c.saturating_sub-turned.result in
    let xs : List ℕ = c.args.out.now in
    let en = c.min-n.ensures in
    let ef = c.min-first.ensures in
    let below = c.if-from.false in
    let is = c.from.ensures in
    let le : first + (n - first) ≡ n = omega (arith, ef) in
    c.copy_run-2.ensures
    ∙ put-then 0 first (n - first) first (first + (n - first)) xs c.copy_run.new.out (bytes_at z x place first)
    (bytes_at z x turned (n - first)) (omega arith) (omega arith)
    (omega (arith, en, le)) (bytes_at-length z x place first) c.copy_run.ensures
    ∙ ap₂ (λ (l : List ℕ) (k : ℕ). l ++ drop k xs)
    (log-piece z x w from n place first turned c.requires.ring (omega (arith, below, is)) (omega (arith, en))
    c.min-place.ensures ef c.saturating_sub-turned.ensures)
    (let e : 0 + (first + (n - first)) ≡ n = omega (arith, le) in e)
