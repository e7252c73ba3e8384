-- The bytes from `from` to `i` agree and need no store. For the loop of `first_difference`.
use Rattle.std.proofs.Common.{◌≡◌, ◌+◌, ℕ, drop}
use Rattle.zone_spec.specs.Boot.{fix_stores}
use Rattle.zone_boot.proofs.handing.first_difference.Given as goal

abbrev pub invariant-loop-i : goal.invariant-loop-i
invariant-loop-i l = (at : ℕ) → fix_stores (at + l.from) (drop l.from l.stands) (drop l.from l.reads)
    ≡ fix_stores (at + l.i) (drop l.i l.stands) (drop l.i l.reads)
