-- The bytes from `from` to `i` all differ, so each is a store. For the loop of `first_agreement`.
use Rattle.std.proofs.Common.{◌≡◌, ◌+◌, ◌++◌, ℕ, drop, slice_range}
use Rattle.zone_spec.specs.Stores.{byte_stores}
use Rattle.zone_spec.specs.Boot.{fix_stores}
use Rattle.zone_boot.proofs.handing.first_agreement.Given as goal

abbrev pub invariant-loop-i : goal.invariant-loop-i
invariant-loop-i l = (at : ℕ) → fix_stores (at + l.from) (drop l.from l.stands) (drop l.from l.reads)
    ≡ byte_stores (at + l.from) (slice_range l.reads l.from l.i)
    ++ fix_stores (at + l.i) (drop l.i l.stands) (drop l.i l.reads)
