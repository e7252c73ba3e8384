-- No bytes are no store; some are a run that says what it hands out. For `set_bytes`.
use Rattle.std.proofs.Common.{◌≡◌, ℕ, refl, sym, ◌∙◌, arith}
use Rattle.zone_boot.proofs.PartFixes.{byte-none, byte-some, empty-is, full-is}
use Rattle.zone_boot.proofs.handing.BootStore.set_bytes.Goals as goal

pub returns-then-is_empty-clause-handed : goal.returns-then-is_empty-clause-handed
returns-then-is_empty-clause-handed c = sym (byte-none c.args.place c.args.bytes.now
    (empty-is c.args.bytes.now _ c.if-is_empty.ensures refl))

pub returns-clause-plain : goal.returns-clause-plain
returns-clause-plain c = (
  (λ h. absurd (let n : ◌≡◌ {A = ℕ} 0 1 = cc in omega (arith, n))),
  (λ h. absurd (full-is c.args.bytes.now c.if-is_empty.ensures (sym c.copy.ensures ∙ byte-some c.args.place _ h))),
)
