-- The bytes between the first difference and the next agreement are the run, and are some if any
-- differ. For `set_run`.
use Rattle.std.proofs.Common.{◌≡◌, ◌≤◌, ℕ, ◌+◌, ◌-◌, length, drop, slice_range, inl, inr, sym, ap, ◌∙◌, arith}
use Rattle.std.proofs.Common.{length-take, length-drop}
use Rattle.std.proofs.lemmas.Bool.{cases_lt}
use Rattle.ring_laws.proofs.StoreCounts.{length-byte_stores}
use Rattle.zone_boot.proofs.PartFixes.{byte-some}
use Rattle.zone_boot.proofs.handing.BootStore.set_run.Goals as goal

long : (c : goal.After-set_bytes) → length (slice_range c.args.reads.now c.first_difference-first.result
    c.first_agreement-end.result) ≡ c.first_agreement-end.result - c.first_difference-first.result
long c =
    let i : ℕ = c.first_difference-first.result in
    let j : ℕ = c.first_agreement-end.result in
    let high = c.first_agreement-end.ensures.high in
    let same = c.requires.same in
    omega (arith, length-take (j - i) (drop i c.args.reads.now), length-drop i c.args.reads.now, high, same)

pub returns-clause-few : goal.returns-clause-few
returns-clause-few c =
    let i : ℕ = c.first_difference-first.result in
    let j : ℕ = c.first_agreement-end.result in
    let low = c.first_difference-first.ensures.low in
    let high = c.first_agreement-end.ensures.low in
    omega (
      arith,
      ap length c.set_bytes.ensures.handed,
      length-byte_stores (c.args.at + i) (slice_range c.args.reads.now i j),
      long c,
      low,
      high,
    )

pub returns-clause-some : goal.returns-clause-some
returns-clause-some c = λ none.
    let i : ℕ = c.first_difference-first.result in
    let j : ℕ = c.first_agreement-end.result in
    let low = c.first_agreement-end.ensures.low in
    let high = c.first_difference-first.ensures.high in
    let top = c.first_agreement-end.ensures.high in
    let empty = ap length (byte-some (c.args.at + i) (slice_range c.args.reads.now i j)
    (sym c.set_bytes.ensures.handed ∙ none)) in
    let all = long c in
    let same : j ≤ i = omega (arith, empty, all) in
    elim (cases_lt i (length c.args.stands.now)) [
      | inl less ↦ (let more = c.first_agreement-end.ensures.some less
          (c.first_difference-first.ensures.differs less) in absurd (omega (arith, more, same)))
      | inr end ↦ omega (arith, end, low, high, top)
    ]
