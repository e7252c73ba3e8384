-- The stores of an append's stages sum to the number, which is below 2^28. For `append_stores`.
use Rattle.std.proofs.Common.{arith, ◌≡◌, ◌+◌, ◌-◌, ◌*◌, sym, ap, ◌∙◌, length, take, drop, length-take, length-drop}
use Rattle.std.proofs.Common.{if◌then◌else◌, ◌==◌}
use Rattle.store_steps.proofs.PhaseStores.{block_some}
use Rattle.store_steps.proofs.Totals.{met, append_count, parity_most}
use Rattle.store_steps.proofs.counts.append_stores.Goals as goal

pub returns-clause-value : goal.returns-clause-value
returns-clause-value c = λ bytes len.
    let z = c.args.zone.now in
    let e1 : length (take (z.cap - c.args.start) bytes) ≡ c.min-first.result =
    omega (arith, length-take (z.cap - c.args.start) bytes, c.min-first.ensures, len) in
    let e2 : length (drop (z.cap - c.args.start) bytes) ≡ c.args.len - c.min-first.result =
    omega (arith, length-drop (z.cap - c.args.start) bytes, c.min-first.ensures, len) in
    let m1 : met z c.args.start (length (take (z.cap - c.args.start) bytes)) ≡ c.blocks_met.result =
    ap (met z c.args.start) e1 ∙ sym c.blocks_met.ensures.value in
    let m2 : met z 0 (length (drop (z.cap - c.args.start) bytes)) ≡ c.blocks_met-2.result =
    ap (met z 0) e2 ∙ sym c.blocks_met-2.ensures.value in
    append_count z c.args.start c.args.size bytes (block_some z.block c.requires.valid.block).0 (omega (arith, len))
    c.requires.below
    ∙ ap (λ n. (if c.args.size == z.cap then 1 else 2) + length bytes
    + (n + met z 0 (length (drop (z.cap - c.args.start) bytes)) + 1) * z.parity) m1
    ∙ ap (λ n. (if c.args.size == z.cap then 1 else 2) + length bytes + (c.blocks_met.result + n + 1) * z.parity) m2
    ∙ ap (λ n. (if c.args.size == z.cap then 1 else 2) + n + (c.blocks_met.result + c.blocks_met-2.result + 1)
    * z.parity) len
    ∙ ap (λ n. n + c.args.len + (c.blocks_met.result + c.blocks_met-2.result + 1) * z.parity)
    (sym c.word_stores.ensures.value)

pub returns-clause-small : goal.returns-clause-small
returns-clause-small c =
    let z = c.args.zone.now in
    omega (
      arith,
      parity_most z c.blocks_met.result c.blocks_met-2.result c.requires.valid c.blocks_met.ensures.most
          c.blocks_met-2.ensures.most,
      c.requires.fits,
      c.requires.valid.cap,
      c.requires.valid.at_most,
      c.word_stores.ensures.most,
    )
