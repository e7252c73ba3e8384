-- A word, a run or nothing, as far as the limit lets. For `make`.
use Rattle.std.proofs.Common.{◌≡◌, List, ℕ, [], length, min, take, sym, ap, ◌∙◌, arith, take_all}
use Rattle.zone_spec.specs.Stores.{Store}
use Rattle.prz_region.specs.CutRegion.{stored}
use Rattle.prz_region.proofs.Cuts.{stored-none}
use Rattle.zone_boot.specs.declared.handing.Given.{Given}
use Rattle.zone_boot.specs.Handed.{handed, handed_by}
use Rattle.prz_read.proofs.LogSources.{run-taken}
use Rattle.prz_read.proofs.settling.make.Goals as goal

pub returns-else-left-gt0 : goal.returns-else-left-gt0
returns-else-left-gt0 c =
    let h = c.if-left-gt0.false in
    sym (stored-none c.args.spans.now c.args.i)
    ∙ ap (λ (n : ℕ). stored c.args.spans.now c.args.i (take n (handed c.args.out.now)))
    (let e : 0 ≡ c.args.left = omega (arith, h) in e)

pub returns-in-Nothing : goal.returns-in-Nothing
returns-in-Nothing c =
    let o = c.args.out.now in
    sym (stored-none c.args.spans.now c.args.i)
    ∙ ap (λ (ss : List Store). stored c.args.spans.now c.args.i ss) (sym (take_all c.args.left [] (omega arith))
    ∙ ap (λ (g : Given). take c.args.left (handed_by g o.byte_order o.place o.word o.bytes.items)) (sym c.in-Nothing.is))

pub returns-in-Bytes : goal.returns-in-Bytes
returns-in-Bytes c =
    let o = c.args.out.now in
    c.store_bytes.ensures
    ∙ ap (λ (ss : List Store). stored c.args.spans.now c.args.i ss)
    (run-taken o.place o.bytes.items c.as_slice-bytes.result.now c.args.left _ c.as_slice-bytes.ensures.value
    (c.min-count.ensures ∙ ap (λ (l : List ℕ). min c.args.left (length l)) c.as_slice-bytes.ensures.value)
    ∙ ap (λ (g : Given). take c.args.left (handed_by g o.byte_order o.place o.word o.bytes.items)) (sym c.in-Bytes.is))
