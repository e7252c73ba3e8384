-- A told list that is the log is as told; else the verdict has both lengths and the first place
-- that differs. For `verdict_on`.
use Rattle.std.proofs.Common.{◌≡◌, ℕ, List, length, nat_eq, sym, ap, ◌∙◌, arith, Some}
use Rattle.std.proofs.lemmas.List.Sums.{common_prefix_len-le}
use Rattle.zone_spec.specs.declared.Verdict.TheVariants.{Differs}
use Rattle.zone_spec.specs.Verdicts.{verdict_of}
use Rattle.std.specs.List.{common_prefix_len}
use Rattle.machine_laws.proofs.Boots.{verdict_is_exact, verdict_differs}
use Rattle.ramoops.proofs.Prefixes.{common_whole, common_same}
use Rattle.ramoops.proofs.report.verdict_on.Goals.{else-first-told_len-via-then-first-told_len+else-first-seen}
use Rattle.ramoops.proofs.report.verdict_on.Goals.{else-first-told_len-via-else-first-told_len}
use Rattle.ramoops.proofs.report.verdict_on.Goals as goal

pub returns-then-first-seen : goal.returns-then-first-seen
returns-then-first-seen c =
    let same : c.args.told.now.items ≡ c.args.log.now =
    common_whole c.args.told.now.items c.args.log.now (sym c.common_with-first.ensures ∙ c.if-first-told_len.true
    ∙ c.len-told_len.ensures) (sym c.common_with-first.ensures ∙ c.if-first-seen.true) in
    sym ((verdict_is_exact (Some c.args.told.now.items) c.args.log.now).as_told.1 (ap Some same))

-- lists with a difference, or of other lengths
differ : (told log : List ℕ) (n first : ℕ) → first ≡ common_prefix_len nat_eq told log → n ≡ length told
    → (told ≡ log → ⊥) → Differs n (length log) first ≡ verdict_of (Some told) log
differ told log n first ef en other =
    ap (λ (k : ℕ). Differs k (length log) first) en ∙ ap (λ (k : ℕ). Differs (length told) (length log) k) ef
    ∙ sym (verdict_differs told log other)

pub returns-else-first-told_len : goal.returns-else-first-told_len
returns-else-first-told_len c =
    differ c.args.told.now.items c.args.log.now c.len-told_len.result c.common_with-first.result
    c.common_with-first.ensures c.len-told_len.ensures (λ same.
    let whole : c.common_with-first.result ≡ length c.args.told.now.items =
    c.common_with-first.ensures ∙ ap (λ (l : List ℕ). common_prefix_len nat_eq c.args.told.now.items l) (sym same)
    ∙ common_same c.args.told.now.items in
    elim c.else-first-told_len.branch [
      | else-first-told_len-via-then-first-told_len+else-first-seen w ↦ w.if-first-seen.false (whole ∙ ap length same)
      | else-first-told_len-via-else-first-told_len w ↦ w.if-first-told_len.false (whole ∙ sym c.len-told_len.ensures)
    ])

pub overflow_cast-first : goal.overflow_cast-first
overflow_cast-first c =
    let most = (common_prefix_len-le nat_eq c.args.told.now.items c.args.log.now).1 in let e =
    c.common_with-first.ensures in let small = c.requires in omega (arith, most, e, small)
