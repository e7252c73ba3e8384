-- All zones are in the copy. For `copy_of`.
use Rattle.std.proofs.Common.{◌≡◌, ◌∙◌, ℕ, List, length, take, sym, ap, subst, arith}
use Rattle.std.specs.Prelude.{IfSome}
use Rattle.std.proofs.lemmas.List.{with_items_is}
use Rattle.std.specs.Vec.{with_items}
use Rattle.storage_zones.specs.Laws.{ReadTheSame}
use Rattle.storage_report.specs.Copies.{HasZones}
use Rattle.storage_report.proofs.Copies.{copy_reads}
use Rattle.storage_report.proofs.filling.copy_of.Goals as goal

pub returns-clause-reads : goal.returns-clause-reads
returns-clause-reads g c =
    let held = g.M.Load.holds c.args.image.now in
    let s = c.args.storage.now in
    let new : List ℕ = c.fill_zones.new.copy in
    let value : length c.deref_mut.result.now ≡ length c.in_ok-copy.copy.items = ap length c.deref_mut.ensures.value in
    let written : (with_items c.in_ok-copy.copy new).items ≡ new =
    with_items_is c.in_ok-copy.copy new (c.fill_zones.auto.copy ∙ value ∙ sym c.in_ok-copy.copy.ok.0) in
    let long : length c.deref_mut.result.now ≡ c.args.total =
    omega (arith, value, c.in_ok-copy.copy.ok.0, c.in_ok-copy.ensures.len) in
    let has : IfSome held (λ bs. HasZones s.machine c.deref.result.now (take c.args.total bs) new) =
    subst (λ (n : ℕ). IfSome held (λ bs. HasZones s.machine c.deref.result.now (take n bs) new)) long
    c.in_ok-fill_zones.ensures.has in
    subst (λ (xs : List ℕ). IfSome held (λ bs. ReadTheSame s (take c.args.total bs) xs)) (sym written)
    (copy_reads held s c.args.total c.deref.result.now new (c.deref.ensures.value ∙ c.in_ok-zones.ensures)
    (c.fill_zones.auto.copy ∙ long) c.requires.inside has)
