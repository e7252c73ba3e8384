-- The sizes are of the bytes at the front, and the machine is theirs. For `divided_storage`.
use Rattle.std.proofs.Common.{◌≡◌, ◌∙◌, ℕ, List, take, sym, subst, false}
use Rattle.std.specs.Prelude.{Option, IfSome}
use Rattle.storage_spec.specs.Found.{machine_of}
use Rattle.storage_report.specs.Held.{ShowsTheSame}
use Rattle.storage_report.proofs.Holding.{undivided_at, divided_at}
use Rattle.storage_report.proofs.loading.divided_storage.Goals as goal

pub returns-in-Some-clause-divided : goal.returns-in-Some-clause-divided
returns-in-Some-clause-divided g c = (
  c.in_ok-total.ensures.done,
  undivided_at (g.M.Load.holds c.args.image.now) c.args.sizes.now c.in_ok-total.total c.sized-sizes.result
      c.in-Some.fault c.sized-sizes.ensures c.in_ok-total.ensures.inside c.in_ok-total.ensures.front
      (sym c.size_fault.ensures ∙ c.in-Some.is),
)

pub returns-clause-divided : goal.returns-clause-divided
returns-clause-divided g c =
    let total = c.in_ok-total.total in
    let one : g.M.Load.holds c.front_len.new.image ≡ g.M.Load.holds c.args.image.now = c.in_ok-total.ensures.same in
    let two : g.M.Load.holds c.scan.new.image ≡ g.M.Load.holds c.args.image.now = c.in_ok-seen.ensures.same ∙ one in
    divided_at (g.M.Load.holds c.args.image.now) c.args.sizes.now total c.sized-sizes.result c.machine.result
    c.in_ok-held.held c.sized-sizes.ensures c.in_ok-total.ensures.inside c.in_ok-total.ensures.front
    (sym c.size_fault.ensures ∙ c.in_default.is)
    (subst (λ (o : Option (List ℕ)). IfSome o (λ bs. c.machine.result ≡ machine_of (take total bs))) one
    (subst (λ m. IfSome (g.M.Load.holds c.front_len.new.image) (λ bs. m ≡ machine_of (take total bs)))
    (sym c.machine.ensures) c.in_ok-seen.ensures.machine))
    c.in_ok-held.ensures.storage
    (subst (λ (o : Option (List ℕ)). IfSome o (λ bs. ShowsTheSame (record {
      sizes = c.sized-sizes.result;
      machine = c.machine.result;
      tied = false;
    }) (take total bs) c.in_ok-held.held.bytes.items)) two c.in_ok-held.ensures.shows)
