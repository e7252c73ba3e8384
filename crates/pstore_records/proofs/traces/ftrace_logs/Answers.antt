-- A zone's log, if it has one, is the next. For `ftrace_logs`.
use Rattle.std.proofs.Common.{◌≡◌, ◌++◌, ◌∷◌, [], ◌+◌, ◌<◌, ℕ, List, Option, length, take, map, arith, ap, ap₂, sym, ◌∙◌}
use Rattle.std.proofs.Common.{append-nil}
use Rattle.std.specs.Prelude.{option_to_list}
use Rattle.std.specs.Option.{option_copied}
use Rattle.std.specs.Borrow.{Bor}
use Rattle.std.proofs.lemmas.List.{map-append}
use Rattle.zone_spec.specs.declared.Kind.TheVariants.{Ftrace}
use Rattle.zone_spec.specs.Records.{logs_of}
use Rattle.prz_read.specs.Saving.{saved}
use Rattle.pstore_records.proofs.Additive.{logs_of-append}
use Rattle.pstore_records.proofs.Steps.{joined-more}
use Rattle.pstore_records.proofs.traces.ftrace_logs.Goals as goal
use Rattle.pstore_records.proofs.traces.ftrace_logs.Goals.{in-Some+in_ok-push, in_default}

abbrev listed : Option (Bor (List ℕ)) → List (List ℕ)
listed log = option_to_list (option_copied log)

abbrev bytes_of : List (Bor (List ℕ)) → List (List ℕ)
bytes_of logs = map (λ (log : Bor (List ℕ)). log.now) logs

pub loop-i-preserved : goal.loop-i-preserved
loop-i-preserved c =
    let within : c.loop-i.i < length (saved c.args.logs.now) =
    omega (arith, c.len-i-end.ensures.saved, c.loop-i-test.true) in
    let more = joined-more (logs_of Ftrace) (logs_of-append Ftrace) (saved c.args.logs.now) c.loop-i.i
    (listed c.log_at.result) within c.log_at.ensures in
    let now : bytes_of c.match-log_at.all.items ≡ bytes_of c.loop-i.all.items ++ listed c.log_at.result =
    elim c.match-log_at.branch [
      | in-Some+in_ok-push w ↦
          let one : listed c.log_at.result ≡ w.in-Some.log.now ∷ [] = ap listed w.in-Some.is in
          ap (λ all. bytes_of all.items) w.all-is ∙ ap bytes_of w.in_ok-push.ensures.items
          ∙ map-append (λ (log : Bor (List ℕ)). log.now) c.loop-i.all.items (w.in-Some.log ∷ [])
          ∙ ap (λ (own : List (List ℕ)). bytes_of c.loop-i.all.items ++ own) (sym one)
      | in_default w ↦
          let none : listed c.log_at.result ≡ [] = ap listed w.in_default.is in
          ap (λ all. bytes_of all.items) w.all-is ∙ sym (append-nil (bytes_of c.loop-i.all.items))
          ∙ ap (λ (own : List (List ℕ)). bytes_of c.loop-i.all.items ++ own) (sym none)
    ] in
    now ∙ ap (λ (was : List (List ℕ)). was ++ listed c.log_at.result) c.loop-i.invariant ∙ sym more
