-- One log more adds the length of its whole entries, and a merge has the sum of all. For
-- `merged_len`.
use Rattle.std.proofs.Common.{◌≡◌, ◌+◌, ◌^◌, ◌<◌, ◌≤◌, ℕ, List, Option, length, take, arith, ap, sym, ◌∙◌}
use Rattle.std.specs.Prelude.{option_to_list, sum_by}
use Rattle.std.specs.Option.{option_copied}
use Rattle.std.specs.Borrow.{Bor}
use Rattle.std.proofs.lemmas.List.{take_all}
use Rattle.std.proofs.lemmas.List.Sums.{sum_by-append}
use Rattle.zone_spec.specs.declared.Kind.TheVariants.{Ftrace}
use Rattle.zone_spec.specs.Records.{Saved, logs_of}
use Rattle.prz_read.specs.Saving.{saved}
use Rattle.pstore_records.proofs.Additive.{logs_of-append}
use Rattle.pstore_records.proofs.Merges.{whole, merged-length}
use Rattle.pstore_records.proofs.Steps.{joined-more}
use Rattle.pstore_records.proofs.merging.merged_len.Goals as goal
use Rattle.pstore_records.proofs.merging.merged_len.Goals.{in-Some, in_default}

abbrev listed : Option (Bor (List ℕ)) → List (List ℕ)
listed log = option_to_list (option_copied log)

pub loop-i-preserved : goal.loop-i-preserved
loop-i-preserved c =
    let within : c.loop-i.i < length (saved c.args.logs.now) =
    omega (arith, c.len-i-end.ensures.saved, c.loop-i-test.true) in
    let more = joined-more (logs_of Ftrace) (logs_of-append Ftrace) (saved c.args.logs.now) c.loop-i.i
    (listed c.log_at.result) within c.log_at.ensures in
    let sums = ap (sum_by whole) more ∙ sum_by-append whole (logs_of Ftrace (take c.loop-i.i (saved c.args.logs.now)))
    (listed c.log_at.result) in
    let now : (c.match-log_at.len ≡ c.loop-i.len + sum_by whole (listed c.log_at.result))
    × (c.match-log_at.len ≤ c.loop-i.len + 2 ^ 64) = elim c.match-log_at.branch [
      | in-Some w ↦
          let one : sum_by whole (listed c.log_at.result) ≡ 0 + whole w.in-Some.log.now =
          ap (λ log. sum_by whole (listed log)) w.in-Some.is in
          (omega (arith, w.len-is, one, w.entries_len.ensures), omega (arith, w.len-is, w.entries_len.type_inv))
      | in_default w ↦
          let none : sum_by whole (listed c.log_at.result) ≡ 0 =
          ap (λ log. sum_by whole (listed log)) w.in_default.is in
          (omega (arith, w.len-is, none), omega (arith, w.len-is))
    ] in
    record {
      sum = omega (arith, sums, now.0, c.loop-i.invariant.sum);
      few = omega (arith, now.1, c.loop-i.invariant.few);
    }

pub returns-clause-len : goal.returns-clause-len
returns-clause-len c =
    let all : take c.loop-i.i (saved c.args.logs.now) ≡ saved c.args.logs.now =
    take_all c.loop-i.i (saved c.args.logs.now) (omega (arith, c.len-i-end.ensures.saved, c.loop-i-test.false)) in
    c.loop-i.invariant.sum ∙ ap (λ (zones : List Saved). sum_by whole (logs_of Ftrace zones)) all
    ∙ sym (merged-length (logs_of Ftrace (saved c.args.logs.now)))
