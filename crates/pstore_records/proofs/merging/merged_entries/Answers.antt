-- The entries of one log more are merged; in the end those of all are. For `merged_entries`.
use Rattle.std.proofs.Common.{◌≡◌, ◌++◌, ◌∷◌, [], ◌+◌, ◌<◌, ℕ, List, Option, length, take, map, arith, ap, sym, ◌∙◌}
use Rattle.std.specs.Prelude.{option_to_list, fold, flat_map}
use Rattle.std.specs.Option.{option_copied}
use Rattle.std.specs.Borrow.{Bor}
use Rattle.std.proofs.lemmas.List.{take_all}
use Rattle.std.proofs.lemmas.List.Sums.{fold-append}
use Rattle.std.proofs.lemmas.List.Folds.{flat_map-map}
use Rattle.std.proofs.lemmas.Result.{IfOk-weaker}
use Rattle.zone_spec.specs.declared.Kind.TheVariants.{Ftrace}
use Rattle.zone_spec.specs.Ftrace.{entries, merge, merged}
use Rattle.zone_spec.specs.Records.{logs_of}
use Rattle.ftrace_zone.specs.EntryBytes.{entry_bytes}
use Rattle.prz_read.specs.Saving.{saved}
use Rattle.pstore_records.proofs.Additive.{logs_of-append}
use Rattle.pstore_records.proofs.Steps.{joined-more}
use Rattle.pstore_records.proofs.merging.merged_entries.Goals as goal
use Rattle.pstore_records.proofs.merging.merged_entries.Goals.{in-Some+in_ok-all, in_default}

abbrev listed : Option (Bor (List ℕ)) → List (List ℕ)
listed log = option_to_list (option_copied log)

abbrev merge_more : List (List ℕ) → List ℕ → List (List ℕ)
merge_more all log = merge all (entries log)

-- a log more, or none
more-logs : (old new : List (List ℕ)) (before after own : List (List ℕ)) → after ≡ before ++ own
    → old ≡ fold merge_more [] before → new ≡ fold merge_more old own → new ≡ fold merge_more [] after
more-logs old new before after own e was now =
    now ∙ ap (λ (all : List (List ℕ)). fold merge_more all own) was ∙ sym (fold-append merge_more [] before own)
    ∙ ap (fold merge_more []) (sym e)

pub loop-i-preserved : goal.loop-i-preserved
loop-i-preserved c =
    let within : c.loop-i.i < length (saved c.args.logs.now) =
    omega (arith, c.len-i-end.ensures.saved, c.loop-i-test.true) in
    let more = joined-more (logs_of Ftrace) (logs_of-append Ftrace) (saved c.args.logs.now) c.loop-i.i
    (listed c.log_at.result) within c.log_at.ensures in
    let now : map entry_bytes c.match-log_at.all ≡ fold merge_more (map entry_bytes c.loop-i.all)
    (listed c.log_at.result) = elim c.match-log_at.branch [
      | in-Some+in_ok-all w ↦
          let one : listed c.log_at.result ≡ w.in-Some.log.now ∷ [] = ap listed w.in-Some.is in
          ap (map entry_bytes) w.all-is ∙ w.in_ok-all.ensures
          ∙ ap (fold merge_more (map entry_bytes c.loop-i.all)) (sym one)
      | in_default w ↦
          let none : listed c.log_at.result ≡ [] = ap listed w.in_default.is in
          ap (map entry_bytes) w.all-is ∙ ap (fold merge_more (map entry_bytes c.loop-i.all)) (sym none)
    ] in
    more-logs (map entry_bytes c.loop-i.all) (map entry_bytes c.match-log_at.all)
    (logs_of Ftrace (take c.loop-i.i (saved c.args.logs.now)))
    (logs_of Ftrace (take (c.loop-i.i + 1) (saved c.args.logs.now))) (listed c.log_at.result)
    more c.loop-i.invariant now

pub returns : goal.returns
returns c =
    let all : take c.loop-i.i (saved c.args.logs.now) ≡ saved c.args.logs.now =
    take_all c.loop-i.i (saved c.args.logs.now) (omega (arith, c.len-i-end.ensures.saved, c.loop-i-test.false)) in
    let whole : flat_map entry_bytes c.loop-i.all ≡ merged (logs_of Ftrace (saved c.args.logs.now)) =
    sym (flat_map-map (λ (e : List ℕ). e) entry_bytes c.loop-i.all)
    ∙ ap (flat_map (λ (e : List ℕ). e)) (c.loop-i.invariant
    ∙ ap (λ zones. fold merge_more [] (logs_of Ftrace zones)) all) in
    IfOk-weaker c.to_bytes.result (λ bytes. bytes ≡ flat_map entry_bytes c.loop-i.all)
    (λ bytes. bytes ≡ merged (logs_of Ftrace (saved c.args.logs.now))) (λ bytes e. e ∙ whole) c.to_bytes.ensures
