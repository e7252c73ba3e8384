-- In the end the entries of all logs are merged. For `trace_by`.
use Rattle.std.proofs.Common.{◌≡◌, ℕ, List, [], length, take, map, sym, ap, arith, ◌∙◌}
use Rattle.std.specs.Prelude.{fold, flat_map, IfOk}
use Rattle.std.specs.Borrow.{Bor}
use Rattle.std.proofs.lemmas.List.{take_all}
use Rattle.std.proofs.lemmas.List.Folds.{flat_map-map}
use Rattle.std.proofs.lemmas.Result.{IfOk-weaker}
use Rattle.zone_spec.specs.Ftrace.{merge}
use Rattle.ftrace_zone.specs.EntryBytes.{entry_bytes}
use Rattle.ftrace_spec.specs.Forms.{long_entries, trace_by}
use Rattle.ftrace_text.proofs.forms.trace_by.Goals as goal

pub returns : goal.returns
unfolding trace_by
returns c =
    let logs = c.args.logs.now in
    let all : take c.loop-log.log-index logs ≡ logs =
    take_all c.loop-log.log-index logs (omega (arith, c.loop-log-test.false)) in
    let whole : flat_map entry_bytes c.loop-log.all
    ≡ trace_by c.args.order c.args.form (map (λ (log : Bor (List ℕ)). log.now) logs) =
    sym (flat_map-map (λ (e : List ℕ). e) entry_bytes c.loop-log.all)
    ∙ ap (flat_map (λ (e : List ℕ). e)) (c.loop-log.invariant
    ∙ ap (λ (ls : List (Bor (List ℕ))). fold (λ all log. merge all (long_entries c.args.order c.args.form log)) []
    (map (λ (log : Bor (List ℕ)). log.now) ls)) all) in
    IfOk-weaker c.to_bytes.result (λ bytes. bytes ≡ flat_map entry_bytes c.loop-log.all)
    (λ bytes. bytes ≡ trace_by c.args.order c.args.form (map (λ (log : Bor (List ℕ)). log.now) logs))
    (λ bytes e. e ∙ whole) c.to_bytes.ensures
