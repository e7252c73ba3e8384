-- The stages of an append and of a dump count as the call does. For `call_total`.
use Rattle.std.proofs.Common.{arith, ◌≡◌, ◌+◌, ◌++◌, sym, ap, ◌∙◌, length}
use Rattle.std.proofs.lemmas.List.Sums.{sum_by-append}
use Rattle.std.specs.List.{sum_by}
use Rattle.zone_spec.specs.Told.{Call, Append, Dump}
use Rattle.zone_spec.specs.Stages.{stage_count}
use Rattle.zone_spec.specs.Calls.{append_stages, call_stages, erase_stages}
use Rattle.store_steps.specs.Calls.{call_of, last_of, line_of, front_of, body_stages}
use Rattle.store_steps.proofs.Totals.{stages_append, stages_dump, erase_count}
use Rattle.store_steps.proofs.counts.call_total.Goals as goal

pub returns-in-Append-clause-value : goal.returns-in-Append-clause-value
returns-in-Append-clause-value c =
    let z = c.args.zone.now in
    let w = c.args.words.now in
    let call : Call = Append c.args.payload.now in
    let is : call_of c.args.kind c.args.line.now c.args.payload.now ≡ call =
    ap (λ k. call_of k c.args.line.now c.args.payload.now) c.in-Append.is in
    sym (ap (λ k. sum_by (stage_count z) (call_stages z w k)) is
    ∙ ap (sum_by (stage_count z)) (stages_append z w c.args.payload.now)
    ∙ c.append_stores.ensures.value (last_of z.cap call)
    (ap (λ k. length (last_of z.cap k)) (sym is) ∙ sym c.last_len.ensures.value))

pub returns-in-Dump-clause-value : goal.returns-in-Dump-clause-value
returns-in-Dump-clause-value c =
    let z = c.args.zone.now in
    let w = c.args.words.now in
    let call : Call = Dump c.args.line.now c.args.payload.now in
    let is : call_of c.args.kind c.args.line.now c.args.payload.now ≡ call =
    ap (λ k. call_of k c.args.line.now c.args.payload.now) c.in-Dump.is in
    let h : c.line_len-head.result ≡ length (line_of call) =
    c.line_len-head.ensures.value ∙ ap (λ k. length (line_of k)) is in
    let n : c.front_len-front.result ≡ length (front_of z.cap call) =
    c.front_len-front.ensures.value ∙ ap (λ k. length (front_of z.cap k)) is in
    let a = c.append_stores-in-Dump.ensures.value (line_of call) (sym h) in
    let b : sum_by (stage_count z) (body_stages z call) ≡ c.append_stores-in-Dump-2.result =
    ap (λ at. sum_by (stage_count z) (append_stages z at at (front_of z.cap call))) (sym h)
    ∙ c.append_stores-in-Dump-2.ensures.value (front_of z.cap call) (sym n) in
    let s : sum_by (stage_count z) (call_stages z w call)
    ≡ sum_by (stage_count z) erase_stages + (sum_by (stage_count z) (append_stages z 0 0 (line_of call)) + sum_by
    (stage_count z) (body_stages z call)) =
    ap (sum_by (stage_count z)) (stages_dump z w c.args.line.now c.args.payload.now)
    ∙ sum_by-append (stage_count z) erase_stages (append_stages z 0 0 (line_of call) ++ body_stages z call)
    ∙ ap (λ m. sum_by (stage_count z) erase_stages + m) (sum_by-append (stage_count z)
    (append_stages z 0 0 (line_of call)) (body_stages z call)) in
    let t : sum_by (stage_count z) (call_stages z w (call_of c.args.kind c.args.line.now c.args.payload.now))
    ≡ sum_by (stage_count z) (call_stages z w call) = ap (λ k. sum_by (stage_count z) (call_stages z w k)) is in
    omega (arith, t, s, a, b, erase_count z)
