-- No bytes touch no block; an append's two runs, a dump's one and an erasure's none are the
-- touched blocks. For `call_runs`.
use Rattle.std.proofs.Common.{arith, ℕ, ◌≡◌, ◌+◌, ◌-◌, ◌/◌, ◌<◌, List, sym, ap, ◌∙◌, length, filter, subst}
use Rattle.std.proofs.lemmas.Grind.{common_steps}
use Rattle.std.specs.List.{range_with_len}
use Rattle.zone_spec.specs.Told.{Append, Erase, Dump}
use Rattle.zone_spec.specs.Calls.{call_stages}
use Rattle.zone_spec.specs.Touched.{touched_by, runs_of}
use Rattle.store_steps.specs.Calls.{call_of, last_of, line_of, front_of, IsOpenFor}
use Rattle.store_steps.specs.Counts.{runs_between}
use Rattle.store_steps.proofs.Runs.{has}
use Rattle.store_steps.proofs.TouchedBlocks.{runs_append, runs_dump, runs_none, runs_erase, dump_fits, behind_run}
use Rattle.store_steps.proofs.counts.call_runs.Goals as goal

pub returns-then-len-eq0 : goal.returns-then-len-eq0
returns-then-len-eq0 c =
    let z = c.args.zone.now in
    let w = c.args.words.now in
    let is : call_of c.args.kind c.args.line.now c.args.payload.now ≡ Append c.args.payload.now =
    ap (λ k. call_of k c.args.line.now c.args.payload.now) c.in-Append.is in
    let none : length (last_of z.cap (Append c.args.payload.now)) ≡ 0 = ap (λ k. length (last_of z.cap k)) (sym is)
    ∙ sym c.last_len-len.ensures.value ∙ (let e : c.last_len-len.result ≡ 0 = grind (arith, common_steps) in e) in
    c.new.ensures ∙ sym (ap (λ k. runs_of (filter (has (touched_by z (call_stages z w k)))
    (range_with_len 0 z.blocks))) is ∙ runs_none z w c.args.payload.now none)

pub block_behind-requires-in-Dump-clause-fits : goal.block_behind-requires-in-Dump-clause-fits
unfolding line_of
block_behind-requires-in-Dump-clause-fits c =
    let z = c.args.zone.now in
    let is : call_of c.args.kind c.args.line.now c.args.payload.now ≡ Dump c.args.line.now c.args.payload.now =
    ap (λ k. call_of k c.args.line.now c.args.payload.now) c.in-Dump.is in
    let h : c.line_len.result ≡ length c.args.line.now = c.line_len.ensures.value ∙ ap (λ k. length (line_of k)) is in
    let n : c.front_len.result ≡ length (front_of z.cap (Dump c.args.line.now c.args.payload.now)) =
    c.front_len.ensures.value ∙ ap (λ k. length (front_of z.cap k)) is in
    omega (
      arith,
      h,
      n,
      dump_fits z.cap c.args.line.now c.args.payload.now
          (omega (arith, h, c.line_len.ensures.short, c.requires.valid.room)),
    )

pub returns-else-len-eq0 : goal.returns-else-len-eq0
returns-else-len-eq0 c =
    let z = c.args.zone.now in
    let w = c.args.words.now in
    let bytes : List ℕ = c.args.payload.now in
    let is : call_of c.args.kind c.args.line.now c.args.payload.now ≡ Append bytes =
    ap (λ k. call_of k c.args.line.now c.args.payload.now) c.in-Append.is in
    let len : c.last_len-len.result ≡ length (last_of z.cap (Append bytes)) =
    c.last_len-len.ensures.value ∙ ap (λ k. length (last_of z.cap k)) is in
    let some : 0 < c.last_len-len.result = grind (arith, common_steps) in
    let open_for : IsOpenFor (Append bytes) w z.cap = subst (λ k. IsOpenFor k w z.cap) is c.requires.is_open in
    c.runs_between.ensures
    ∙ ap (λ e. runs_between (w.start / z.block) e c.block_behind-in-Append.result) c.block_behind.ensures
    ∙ ap (λ m. runs_between (w.start / z.block) (behind_run z w.start c.min-first.result) m)
    c.block_behind-in-Append.ensures
    ∙ ap (λ n. runs_between (w.start / z.block) (behind_run z w.start c.min-first.result)
    ((((n - c.min-first.result) + z.block) - 1) / z.block)) len
    ∙ sym (ap (λ k. runs_of (filter (has (touched_by z (call_stages z w k))) (range_with_len 0 z.blocks))) is
    ∙ runs_append z w c.requires.valid bytes c.min-first.result open_for.0 (omega (arith, len, some))
    (omega (arith, c.min-first.ensures, len)))

pub returns-in-Erase : goal.returns-in-Erase
returns-in-Erase c =
    let z = c.args.zone.now in
    let w = c.args.words.now in
    let is : call_of c.args.kind c.args.line.now c.args.payload.now ≡ Erase =
    ap (λ k. call_of k c.args.line.now c.args.payload.now) c.in-Erase.is in
    c.new-in-Erase.ensures ∙ sym (ap (λ k. runs_of (filter (has (touched_by z (call_stages z w k)))
    (range_with_len 0 z.blocks))) is ∙ runs_erase z w)

pub returns-in-Dump : goal.returns-in-Dump
unfolding line_of
returns-in-Dump c =
    let z = c.args.zone.now in
    let w = c.args.words.now in
    let is : call_of c.args.kind c.args.line.now c.args.payload.now ≡ Dump c.args.line.now c.args.payload.now =
    ap (λ k. call_of k c.args.line.now c.args.payload.now) c.in-Dump.is in
    let h : c.line_len.result ≡ length c.args.line.now = c.line_len.ensures.value ∙ ap (λ k. length (line_of k)) is in
    let n : c.front_len.result ≡ length (front_of z.cap (Dump c.args.line.now c.args.payload.now)) =
    c.front_len.ensures.value ∙ ap (λ k. length (front_of z.cap k)) is in
    c.runs_between-in-Dump.ensures
    ∙ ap (λ e. runs_between 0 e 0) c.block_behind-in-Dump.ensures
    ∙ ap (λ k. runs_between 0 (((k + c.front_len.result) + z.block - 1) / z.block) 0) h
    ∙ ap (λ k. runs_between 0 (((length c.args.line.now + k) + z.block - 1) / z.block) 0) n
    ∙ sym (ap (λ k. runs_of (filter (has (touched_by z (call_stages z w k))) (range_with_len 0 z.blocks))) is
    ∙ runs_dump z w c.requires.valid c.args.line.now c.args.payload.now (omega (arith, h, c.line_len.ensures.short)))
