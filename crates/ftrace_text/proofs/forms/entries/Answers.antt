-- The entry at the place is the next one. For `entries`.
use Rattle.std.proofs.Common.{◌≡◌, ◌/◌, ◌+◌, ◌<◌, ◌≤◌, ℕ, List, [], ◌∷◌, ◌++◌, length, map, sym, ap, ap₂, arith, ◌∙◌}
use Rattle.std.specs.List.{range_with_len}
use Rattle.std.proofs.lemmas.List.{map-append}
use Rattle.std.proofs.lemmas.List.FromFn.{map-range_with_len_more}
use Rattle.ftrace_zone.specs.EntryBytes.{entry_bytes}
use Rattle.ftrace_spec.specs.Forms.{as_long, entry_at, entry_len, long_entries}
use Rattle.ftrace_text.proofs.forms.entries.Goals as goal

pub loop-i-preserved : goal.loop-i-preserved
loop-i-preserved c =
    let f : ℕ → List ℕ = λ i. as_long c.args.order c.args.form (entry_at c.args.form c.args.log.now i) in
    ap (map entry_bytes) c.in_ok-push.ensures.items
    ∙ map-append entry_bytes c.loop-i.all.items (c.nth_entry.result ∷ [])
    ∙ ap₂ (λ (es : List (List ℕ)) (e : List ℕ). es ++ e ∷ []) c.loop-i.invariant c.nth_entry.ensures
    ∙ sym (map-range_with_len_more f 0 c.loop-i.i c.loop-i.i (omega arith))

pub returns : goal.returns
unfolding long_entries
returns c =
    let f : ℕ → List ℕ = λ i. as_long c.args.order c.args.form (entry_at c.args.form c.args.log.now i) in
    let most = c.loop-i.auto.i-end in
    let low = c.loop-i-test.false in
    let all : c.loop-i.i ≡ length c.args.log.now / c.entry_len.result = omega (arith, most, low) in
    let len : c.entry_len.result ≡ entry_len c.args.form = c.entry_len.ensures.len in
    ap (map entry_bytes) c.from_vec.ensures ∙ c.loop-i.invariant
    ∙ ap (λ n. map f (range_with_len 0 n)) (all ∙ ap (λ n. length c.args.log.now / n) len)
