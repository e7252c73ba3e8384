-- The pairs of an append, an erasure and a dump are those before each of its stages, with the last
-- one. For `add_pairs`.
use Rattle.std.proofs.Common.{arith, ℕ, ◌≡◌, ◌++◌, ◌∷◌, [], List, sym, ap, ◌∙◌, length, refl, append-nil}
use Rattle.zone_spec.specs.declared.Pair.{Pair}
use Rattle.zone_spec.specs.Told.{Append, Erase, Dump}
use Rattle.zone_spec.specs.Calls.{append_stages, call_stages}
use Rattle.zone_spec.specs.Pairs.{pairs_from, pair_of}
use Rattle.store_steps.specs.Calls.{call_of, last_of, line_of, front_of}
use Rattle.store_steps.specs.PairSteps.{pair_after}
use Rattle.store_steps.proofs.Totals.{stages_append}
use Rattle.store_steps.proofs.PairLists.{pairs_end, pairs_erased, pairs_dump}
use Rattle.store_steps.proofs.counts.add_pairs.Goals as goal

pub returns-in-Append-clause-pairs : goal.returns-in-Append-clause-pairs
returns-in-Append-clause-pairs c =
    let z = c.args.zone.now in
    let w = c.args.words.now in
    let is : call_of c.args.kind c.args.line.now c.args.payload.now ≡ Append c.args.payload.now =
    ap (λ k. call_of k c.args.line.now c.args.payload.now) c.in-Append.is in
    let bytes : List ℕ = last_of z.cap (Append c.args.payload.now) in
    ap (λ ps. c.append_pairs.new.pairs.items ++ ps) (sym (pairs_end c.append_pairs.result))
    ∙ c.append_pairs.ensures.pairs z refl bytes (ap (λ k. length (last_of z.cap k)) (sym is)
    ∙ sym c.last_len.ensures.value) []
    ∙ ap (λ ps. ps ++ pairs_from (pair_of w) (append_stages z w.start w.size bytes ++ [])) c.requires.empty
    ∙ ap (pairs_from (pair_of w)) (append-nil (append_stages z w.start w.size bytes)
    ∙ sym (stages_append z w c.args.payload.now))
    ∙ ap (λ k. pairs_from (pair_of w) (call_stages z w k)) (sym is)

pub returns-in-Erase-clause-pairs : goal.returns-in-Erase-clause-pairs
returns-in-Erase-clause-pairs c =
    let z = c.args.zone.now in
    let w = c.args.words.now in
    let is : call_of c.args.kind c.args.line.now c.args.payload.now ≡ Erase =
    ap (λ k. call_of k c.args.line.now c.args.payload.now) c.in-Erase.is in
    let zero : Pair = record { start = 0; size = 0 } in
    ap (λ ps. ps ++ c.erase_pairs.result ∷ []) (c.erase_pairs.ensures.pairs
    ∙ ap (λ ps. ps ++ pair_of w ∷ (record { start = 0; size = w.size } ∷ [])) c.requires.empty)
    ∙ ap (λ p. pair_of w ∷ (record { start = 0; size = w.size } ∷ (p ∷ []))) c.erase_pairs.ensures.last
    ∙ ap (λ ps. pair_of w ∷ (record { start = 0; size = w.size } ∷ ps)) (sym (pairs_end zero))
    ∙ sym (pairs_erased (pair_of w) [])
    ∙ ap (λ k. pairs_from (pair_of w) (call_stages z w k)) (sym is)

pub returns-in-Dump-clause-pairs : goal.returns-in-Dump-clause-pairs
unfolding line_of
returns-in-Dump-clause-pairs c =
    let z = c.args.zone.now in
    let w = c.args.words.now in
    let line : List ℕ = c.args.line.now in
    let body : List ℕ = c.args.payload.now in
    let is : call_of c.args.kind c.args.line.now c.args.payload.now ≡ Dump line body =
    ap (λ k. call_of k c.args.line.now c.args.payload.now) c.in-Dump.is in
    let h : c.line_len-head.result ≡ length line = c.line_len-head.ensures.value ∙ ap (λ k. length (line_of k)) is in
    let n : c.front_len-front.result ≡ length (front_of z.cap (Dump line body)) =
    c.front_len-front.ensures.value ∙ ap (λ k. length (front_of z.cap k)) is in
    pairs_dump z w line body c.erase_pairs-erased.result c.append_pairs-lined.result c.append_pairs-in-Dump.result
    c.erase_pairs-erased.new.pairs.items c.append_pairs-lined.new.pairs.items c.append_pairs-in-Dump.new.pairs.items
    (c.erase_pairs-erased.ensures.pairs ∙ ap (λ ps. ps ++ pair_of w ∷ (record { start = 0; size = w.size } ∷ []))
    c.requires.empty)
    c.erase_pairs-erased.ensures.last
    (omega (arith, h, c.line_len-head.ensures.short, c.requires.valid.room))
    (c.append_pairs-lined.ensures.last ∙ ap (λ k. pair_after c.erase_pairs-erased.result z.cap k) h)
    (λ more. c.append_pairs-lined.ensures.pairs z refl line (sym h) more)
    (λ more. c.append_pairs-in-Dump.ensures.pairs z refl (front_of z.cap (Dump line body)) (sym n) more)
    ∙ ap (λ k. pairs_from (pair_of w) (call_stages z w k)) (sym is)
