-- The pairs that the stages of a call go through
use Rattle.std.proofs.Common.{◌≡◌, ℕ, ◌+◌, ◌-◌, ◌%◌, ◌<◌, min, true, false, ◌==◌, List, [], ◌∷◌, ◌++◌, length, take}
use Rattle.std.proofs.Common.{drop, map, refl, sym, ap, ◌∙◌, arith, append_assoc, append-nil, zero-add, ◌≢◌, inl, inr}
use Rattle.std.proofs.Math.Nat.{mod-eq_of_lt}
use Rattle.std.proofs.lemmas.Bool.{ne_eqb, eq-eqb}
use Rattle.std.proofs.lemmas.Bool.Decides.{eqb_tells}
use Rattle.zone_spec.specs.declared.Zone.{Zone}
use Rattle.zone_spec.specs.declared.Pair.{Pair}
use Rattle.zone_spec.specs.declared.Words.{Words}
use Rattle.zone_spec.specs.Told.{Dump}
use Rattle.zone_spec.specs.Parts.{Header, Block}
use Rattle.zone_spec.specs.Stages.{Stage, ParityOf, blocks_met}
use Rattle.zone_spec.specs.Calls.{append_stages, call_stages, erase_stages, run_stages}
use Rattle.zone_spec.specs.Pairs.{pairs_from, pair_of}
use Rattle.store_steps.specs.Calls.{line_of, front_of}
use Rattle.store_steps.specs.PairSteps.{AppendsPairs, pair_after}
use Rattle.store_steps.proofs.Totals.{stages_dump}
use Rattle.store_steps.proofs.Parts.{append_begins_ne, append_begins_full, sized}

pairs_parities : (p : Pair) (bs : List ℕ) (more : List Stage)
    → pairs_from p (map (λ k. ParityOf (Block k)) bs ++ more) ≡ pairs_from p more
unfolding pairs_from
pairs_parities p [] more = refl
pairs_parities p (b ∷ bs) more = pairs_parities p bs more

pairs_run : (z : Zone) (place : ℕ) (xs : List ℕ) (p : Pair) (more : List Stage)
    → pairs_from p (run_stages z place xs ++ more) ≡ pairs_from p more
unfolding pairs_from
pairs_run z place [] p more = refl
pairs_run z place (b ∷ bs) p more = pairs_parities p (blocks_met z place (length (b ∷ bs))) more

pairs_sized : (z : Zone) (start : ℕ) (bytes : List ℕ) (p : Pair) (more : List Stage)
    → pairs_from p (sized z start bytes more) ≡ p ∷ pairs_from
    (record { start = (start + length bytes) % z.cap; size = p.size }) more
unfolding pairs_from
pairs_sized z start bytes p more =
    let q : Pair = record { start = (start + length bytes) % z.cap; size = p.size } in
    ap (λ ps. p ∷ ps)
    (pairs_run z start (take (z.cap - start) bytes) q (run_stages z 0 (drop (z.cap - start) bytes) ++ ParityOf Header
    ∷ more)
    ∙ pairs_run z 0 (drop (z.cap - start) bytes) q (ParityOf Header ∷ more))

pub pairs_full : (z : Zone) (p : Pair) (bytes : List ℕ) (more : List Stage) → (p.size == z.cap) ≡ true
    → 0 < length bytes
    → pairs_from p (append_stages z p.start p.size bytes ++ more)
    ≡ p ∷ pairs_from (record { start = (p.start + length bytes) % z.cap; size = p.size }) more
pairs_full z p bytes more full some = ap (pairs_from p) (append_begins_full z p.start p.size bytes more full some)
    ∙ pairs_sized z p.start bytes p more

pub pairs_ne : (z : Zone) (p : Pair) (bytes : List ℕ) (more : List Stage) → (p.size == z.cap) ≡ false → 0 < length bytes
    → pairs_from p (append_stages z p.start p.size bytes ++ more)
    ≡ p ∷ (record { start = p.start; size = min z.cap (p.size + length bytes) } ∷ pairs_from
    (record { start = (p.start + length bytes) % z.cap; size = min z.cap (p.size + length bytes) }) more)
unfolding pairs_from
pairs_ne z p bytes more less some =
    ap (pairs_from p) (append_begins_ne z p.start p.size bytes more less some)
    ∙ ap (λ ps. p ∷ ps) (pairs_sized z p.start bytes (record
    { start = p.start; size = min z.cap (p.size + length bytes) }) more)

pub pairs_erased : (p : Pair) (more : List Stage) → pairs_from p (erase_stages ++ more)
    ≡ p ∷ (record { start = 0; size = p.size } ∷ pairs_from (record { start = 0; size = 0 }) more)
unfolding pairs_from
pairs_erased p more = refl

pub pairs_end : (p : Pair) → pairs_from p [] ≡ p ∷ []
unfolding pairs_from
pairs_end p = refl

pub appends_full : (old new : List Pair) (p : Pair) (cap n : ℕ) → new ≡ old ++ p ∷ [] → p.size ≡ cap → 0 < n
    → AppendsPairs old new p (record { start = (p.start + n) % cap; size = cap }) cap n
appends_full old new p cap n e full some = λ z at_cap bytes len more.
    let r : List Pair = pairs_from (record { start = (p.start + n) % cap; size = cap }) more in
    ap (λ ps. ps ++ r) e ∙ append_assoc old (p ∷ []) r
    ∙ ap (λ ps. old ++ ps)
    (sym (pairs_full z p bytes more (eq-eqb p.size z.cap (full ∙ sym at_cap)) (omega (arith, len, some))
    ∙ ap (λ k. p ∷ pairs_from (record { start = (p.start + k) % z.cap; size = p.size }) more) len
    ∙ ap (λ k. p ∷ pairs_from (record { start = (p.start + n) % k; size = p.size }) more) at_cap
    ∙ ap (λ k. p ∷ pairs_from (record { start = (p.start + n) % cap; size = k }) more) full))

pub appends_ne : (old new : List Pair) (p : Pair) (cap n size : ℕ)
    → new ≡ old ++ p ∷ [] ++ record { start = p.start; size = size } ∷ [] → p.size ≢ cap → 0 < n
    → size ≡ min cap (p.size + n)
    → AppendsPairs old new p (record { start = (p.start + n) % cap; size = size }) cap n
appends_ne old new p cap n size e less some is = λ z at_cap bytes len more.
    let q : Pair = record { start = p.start; size = size } in
    let r : List Pair = pairs_from (record { start = (p.start + n) % cap; size = size }) more in
    let is_size : min z.cap (p.size + length bytes) ≡ size = ap (λ k. min k (p.size + length bytes)) at_cap
    ∙ ap (λ k. min cap (p.size + k)) len ∙ sym is in
    ap (λ ps. ps ++ r) e ∙ append_assoc (old ++ p ∷ []) (q ∷ []) r ∙ append_assoc old (p ∷ []) (q ∷ r)
    ∙ ap (λ ps. old ++ ps)
    (sym (pairs_ne z p bytes more (ne_eqb p.size z.cap (λ h. less (h ∙ at_cap))) (omega (arith, len, some))
    ∙ ap (λ k. p ∷ (record { start = p.start; size = k } ∷ pairs_from
    (record { start = (p.start + length bytes) % z.cap; size = k }) more)) is_size
    ∙ ap (λ k. p ∷ (q ∷ pairs_from (record { start = (p.start + k) % z.cap; size = size }) more)) len
    ∙ ap (λ k. p ∷ (q ∷ pairs_from (record { start = (p.start + n) % k; size = size }) more)) at_cap))

-- the pair behind an append to an empty ring
pub pair_lined : (cap h : ℕ) → h < cap → pair_after (record { start = 0; size = 0 }) cap h
    ≡ record { start = h; size = h }
pair_lined cap h less = elim (eqb_tells h 0) [
  | inl e ↦ rw e.0 (ap (λ k. record { start = k; size = k }) (sym e.1))
  | inr e ↦ rw e.0
      (let s : (0 + h) % cap ≡ h = ap (λ k. k % cap) (zero-add h) ∙ mod-eq_of_lt less in
      let m : min cap (0 + h) ≡ h = omega arith in
      ap (λ k. record { start = k; size = min cap (0 + h) }) s ∙ ap (λ k. record { start = h; size = k }) m)
]

-- the pairs of a dump, part behind part
pub pairs_dump : (z : Zone) (w : Words) (line body : List ℕ) (erased lined last : Pair) (one two three : List Pair)
    → one ≡ pair_of w ∷ (record { start = 0; size = w.size } ∷ []) → erased ≡ record { start = 0; size = 0 }
    → length line < z.cap → lined ≡ pair_after erased z.cap (length line)
    → ((more : List Stage) → two ++ pairs_from lined more
    ≡ one ++ pairs_from erased (append_stages z erased.start erased.size line ++ more))
    → ((more : List Stage) → three ++ pairs_from last more
    ≡ two ++ pairs_from lined (append_stages z lined.start lined.size (front_of z.cap (Dump line body)) ++ more))
    → three ++ last ∷ [] ≡ pairs_from (pair_of w) (call_stages z w (Dump line body))
unfolding line_of
pairs_dump z w line body erased lined last one two three e1 e2 less e3 second third =
    let h : ℕ = length line in
    let front : List ℕ = front_of z.cap (Dump line body) in
    let is : lined ≡ record { start = h; size = h } = e3 ∙ ap (λ p. pair_after p z.cap h) e2
    ∙ pair_lined z.cap h less in
    ap (λ ps. three ++ ps) (sym (pairs_end last)) ∙ third []
    ∙ ap (λ p. two ++ pairs_from lined (append_stages z p.start p.size front ++ [])) is
    ∙ ap (λ gs. two ++ pairs_from lined gs) (append-nil (append_stages z h h front))
    ∙ second (append_stages z h h front)
    ∙ ap (λ p. one ++ pairs_from p (append_stages z p.start p.size line ++ append_stages z h h front)) e2
    ∙ ap (λ ps. ps ++ pairs_from (record { start = 0; size = 0 })
    (append_stages z 0 0 line ++ append_stages z h h front)) e1
    ∙ sym (pairs_erased (pair_of w) (append_stages z 0 0 line ++ append_stages z h h front))
    ∙ ap (pairs_from (pair_of w)) (sym (stages_dump z w line body))
