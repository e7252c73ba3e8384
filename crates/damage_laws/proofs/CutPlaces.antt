-- Where a call was cut: old ring places in untouched blocks read as told, and the log has no other places in
-- untouched blocks
use Rattle.std.proofs.Common.{◌≡◌, ℕ, zero, suc, ◌+◌, ◌-◌, ◌*◌, ◌/◌, ◌%◌, ◌<◌, ◌≤◌, ◌⊎◌, min, Bool, true, false, cond}
use Rattle.std.proofs.Common.{◌==◌, List, [], ◌∷◌, ◌++◌, length, take, drop, map, get_or, slice_get, refl, sym, ap, ap₂}
use Rattle.std.proofs.Common.{◌∙◌, subst, arith, inl, inr, Some, length-take, length-drop, append-nil, true≢false}
use Rattle.std.proofs.Common.{eqb-true}
use Rattle.std.specs.Prelude.{Contains}
use Rattle.std.proofs.Math.Nat.{mod-eq_of_lt}
use Rattle.std.proofs.lemmas.Bool.{cases_lt, or_left, or_right}
use Rattle.std.proofs.lemmas.List.Elements.{Contains-append_cases, Contains-append_left, Contains-append_right}
use Rattle.std.proofs.lemmas.List.FromFn.{get_or-range_with_len, length-range_with_len}
use Rattle.std.specs.List.{AllByRecursion, range_with_len}
use Rattle.list_laws.proofs.Gets.{slice_get-map_some}
use Rattle.zone_spec.specs.declared.Zone.{Zone}
use Rattle.zone_spec.specs.declared.Words.{Words}
use Rattle.zone_spec.specs.declared.Pair.{Pair}
use Rattle.zone_spec.specs.Zones.{IsValidZone}
use Rattle.zone_spec.specs.Parts.{Header, Block, part_bytes, part_word, words_in, standing_words, IsImage}
use Rattle.zone_spec.specs.PartReadings.{part_reading, words_read}
use Rattle.zone_spec.specs.Reading.{log_places}
use Rattle.zone_spec.specs.Told.{Call, Append, Erase, Dump, last_items}
use Rattle.zone_spec.specs.Stages.{Stage, SigWord, StartWord, SizeWord, Run, ParityOf, blocks_met}
use Rattle.zone_spec.specs.Calls.{run_stages, append_stages, erase_stages, call_stages, CanBegin}
use Rattle.zone_spec.specs.Ring.{ReadsAsStands}
use Rattle.zone_spec.specs.Pairs.{pairs_from, pair_of}
use Rattle.zone_spec.specs.Touched.{touched_by}
use Rattle.zone_spec.specs.Cut.{words_before}
use Rattle.machine_spec.specs.States.{Flight}
use Rattle.machine_spec.specs.Stop.{cut_of}
use Rattle.machine_spec.specs.Sound.{IsInFlight}
use Rattle.machine_spec.specs.Headline.{OldPlacesRead, NoOtherPlaces}
use Rattle.ring_laws.proofs.PartsLaw.{block_some, SamePart, ReadsAsStands-same}
use Rattle.ring_laws.proofs.RingLaw.{open_after}
use Rattle.ring_laws.proofs.EveryParity.{block_has}
use Rattle.ring_laws.proofs.ReadingLaw.{part_reading-stands}
use Rattle.ring_laws.proofs.HeaderWords.{header_words}
use Rattle.damage_laws.proofs.Within.{part_reads, byte_read-stop, place_below}
use Rattle.damage_laws.proofs.UntouchedBlocks.{LeavesBlock, untouched_same}
use Rattle.damage_laws.proofs.TouchedBlocks.{parity_length, touches, touches-append, call-leaves, run_hits}

pub old_places : (z : Zone) (stop now told : List ℕ) (f : Flight) → IsValidZone z → IsImage z stop
    → IsInFlight z stop told f → IsImage z now → OldPlacesRead z (words_before z (cut_of z f)) f.call told stop now
old_places z stop now told f valid hs flies hn i place at untouched within =
    let w : Words = standing_words z f.image in
    let words : words_in z.byte_order (part_word z f.image Header) ≡ w = header_words z f.image valid flies.size in
    let old : slice_get (log_places w.start w.size) i ≡ Some place =
    subst (λ v. slice_get (log_places v.start v.size) i ≡ Some place) words at in
    let below : place < w.size = place_below w.start w.size i place flies.ring.ring.0 old in
    let b : ℕ = place / z.block in
    let begins : z.block * b ≤ place = omega (arith, block_some z valid) in
    let has : b < z.blocks = block_has z valid b (omega (arith, flies.ring.ring.1)) in
    let free : touches z (call_stages z w f.call) b ≡ false =
    subst (λ v. touches z (call_stages z v f.call) b ≡ false) words untouched in
    let leaves : AllByRecursion (LeavesBlock z b) (call_stages z w f.call) =
    (call-leaves z valid f.image f.call (omega (arith, flies.ring.ring.0, flies.ring.ring.1)) flies.can).each b
    has free in
    let same : SamePart z stop f.image (Block b) = subst (λ x. SamePart z x f.image (Block b)) (sym flies.now)
    (untouched_same z b (omega (arith, valid.room)) (parity_length z.parity) f.call f.image f.made leaves) in
    let stands : ReadsAsStands z stop (Block b) = ReadsAsStands-same same (flies.ring.blocks b (omega arith)) in
    let reads : (part_reading z now (Block b)).bytes ≡ part_bytes z f.image (Block b) =
    part_reads z stop now (Block b) valid hs hn within ∙ part_reading-stands z stop (Block b) stands ∙ same.bytes in
    ap (λ xs. slice_get xs i) (sym flies.ring.bytes) ∙ slice_get-map_some (λ p. get_or f.image (12 + p) 0)
    (log_places w.start w.size) i place old
    ∙ ap Some (sym (byte_read-stop z f.image now place (block_some z valid) (omega (arith, flies.ring.ring.1)) reads))

-- ---- pairs

abbrev pair_after : Pair → List Stage → Pair
pair_after p [] = p
pair_after p (StartWord n ∷ gs) = pair_after (record { start = n; size = p.size }) gs
pair_after p (SizeWord n ∷ gs) = pair_after (record { start = p.start; size = n }) gs
pair_after p (SigWord n ∷ gs) = pair_after p gs
pair_after p (Run place bytes ∷ gs) = pair_after p gs
pair_after p (ParityOf part ∷ gs) = pair_after p gs

module _ (P : Pair → Type 0) where
  pub pairs-append : (p : Pair) (gs hs : List Stage) → AllByRecursion P (pairs_from p gs)
      → AllByRecursion P (pairs_from (pair_after p gs) hs) → AllByRecursion P (pairs_from p (gs ++ hs))
  unfolding pairs_from
  pairs-append p [] hs h k = k
  pairs-append p (StartWord n ∷ gs) hs h k = (h.0, pairs-append _ gs hs h.1 k)
  pairs-append p (SizeWord n ∷ gs) hs h k = (h.0, pairs-append _ gs hs h.1 k)
  pairs-append p (SigWord n ∷ gs) hs h k = pairs-append p gs hs h k
  pairs-append p (Run place bytes ∷ gs) hs h k = pairs-append p gs hs h k
  pairs-append p (ParityOf part ∷ gs) hs h k = pairs-append p gs hs h k

pair_after-append : (p : Pair) (gs hs : List Stage) → pair_after p (gs ++ hs) ≡ pair_after (pair_after p gs) hs
pair_after-append p [] hs = refl
pair_after-append p (StartWord n ∷ gs) hs = pair_after-append _ gs hs
pair_after-append p (SizeWord n ∷ gs) hs = pair_after-append _ gs hs
pair_after-append p (SigWord n ∷ gs) hs = pair_after-append p gs hs
pair_after-append p (Run place bytes ∷ gs) hs = pair_after-append p gs hs
pair_after-append p (ParityOf part ∷ gs) hs = pair_after-append p gs hs

-- a list of stages that stores no words
abbrev IsQuiet : List Stage → Type 0
IsQuiet gs = (p : Pair) → (pairs_from p gs ≡ p ∷ []) × (pair_after p gs ≡ p)

quiet-parities : (ks : List ℕ) → IsQuiet (map (λ k. ParityOf (Block k)) ks)
unfolding pairs_from
quiet-parities [] p = (refl, refl)
quiet-parities (k ∷ ks) p = quiet-parities ks p

quiet-run : (z : Zone) (place : ℕ) (bs : List ℕ) → IsQuiet (run_stages z place bs)
unfolding pairs_from
quiet-run z place [] p = (refl, refl)
quiet-run z place (b ∷ bs) p = quiet-parities (blocks_met z place (length (b ∷ bs))) p

-- the pairs of an append
pub append_pairs : (P : Pair → Type 0) (z : Zone) (s n c : ℕ) (cs : List ℕ) → n ≤ z.cap
    → P (record { start = s; size = n }) → P (record { start = s; size = min z.cap (n + length (c ∷ cs)) })
    → P (record { start = (s + length (c ∷ cs)) % z.cap; size = min z.cap (n + length (c ∷ cs)) })
    → AllByRecursion P (pairs_from (record { start = s; size = n }) (append_stages z s n (c ∷ cs)))
    × (pair_after (record { start = s; size = n }) (append_stages z s n (c ∷ cs))
    ≡ record { start = (s + length (c ∷ cs)) % z.cap; size = min z.cap (n + length (c ∷ cs)) })
unfolding pairs_from
append_pairs P z s n c cs fits one two three =
    let q : List ℕ = c ∷ cs in
    let first : List Stage = run_stages z s (take (z.cap - s) q) in
    let second : List Stage = run_stages z 0 (drop (z.cap - s) q) in
    let last : List Stage = ParityOf Header ∷ [] in
    let words : List Stage = cond (n == z.cap) [] (SizeWord (min z.cap (n + length q)) ∷ []) ++ StartWord
    ((s + length q) % z.cap) ∷ [] in
    let p0 : Pair = record { start = s; size = n } in
    let p1 : Pair = record { start = (s + length q) % z.cap; size = min z.cap (n + length q) } in
    let head : AllByRecursion P (pairs_from p0 words) × (pair_after p0 words ≡ p1) = by (n == z.cap) refl in
    let after1 : pair_after p0 (words ++ first) ≡ p1 = pair_after-append p0 words first
    ∙ ap (λ p. pair_after p first) head.1 ∙ (quiet-run z s (take (z.cap - s) q) p1).1 in
    let after2 : pair_after p0 (words ++ first ++ second) ≡ p1 = pair_after-append p0 (words ++ first) second
    ∙ ap (λ p. pair_after p second) after1 ∙ (quiet-run z 0 (drop (z.cap - s) q) p1).1 in
    let single : AllByRecursion P (p1 ∷ []) = (three, tt) in (
      pairs-append P p0 (words ++ first ++ second) last
          (pairs-append P p0 (words ++ first) second
          (pairs-append P p0 words first head.0 (rw (head.1, (quiet-run z s (take (z.cap - s) q) p1).0) single))
          (rw (after1, (quiet-run z 0 (drop (z.cap - s) q) p1).0) single))
          (rw after2 single),
      pair_after-append p0 (words ++ first ++ second) last ∙ ap (λ p. pair_after p last) after2,
    )
  where
    by : (full : Bool) → (n == z.cap) ≡ full
        → AllByRecursion P (pairs_from (record { start = s; size = n })
        (cond full [] (SizeWord (min z.cap (n + length (c ∷ cs))) ∷ []) ++ StartWord
        ((s + length (c ∷ cs)) % z.cap) ∷ []))
        × (pair_after (record { start = s; size = n }) (cond full [] (SizeWord (min z.cap (n + length (c ∷ cs))) ∷ [])
        ++ StartWord ((s + length (c ∷ cs)) % z.cap) ∷ [])
        ≡ record { start = (s + length (c ∷ cs)) % z.cap; size = min z.cap (n + length (c ∷ cs)) })
    by false e = ((one, (two, (three, tt))), refl)
    by true e =
        let m : n ≡ min z.cap (n + length (c ∷ cs)) = (let f : n ≡ z.cap = eqb-true n z.cap e in omega arith) in (
          (one, (subst (λ k. P (record { start = (s + length (c ∷ cs)) % z.cap; size = k })) (sym m) three, tt)),
          ap (λ k. record { start = (s + length (c ∷ cs)) % z.cap; size = k }) m,
        )

-- ---- places that a pair of the call gives

touches-left : (z : Zone) (gs hs : List Stage) (b : ℕ) → touches z gs b ≡ true → touches z (gs ++ hs) b ≡ true
touches-left z gs hs b e = touches-append z gs hs b ∙ or_left (touches z gs b) (touches z hs b) e

touches-right : (z : Zone) (gs hs : List Stage) (b : ℕ) → touches z hs b ≡ true → touches z (gs ++ hs) b ≡ true
touches-right z gs hs b e = touches-append z gs hs b ∙ or_right (touches z gs b) (touches z hs b) e

module _ (z : Zone) (valid : IsValidZone z) where
  append_hits : (s n c : ℕ) (cs : List ℕ) (p : ℕ) → s ≤ p → p < s + length (c ∷ cs) → p < z.cap
      → touches z (append_stages z s n (c ∷ cs)) (p / z.block) ≡ true
  append_hits s n c cs p h k l =
      let q : List ℕ = c ∷ cs in
      let b : ℕ = p / z.block in
      let sizes : List Stage = cond (n == z.cap) [] (SizeWord (min z.cap (n + length q)) ∷ []) in
      let starts : List Stage = StartWord ((s + length q) % z.cap) ∷ [] in
      let first : List Stage = run_stages z s (take (z.cap - s) q) in
      let second : List Stage = run_stages z 0 (drop (z.cap - s) q) in
      let last : List Stage = ParityOf Header ∷ [] in
      touches-left z (sizes ++ starts ++ first ++ second) last b
      (touches-left z (sizes ++ starts ++ first) second b
      (touches-right z (sizes ++ starts) first b (run_hits z valid s (take (z.cap - s) q) p h
      (omega (arith, length-take (z.cap - s) q)))))

  -- a place of the pair is old, or touched by the stages
  abbrev Good : List Stage → ℕ → Pair → Type 0
  Good gs old pair = (p : ℕ) → (p < pair.start) ⊎ (p < pair.size) → touches z gs (p / z.block) ≡ false → p < old

  append_good : (gs : List Stage) (old s n : ℕ) (q : List ℕ) → s ≤ n → n ≤ z.cap → s < z.cap → (n < z.cap → s ≡ n)
      → length q ≤ z.cap
      → ((p : ℕ) → p < n → touches z gs (p / z.block) ≡ false → p < old)
      → ((b : ℕ) → touches z (append_stages z s n q) b ≡ true → touches z gs b ≡ true)
      → AllByRecursion (Good gs old) (pairs_from (record { start = s; size = n }) (append_stages z s n q))
  unfolding pairs_from
  append_good gs old s n [] h k l o short before hits =
      ((λ p side free. elim side [ inl a ↦ before p (omega arith) free | inr a ↦ before p a free ]), tt)
  append_good gs old s n (c ∷ cs) h k l o short before hits =
      let q : List ℕ = c ∷ cs in
      let after = open_after s n (length q) z.cap l k h o short in
      let grown : (p : ℕ) → p < min z.cap (n + length q) → touches z gs (p / z.block) ≡ false → p < old =
      (λ p m free. elim (cases_lt p n) [
        | inl a ↦ before p a free
        | inr g ↦ (let same : s ≡ n = o (omega arith) in absurd
            (true≢false (sym (hits (p / z.block) (append_hits s n c cs p (omega arith) (omega arith) (omega arith)))
            ∙ free)))
      ]) in
      (append_pairs (Good gs old) z s n c cs k
      (λ p side free. elim side [ inl a ↦ before p (omega arith) free | inr a ↦ before p a free ])
      (λ p side free. elim side [ inl a ↦ before p (omega arith) free | inr a ↦ grown p a free ])
      (λ p side free. elim side [ inl a ↦ grown p (omega (arith, after.0)) free | inr a ↦ grown p a free ])).0

  append_ends : (s n : ℕ) (q : List ℕ) → n ≤ z.cap → s ≡ n → s + length q < z.cap
      → pair_after (record { start = s; size = n }) (append_stages z s n q)
      ≡ record { start = s + length q; size = n + length q }
  append_ends s n [] k e l = (let a : s ≡ s + 0 = omega arith in let b : n ≡ n + 0 = omega arith in
      ap₂ (λ x y. record { start = x; size = y }) a b)
  append_ends s n (c ∷ cs) k e l =
      (append_pairs (λ pair. Unit {0}) z s n c cs k tt tt tt).1
      ∙ (let a : (s + length (c ∷ cs)) % z.cap ≡ s + length (c ∷ cs) = mod-eq_of_lt l in
      let b : min z.cap (n + length (c ∷ cs)) ≡ n + length (c ∷ cs) = omega arith in
      ap₂ (λ x y. record { start = x; size = y }) a b)

  call_pairs : (image : List ℕ) (call : Call) → (standing_words z image).start ≤ (standing_words z image).size
      → (standing_words z image).size ≤ z.cap → CanBegin z image call
      → AllByRecursion (Good (call_stages z (standing_words z image) call) (standing_words z image).size)
      (pairs_from (record { start = (standing_words z image).start; size = (standing_words z image).size })
      (call_stages z (standing_words z image) call))
  unfolding pairs_from touched_by
  call_pairs image (Append payload) h k can =
      let w : Words = standing_words z image in
      let a : List Stage = append_stages z w.start w.size (last_items z.cap payload) in
      subst (λ gs. AllByRecursion (Good gs w.size) (pairs_from (record { start = w.start; size = w.size }) gs))
      (sym (append-nil a))
      (append_good a w.size w.start w.size (last_items z.cap payload) h k can.0.0 can.0.1
      (omega (arith, length-drop (length payload - z.cap) payload)) (λ p l free. l) (λ b e. e))
  call_pairs image Erase h k can = (
    (λ p side free. elim side [ inl a ↦ omega arith | inr a ↦ a ]),
    (
      (λ p side free. elim side [ inl a ↦ absurd (omega arith) | inr a ↦ a ]),
      ((λ p side free. elim side [ inl a ↦ absurd (omega arith) | inr a ↦ absurd (omega arith) ]), tt),
    ),
  )
  call_pairs image (Dump line body) h k can =
      let w : Words = standing_words z image in
      let n : ℕ = length line in
      let front : List ℕ = take (z.cap - n) body in
      let first : List Stage = append_stages z 0 0 line in
      let second : List Stage = append_stages z n n front in
      let rest : List Stage = first ++ (second ++ []) in
      let gs : List Stage = erase_stages ++ rest in
      let p0 : Pair = record { start = w.start; size = w.size } in
      let hit1 : (b : ℕ) → touches z first b ≡ true → touches z gs b ≡ true =
      (λ b e. touches-right z erase_stages rest b (touches-left z first (second ++ []) b e)) in
      let hit2 : (b : ℕ) → touches z second b ≡ true → touches z gs b ≡ true =
      (λ b e. touches-right z erase_stages rest b (touches-right z first (second ++ []) b
      (touches-left z second [] b e))) in
      let line_hit : (p : ℕ) → p < n → touches z gs (p / z.block) ≡ false → p < w.size =
      (λ p l free. absurd (true≢false (sym (hit1 (p / z.block) (line_hits line p l (omega (arith, can.1))))
      ∙ free))) in
      let good1 : AllByRecursion (Good gs w.size) (pairs_from (record { start = 0; size = 0 }) first) =
      append_good gs w.size 0 0 line (omega arith) (omega arith) (omega (arith, valid.room)) (λ _. refl)
      (omega (arith, can.1)) (λ p l free. absurd (omega arith)) hit1 in
      let good2 : AllByRecursion (Good gs w.size) (pairs_from (record { start = n; size = n }) second) =
      append_good gs w.size n n front (omega arith) (omega (arith, can.1)) can.1 (λ _. refl)
      (omega (arith, length-take (z.cap - n) body)) line_hit hit2 in
      let ends : pair_after (record { start = 0; size = 0 }) first ≡ record { start = n; size = n } =
      append_ends 0 0 line (omega arith) refl (omega (arith, can.1))
      ∙ (let a : 0 + n ≡ n = omega arith in ap (λ x. record { start = x; size = x }) a) in
      let joined : AllByRecursion (Good gs w.size) (pairs_from (record { start = 0; size = 0 }) rest) =
      pairs-append (Good gs w.size) (record { start = 0; size = 0 }) first (second ++ []) good1
      (subst (λ p. AllByRecursion (Good gs w.size) (pairs_from p (second ++ []))) (sym ends)
      (subst (λ ts. AllByRecursion (Good gs w.size) (pairs_from (record { start = n; size = n }) ts))
      (sym (append-nil second)) good2)) in (
        (λ p side free. elim side [ inl a ↦ omega arith | inr a ↦ a ]),
        ((λ p side free. elim side [ inl a ↦ absurd (omega arith) | inr a ↦ a ]), joined),
      )
    where
      line_hits : (line : List ℕ) (p : ℕ) → p < length line → length line < z.cap
          → touches z (append_stages z 0 0 line) (p / z.block) ≡ true
      line_hits [] p l m = absurd (omega arith)
      line_hits (c ∷ cs) p l m = append_hits 0 0 c cs p (omega arith) (omega arith) (omega arith)

  -- ---- the log's places
  all-at : (P : Pair → Type 0) (ps : List Pair) (i : ℕ) (d : Pair) → AllByRecursion P ps → i < length ps
      → P (get_or ps i d)
  all-at P [] i d h l = absurd (omega arith)
  all-at P (p ∷ ps) zero d h l = h.0
  all-at P (p ∷ ps) (suc i) d h l = all-at P ps i d h.1 (omega arith)

  pub in_range : (a n p : ℕ) → Contains (range_with_len a n) p → (a ≤ p) × (p < a + n)
  in_range a n p c =
      let k : c.0 < n = omega (arith, c.1, length-range_with_len a n) in
      let e : p ≡ a + c.0 = sym c.2 ∙ get_or-range_with_len a n c.0 p k in
      (omega (arith, e), omega (arith, e, k))

  pub range_in : (a n p : ℕ) → a ≤ p → p < a + n → Contains (range_with_len a n) p
  range_in a n p h k = (
    p - a,
    omega (arith, length-range_with_len a n),
    get_or-range_with_len a n (p - a) p (omega arith) ∙ omega arith,
  )

  pub log_side : (s n p : ℕ) → Contains (log_places s n) p → (p < s) ⊎ (p < n)
  log_side s n p c = elim (Contains-append_cases (range_with_len s (n - s)) (range_with_len 0 s) p c) [
    | inl a ↦ (let r = in_range s (n - s) p a in inr (omega (arith, r.0, r.1)))
    | inr b ↦ (let r = in_range 0 s p b in inl (omega (arith, r.1)))
  ]

  pub log_has : (s n p : ℕ) → s ≤ n → p < n → Contains (log_places s n) p
  log_has s n p h k = elim (cases_lt p s) [
    | inl a ↦ Contains-append_right (range_with_len s (n - s)) (range_with_len 0 s) p
        (range_in 0 s p (omega arith) (omega arith))
    | inr g ↦ Contains-append_left (range_with_len s (n - s)) (range_with_len 0 s) p
        (range_in s (n - s) p g (omega arith))
  ]

  pub no_other_places : (stop now told : List ℕ) (f : Flight) → IsInFlight z stop told f
      → NoOtherPlaces z (words_before z (cut_of z f)) f.call now
  no_other_places stop now told f flies place seen has free =
      let w : Words = standing_words z f.image in
      let v : Words = words_read z now in
      let words : words_in z.byte_order (part_word z f.image Header) ≡ w = header_words z f.image valid flies.size in
      let among : Contains (pairs_from (pair_of w) (call_stages z w f.call)) (pair_of v) =
      subst (λ u. Contains (pairs_from (pair_of u) (call_stages z u f.call)) (pair_of v)) words seen in
      let good : Good (call_stages z w f.call) w.size (pair_of v) =
      subst (Good (call_stages z w f.call) w.size) among.2
      (all-at (Good (call_stages z w f.call) w.size) (pairs_from (pair_of w) (call_stages z w f.call)) among.0
      (pair_of v) (call_pairs f.image f.call flies.ring.ring.0 flies.ring.ring.1 flies.can) among.1) in
      let below : place < w.size = good place (log_side v.start v.size place has)
      (subst (λ u. touches z (call_stages z u f.call) (place / z.block) ≡ false) words free) in
      subst (λ u. Contains (log_places u.start u.size) place) (sym words)
      (log_has w.start w.size place flies.ring.ring.0 below)
