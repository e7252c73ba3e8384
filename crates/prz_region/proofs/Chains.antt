-- Spans side by side: one is written, one is added behind, the last is taken.
use Rattle.std.proofs.Common.{◌≡◌, ℕ, zero, suc, ◌+◌, ◌-◌, ◌*◌, ◌<◌, ◌≤◌, List, [], ◌∷◌, ◌++◌, length, get_or, set}
use Rattle.std.proofs.Common.{take, drop, refl, sym, ap, ap₂, subst, ◌∙◌, arith, append_assoc}
use mathlib.Core.List.{append-nil}
use Rattle.std.proofs.Common.{◌⊎◌, inl, inr, lit<, length-take}
use Rattle.std.proofs.lemmas.List.{get_or-take, get_or-drop}
use Rattle.std.proofs.Math.ListN.{get_or-eq_default}
use Rattle.core.proofs.str.Laws.{order}
use Rattle.std.specs.List.{concat}
use denote.RawPtr.{Ptr, ◌+ₚ◌}
use Rattle.core.specs.Mem.Slots.{slots_items, slots_ptr, slots_len, IsFull}
use Rattle.prz_region.specs.declared.pieces.Piece.{Piece}
use Rattle.core.specs.declared.slots.Slots.{Slots}
use Rattle.std.specs.Prelude.{slice_range}
use Rattle.zone_spec.specs.Parts.{AreBytes}
use Rattle.prz_region.specs.Chain.{piece_bytes, all_bytes, all_len, SamePlace, Chain, Laid}
use Rattle.zone_spec.specs.Stores.{Store, after_stores}
use Rattle.prz_region.specs.Made.{Write, in_span}
use Rattle.prz_region.specs.CutRegion.{CutRegion, stored}

pub chain-set : (p q : Ptr) (ss : List Piece) (i : ℕ) (s s' : Piece) → i < length ss → s ≡ get_or ss i s
    → SamePlace s s' → Chain p ss q → Chain p (set ss i s') q
chain-set p q [] i s s' lt e same c = absurd (omega arith)
chain-set p q (x ∷ xs) zero s s' lt e same c = (
  same.at ∙ ap (λ (t : Piece). slots_ptr t.slots) e ∙ c.0,
  subst (λ (n : ℕ). Chain (p +ₚ n) xs q) (sym (same.long ∙ ap (λ (t : Piece). slots_len t.slots) e)) c.1,
)
chain-set p q (x ∷ xs) (suc i) s s' lt e same c = (
  c.0,
  chain-set (p +ₚ slots_len x.slots) q xs i s s' (omega arith) e same c.1,
)

pub len-set : (ss : List Piece) (i : ℕ) (s s' : Piece) → i < length ss → s ≡ get_or ss i s → SamePlace s s'
    → all_len (set ss i s') ≡ all_len ss
len-set [] i s s' lt e same = absurd (omega arith)
len-set (x ∷ xs) zero s s' lt e same = ap (λ (n : ℕ). n + all_len xs)
    (same.long ∙ ap (λ (t : Piece). slots_len t.slots) e)
len-set (x ∷ xs) (suc i) s s' lt e same = ap (λ (n : ℕ). slots_len x.slots + n) (len-set xs i s s' (omega arith) e same)

pub bytes-set : (ss : List Piece) (i : ℕ) (s' : Piece) → all_bytes (set ss i s') ≡ set (all_bytes ss) i (piece_bytes s')
bytes-set [] i s' = refl
bytes-set (x ∷ xs) zero s' = refl
bytes-set (x ∷ xs) (suc i) s' = ap (λ (l : List (List ℕ)). piece_bytes x ∷ l) (bytes-set xs i s')

pub bytes-at : (ss : List Piece) (i : ℕ) (s : Piece) → i < length ss → s ≡ get_or ss i s
    → get_or (all_bytes ss) i [] ≡ piece_bytes s
bytes-at [] i s lt e = absurd (omega arith)
bytes-at (x ∷ xs) zero s lt e = ap piece_bytes (sym e)
bytes-at (x ∷ xs) (suc i) s lt e = bytes-at xs i s (omega arith) e

pub bytes-length : (ss : List Piece) → length (all_bytes ss) ≡ length ss
bytes-length [] = refl
bytes-length (x ∷ xs) = let e = bytes-length xs in omega (arith, e)

-- a piece of a region that is written in its place, where the region is seen as `cut`
pub record IsWritten (ss : List Piece) (rest : List ℕ) (made : List (Write ℕ)) (cut : CutRegion) (i : ℕ)
    (s s' : Piece) : Type 0 where
  pub seen : record { spans = all_bytes ss; rest = rest; made = made } ≡ cut
  pub within : i < length cut.spans
  pub at : s ≡ get_or ss i s
  pub place : SamePlace s s'

piece-within : (ss : List Piece) (rest : List ℕ) (made : List (Write ℕ)) (cut : CutRegion) (i : ℕ) (s s' : Piece)
    → IsWritten ss rest made cut i s s' → i < length ss
piece-within ss rest made cut i s s' w =
    let spans = ap (λ (v : CutRegion). length v.spans) w.seen in
    omega (arith, bytes-length ss, spans, w.within)

-- the pieces lie as before
pub written-laid : (p : Ptr) (n : ℕ) (ss : List Piece) (rest : Slots ℕ) (made : List (Write ℕ)) (cut : CutRegion) (i : ℕ)
    (s s' : Piece)
    → IsWritten ss (slots_items rest) made cut i s s' → Laid p n ss rest → Laid p n (set ss i s') rest
written-laid p n ss rest made cut i s s' w laid =
    let lt = piece-within ss (slots_items rest) made cut i s s' w in
    record {
      chain = chain-set p (slots_ptr rest) ss i s s' lt w.at w.place laid.chain;
      full = laid.full;
      long = ap (λ (m : ℕ). m + slots_len rest) (len-set ss i s s' lt w.at w.place) ∙ laid.long;
    }

-- and only the span's bytes are others, with the stores that made them so in the list
pub written-seen : (ss : List Piece) (rest : List ℕ) (made made' : List (Write ℕ)) (cut : CutRegion) (i : ℕ)
    (s s' : Piece) (ts : List Store)
    → IsWritten ss rest made cut i s s' → piece_bytes s' ≡ after_stores (piece_bytes s) ts
    → made' ≡ made ++ in_span i ts
    → record { spans = all_bytes (set ss i s'); rest = rest; made = made' } ≡ stored cut i ts
written-seen ss rest made made' cut i s s' ts w e m =
    let old = bytes-at ss i s (piece-within ss rest made cut i s s' w) w.at in
    ap₂ (λ (l : List (List ℕ)) (k : List (Write ℕ)). record { spans = l; rest = rest; made = k })
    (bytes-set ss i s' ∙ ap (λ (b : List ℕ). set (all_bytes ss) i b)
    (e ∙ ap (λ (b : List ℕ). after_stores b ts) (sym old))) m
    ∙ ap (λ (v : CutRegion). stored v i ts) w.seen

pub bytes-append : (ss ts : List Piece) → all_bytes (ss ++ ts) ≡ all_bytes ss ++ all_bytes ts
bytes-append [] ts = refl
bytes-append (x ∷ xs) ts = ap (λ (l : List (List ℕ)). piece_bytes x ∷ l) (bytes-append xs ts)

pub len-append : (ss : List Piece) (s : Piece) → all_len (ss ++ s ∷ []) ≡ all_len ss + slots_len s.slots
len-append [] s = omega arith
len-append (x ∷ xs) s = let e = len-append xs s in omega (arith, e)

pub chain-append : (p q : Ptr) (ss : List Piece) (s : Piece) → Chain p ss q → slots_ptr s.slots ≡ q
    → Chain p (ss ++ s ∷ []) (q +ₚ slots_len s.slots)
chain-append p q [] s c e = (e ∙ sym c, ap (λ (r : Ptr). r +ₚ slots_len s.slots) c)
chain-append p q (x ∷ xs) s c e = (c.0, chain-append (p +ₚ slots_len x.slots) q xs s c.1 e)

pub chain-front : (p q : Ptr) (ss : List Piece) (s : Piece) → Chain p (ss ++ s ∷ []) q → Chain p ss (slots_ptr s.slots)
chain-front p q [] s c = sym c.0
chain-front p q (x ∷ xs) s c = (c.0, chain-front (p +ₚ slots_len x.slots) q xs s c.1)

pub chain-last : (p q : Ptr) (ss : List Piece) (s : Piece) → Chain p (ss ++ s ∷ []) q
    → q ≡ slots_ptr s.slots +ₚ slots_len s.slots
chain-last p q [] s c = sym c.1 ∙ ap (λ (r : Ptr). r +ₚ slots_len s.slots) (sym c.0)
chain-last p q (x ∷ xs) s c = chain-last (p +ₚ slots_len x.slots) q xs s c.1

pub concat-more : (xss : List (List ℕ)) (ys zs : List ℕ) → concat (xss ++ ys ∷ []) ++ zs ≡ concat xss ++ (ys ++ zs)
concat-more [] ys zs = ap (λ (l : List ℕ). l ++ zs) (append-nil ys)
concat-more (x ∷ xs) ys zs = append_assoc x (concat (xs ++ ys ∷ [])) zs
    ∙ ap (λ (l : List ℕ). x ++ l) (concat-more xs ys zs) ∙ sym (append_assoc x (concat xs) (ys ++ zs))

-- the rest gives its first k places to a new span
pub laid-more : (p : Ptr) (n k : ℕ) (ss ss' : List Piece) (rest rest' : Slots ℕ) (s : Piece) → Laid p n ss rest
    → ss' ≡ ss ++ s ∷ [] → slots_ptr s.slots ≡ slots_ptr rest → slots_len s.slots ≡ k → k ≤ slots_len rest
    → slots_ptr rest' ≡ slots_ptr rest +ₚ (k * 1) → slots_len rest' ≡ slots_len rest - k → IsFull rest'
    → Laid p n ss' rest'
laid-more p n k ss ss' rest rest' s laid items at long le at' long' full' =
    let one : k * 1 ≡ slots_len s.slots = omega arith in
    let more = ap all_len items ∙ len-append ss s in
    let old = laid.long in
    record {
      chain = subst (λ (ts : List Piece). Chain p ts (slots_ptr rest')) (sym items)
          (subst (λ (q : Ptr). Chain p (ss ++ s ∷ []) q) (sym (at' ∙ ap (λ (m : ℕ). slots_ptr rest +ₚ m) one))
          (chain-append p (slots_ptr rest) ss s laid.chain at));
      full = full';
      long = omega (arith, more, old);
    }

below-256 : (n i : ℕ) (xs : List ℕ) → AreBytes xs → (i < n) ⊎ (n ≤ i) → get_or (take n xs) i 0 < 256
below-256 n i xs all (inl lt) = rw (get_or-take n xs i 0 lt) (all i)
below-256 n i xs all (inr le) = rw (get_or-eq_default (take n xs) 0 {n = i} (omega (arith, length-take n xs))) (lit< tt)

-- the front and the back of bytes are bytes
pub AreBytes-take : (n : ℕ) (xs : List ℕ) → AreBytes xs → AreBytes (take n xs)
AreBytes-take n xs all i = below-256 n i xs all (order i n)

pub AreBytes-drop : (n : ℕ) (xs : List ℕ) → AreBytes xs → AreBytes (drop n xs)
AreBytes-drop n xs all i = rw (get_or-drop n xs i 0) (all (n + i))

-- n items from a place on
pub slice_range-at : (xs : List ℕ) (at n : ℕ) → slice_range xs at (at + n) ≡ take n (drop at xs)
slice_range-at xs at n = let e : at + n - at ≡ n = omega arith in ap (λ (k : ℕ). take k (drop at xs)) e
