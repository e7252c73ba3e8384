-- The rest of a message, from one symbol to the next
use Rattle.std.proofs.Common.{◌≡◌, Bool, true≢false, false, eqb, ◌*◌, ◌/◌, ◌%◌, ◌^◌, bit_xor, subst, get_or-drop}
use Rattle.std.proofs.Common.{length-drop, ℕ, zero, suc, ◌+◌, ◌-◌, ◌<◌, ◌≤◌, List, ◌++◌, ◌∷◌, [], length, get_or, refl}
use Rattle.std.proofs.Common.{sym, ap, ap₂, ◌∙◌, arith, ◌⊎◌, inl, inr, drop, take, replicate, add-one}
use Rattle.std.proofs.lemmas.List.{get_or_past, length-replicate, take_more}
use Rattle.std.proofs.lemmas.Grind.{same_number_lists}
use Rattle.std.proofs.lemmas.Bool.{cases_lt}
use Rattle.std.proofs.lemmas.Nat.{xor_block}
use Rattle.list_laws.proofs.Elements.{get_or-replicate_default}
use Rattle.code_spec.specs.Field.{gf_add, gf_mul, gf_pow}
use Rattle.code_spec.specs.Code.{value_of, IsCodeword, parity_of}
use Rattle.code_laws.proofs.Words.{value_of-cons}
use Rattle.code_laws.proofs.Ring.{mul_zero, zero_add, pow_below, one_mul, equal_from_add}
use Rattle.code_laws.proofs.Symbols.{HasRoots, Symbols, IsLow}
use Rattle.code_laws.proofs.Parity.{roots_of, codeword_of, bytes_of}
use Rattle.code_laws.proofs.Laws.{parity_law}
use Rattle.code_laws.proofs.Steps.{encode_step, zeros_codeword}
use Rattle.code_laws.proofs.Xor.{xor_zero_r}
use Rattle.rs_encode.specs.Generator.{IsGenerator}
use Rattle.rs_encode.specs.Lanes.{digit, HoldLanes, IsColumn, IsMultiple, IsRest, IsTable, IsLent}
use Rattle.rs_encode.proofs.Lanes.{digit-below, digit-top, digit-zero, moved_last, moved, multiple_sum}

pub low_of : (g : List ℕ) → IsGenerator g → IsLow (drop 1 g)
low_of [] h = absurd (let s = h.some in omega arith)
low_of (c ∷ g) h = record {
  at = λ i l.
      let X : ℕ = gf_pow 2 i in
      let e : gf_add (gf_pow X (length g)) (value_of g X) ≡ 0 =
      sym (ap (λ (y : ℕ). gf_add y (value_of g X)) (one_mul (gf_pow X (length g)) (pow_below X (length g))))
      ∙ ap (λ (y : ℕ). gf_add (gf_mul y (gf_pow X (length g))) (value_of g X)) (sym h.leading)
      ∙ sym (value_of-cons c g X) ∙ h.roots i (omega arith) in
      sym (equal_from_add (gf_pow X (length g)) (value_of g X) e);
}

-- a byte is its two halves
pub halves : (f : ℕ) → gf_add (f % 16 * 2 ^ 0) (f / 16 * 2 ^ 4) ≡ f
unfolding gf_add
halves f =
    let e : bit_xor (0 * 2 ^ 4 + f % 16) (f / 16 * 2 ^ 4 + 0) ≡ bit_xor 0 (f / 16) * 2 ^ 4 + bit_xor (f % 16) 0 =
    xor_block 4 0 (f / 16) (f % 16) 0 (mod_16 f) (omega arith) in
    ap₂ bit_xor (let h : f % 16 * 2 ^ 0 ≡ 0 * 2 ^ 4 + f % 16 = omega arith in h)
    (let h : f / 16 * 2 ^ 4 ≡ f / 16 * 2 ^ 4 + 0 = omega arith in h) ∙ e
    ∙ ap (λ (x : ℕ). bit_xor 0 (f / 16) * 2 ^ 4 + x) (xor_zero_r (f % 16))
    ∙ (let h : f / 16 * 2 ^ 4 + f % 16 ≡ f = omega arith in h)
  where
    mod_16 : (f : ℕ) → f % 16 < 2 ^ 4
    mod_16 f = omega arith

pub symbols_each : (w : List ℕ) → ((k : ℕ) → get_or w k 0 < 256) → Symbols w
symbols_each [] h = tt
symbols_each (c ∷ w) h = (h 0, symbols_each w (λ k. h (suc k)))

-- the rest of the whole message is its parity
pub rest_is_parity : (r : ℕ) (m o : List ℕ) → length m + r ≤ 255 → ((k : ℕ) → get_or m k 0 < 256) → Symbols o
    → length o ≡ r → IsCodeword r (m ++ o) → o ≡ parity_of r m
rest_is_parity r m o l bm bo lo h =
    sym ((parity_law r m o l (refl, bytes_of m (symbols_each m bm))).1 ((lo, bytes_of o bo), h))

-- the rest after one more symbol, whose sum with the first of the rest is f
after : (o low : List ℕ) → ℕ → List ℕ
after o [] f = []
after o (l ∷ low) f = gf_add (get_or o 1 0) (gf_mul f l) ∷ after (drop 1 o) low f

length-after : (o low : List ℕ) (f : ℕ) → length (after o low f) ≡ length low
unfolding after
length-after o [] f = refl
length-after o (l ∷ low) f = ap suc (length-after (drop 1 o) low f)

at-after : (o low : List ℕ) (f k : ℕ) → length o ≤ length low
    → get_or (after o low f) k 0 ≡ gf_add (get_or o (suc k) 0) (gf_mul f (get_or low k 0))
unfolding after
at-after o [] f k h =
    sym (ap₂ gf_add (get_or_past o (suc k) 0 (omega arith)) (mul_zero f) ∙ zero_add 0)
at-after o (l ∷ low) f zero h = refl
at-after [] (l ∷ low) f (suc k) h = at-after [] low f k (omega arith)
at-after (z ∷ o) (l ∷ low) f (suc k) h = at-after o low f k (omega arith)

coefficient : (g : List ℕ) (j k : ℕ) → get_or (drop (16 * j + 1) g) k 0 ≡ get_or (drop 1 g) (16 * j + k) 0
coefficient g j k =
    get_or-drop (16 * j + 1) g k 0 ∙ ap (λ (i : ℕ). get_or g i 0) (omega arith) ∙ sym (get_or-drop 1 g (16 * j + k) 0)

-- new is lanes moved on by one symbol, with f times the generator added
pub record IsMoved (r f : ℕ) (g lanes new : List ℕ) : Type 0 where
  pub row : ℕ → ℕ
  pub multiple : (j : ℕ) → 16 * j < r → IsMultiple f (drop (16 * j + 1) g) (row j)
  pub lane : (j : ℕ) → 16 * j < r → get_or new j 0
      ≡ bit_xor (bit_xor (get_or lanes j 0 * 2 ^ 8 % 2 ^ 128) (get_or lanes (j + 1) 0 / 2 ^ 120)) (row j)
  pub others : (j : ℕ) → r ≤ 16 * j → get_or new j 0 ≡ get_or lanes j 0

-- each byte of the lanes moved on
lane_after : (r f : ℕ) (o g lanes new : List ℕ) → length o ≡ r → length g ≡ r + 1
    → ((j : ℕ) → get_or lanes j 0 < 2 ^ 128) → IsMoved r f g lanes new
    → ((j k p : ℕ) → k + p ≡ 15 → digit (get_or lanes j 0) p ≡ get_or o (16 * j + k) 0)
    → (j k p : ℕ) → k + p ≡ 15 → (16 * j < r) ⊎ (r ≤ 16 * j)
    → digit (get_or new j 0) p ≡ get_or (after o (drop 1 g) f) (16 * j + k) 0
lane_after r f o g lanes new lo lg bl m h j k zero e (inl l) =
    let end : get_or lanes (j + 1) 0 / 2 ^ 120 ≡ get_or o (suc (16 * j + k)) 0 =
    sym (digit-top (get_or lanes (j + 1) 0) (bl (j + 1))) ∙ h (j + 1) 0 15 refl
    ∙ ap (λ (i : ℕ). get_or o i 0) (omega arith) in
    let small : get_or lanes (j + 1) 0 / 2 ^ 120 < 256 = (let b = bl (j + 1) in omega arith) in
    ap (λ (x : ℕ). digit x 0) (m.lane j l)
    ∙ moved_last (get_or lanes j 0) (get_or lanes (j + 1) 0 / 2 ^ 120) (m.row j) small
    ∙ ap₂ gf_add end ((m.multiple j l).at k 0 e ∙ ap (gf_mul f) (coefficient g j k))
    ∙ sym (at-after o (drop 1 g) f (16 * j + k) (omega (arith, length-drop 1 g)))
lane_after r f o g lanes new lo lg bl m h j k (suc p) e (inl l) =
    let small : get_or lanes (j + 1) 0 / 2 ^ 120 < 256 = (let b = bl (j + 1) in omega arith) in
    ap (λ (x : ℕ). digit x (suc p)) (m.lane j l)
    ∙ moved (get_or lanes j 0) (get_or lanes (j + 1) 0 / 2 ^ 120) (m.row j) p k small e
    ∙ ap₂ gf_add (h j (suc k) p (omega arith) ∙ ap (λ (i : ℕ). get_or o i 0) (omega arith))
    ((m.multiple j l).at k (suc p) e ∙ ap (gf_mul f) (coefficient g j k))
    ∙ sym (at-after o (drop 1 g) f (16 * j + k) (omega (arith, length-drop 1 g)))
lane_after r f o g lanes new lo lg bl m h j k p e (inr l) =
    ap (λ (x : ℕ). digit x p) (m.others j l) ∙ h j k p e ∙ get_or_past o (16 * j + k) 0 (omega arith)
    ∙ sym (get_or_past (after o (drop 1 g) f) (16 * j + k) 0
    (omega (arith, length-after o (drop 1 g) f, length-drop 1 g)))

-- one more symbol of the message
pub rest_after : (r c f : ℕ) (g w lanes new : List ℕ) → IsGenerator g → length g ≡ r + 1 → c < 256
    → ((j : ℕ) → get_or lanes j 0 < 2 ^ 128) → f ≡ gf_add c (get_or lanes 0 0 / 2 ^ 120) → IsMoved r f g lanes new
    → IsRest r w lanes → IsRest r (w ++ c ∷ []) new
rest_after r c f g w lanes new hg lg bc bl ef m h =
    let low : List ℕ = drop 1 g in
    let o : List ℕ = h.rest in
    let n : List ℕ = after o low f in
    let ll : length low ≡ r = omega (arith, length-drop 1 g) in
    let lo : length low ≡ length o = ll ∙ sym h.len in
    let ln : length n ≡ length low = length-after o low f in
    record {
      rest = n;
      len = ln ∙ ll;
      codeword = codeword_of r ((w ++ c ∷ []) ++ n) (subst (λ (i : ℕ). HasRoots i ((w ++ c ∷ []) ++ n)) ll
          (encode_step w o n low c f bc (omega (arith, hg.some, h.len)) (ln ∙ lo) lo
          (ef ∙ ap (gf_add c) (sym (digit-top (get_or lanes 0 0) (bl 0)) ∙ h.at 0 0 15 refl))
          (λ k l. at-after o low f k (omega arith)
          ∙ ap (λ (i : ℕ). gf_add (get_or o i 0) (gf_mul f (get_or low k 0))) (sym (add-one k)))
          (low_of g hg) (subst (λ (i : ℕ). HasRoots i (w ++ o)) (sym ll) (roots_of r (w ++ o) h.codeword))));
      at = λ j k p e. lane_after r f o g lanes new h.len lg bl m h.at j k p e (cases_lt (16 * j) r);
    }

-- no symbols have no rest
pub rest_none : (r : ℕ) (lanes : List ℕ) → ((j : ℕ) → get_or lanes j 0 ≡ 0) → IsRest r [] lanes
rest_none r lanes z = record {
  rest = replicate r 0;
  len = length-replicate r 0;
  codeword = codeword_of r (replicate r 0) (zeros_codeword r (replicate r 0) (λ k l. get_or-replicate_default r k 0));
  at = λ j k p e. ap (λ (x : ℕ). digit x p) (z j) ∙ digit-zero p ∙ sym (get_or-replicate_default r (16 * j + k) 0);
}

-- one lane, by a table of bytes
pub moved_one : (r f x : ℕ) (g table : List ℕ) → 1 ≤ r → r ≤ 16 → f < 256 → IsColumn 0 256 0 (drop 1 g) table
    → IsMoved r f g (x ∷ []) (bit_xor (x * 2 ^ 8 % 2 ^ 128) (get_or table f 0) ∷ [])
moved_one r f x g table some fits bf h = record {
  row = λ j. get_or table f 0;
  multiple = row;
  lane = lane;
  others = others;
}
  where
    row : (j : ℕ) → 16 * j < r → IsMultiple f (drop (16 * j + 1) g) (get_or table f 0)
    row zero l = record {
      at = λ k p e. ap (λ (i : ℕ). digit (get_or table i 0) p) (let h : f ≡ 0 + f = omega arith in h)
          ∙ (h.at f bf).at k p e ∙ ap (λ (y : ℕ). gf_mul y (get_or (drop 1 g) k 0)) (omega arith);
    }
    row (suc j) l = absurd (omega arith)

    lane : (j : ℕ) → 16 * j < r → get_or (bit_xor (x * 2 ^ 8 % 2 ^ 128) (get_or table f 0) ∷ []) j 0
        ≡ bit_xor (bit_xor (get_or (x ∷ []) j 0 * 2 ^ 8 % 2 ^ 128) (get_or (x ∷ []) (j + 1) 0 / 2 ^ 120))
        (get_or table f 0)
    lane zero l = ap (λ (y : ℕ). bit_xor y (get_or table f 0)) (sym (xor_zero_r (x * 2 ^ 8 % 2 ^ 128)))
    lane (suc j) l = absurd (omega arith)

    others : (j : ℕ) → r ≤ 16 * j
        → get_or (bit_xor (x * 2 ^ 8 % 2 ^ 128) (get_or table f 0) ∷ []) j 0 ≡ get_or (x ∷ []) j 0
    others zero l = absurd (omega arith)
    others (suc j) l = refl

one_below : (x j : ℕ) → x < 2 ^ 128 → get_or (x ∷ []) j 0 < 2 ^ 128
one_below x zero h = h
one_below x (suc j) h = omega arith

-- one more symbol of the message, in one lane
pub rest_one : (r f x i : ℕ) (m table : List ℕ) → IsTable r table → r ≤ 16 → i < length m
    → get_or m i 0 < 256 → x < 2 ^ 128 → f < 256 → f ≡ gf_add (get_or m i 0) (x / 2 ^ 120)
    → IsRest r (take i m) (x ∷ [])
    → IsRest r (take (i + 1) m) (bit_xor (x * 2 ^ 8 % 2 ^ 128) (get_or table f 0) ∷ [])
rest_one r f x i m table t few l bc bx bf ef h =
    let new : List ℕ = bit_xor (x * 2 ^ 8 % 2 ^ 128) (get_or table f 0) ∷ [] in
    subst (λ (u : List ℕ). IsRest r u new) (sym (take_more m i 0 l))
    (rest_after r (get_or m i 0) f t.generator (take i m) (x ∷ []) new t.is_generator (omega (arith, t.len)) bc
    (λ j. one_below x j bx) ef (moved_one r f x t.generator table (omega (arith, t.is_generator.some, t.len)) few bf
    (t.narrow (omega arith))) h)

-- more lanes, by tables of halves of bytes
pub moved_all : (r f count : ℕ) (g table lanes new : List ℕ) → f < 256 → r ≤ 16 * count → 16 * count < r + 16
    → ((j : ℕ) → 16 * j < r → IsColumn (32 * j) 16 0 (drop (16 * j + 1) g) table)
    → ((j : ℕ) → 16 * j < r → IsColumn (32 * j + 16) 16 4 (drop (16 * j + 1) g) table)
    → ((j : ℕ) → j < count → get_or new j 0
    ≡ bit_xor (bit_xor (get_or lanes j 0 * 2 ^ 8 % 2 ^ 128) (get_or lanes (j + 1) 0 / 2 ^ 120))
    (bit_xor (get_or table (32 * j + f % 16) 0) (get_or table (32 * j + 16 + f / 16) 0)))
    → ((j : ℕ) → count ≤ j → get_or new j 0 ≡ get_or lanes j 0) → IsMoved r f g lanes new
moved_all r f count g table lanes new bf enough few low high moves keeps = record {
  row = λ j. bit_xor (get_or table (32 * j + f % 16) 0) (get_or table (32 * j + 16 + f / 16) 0);
  multiple = λ j l. multiple_sum (f % 16 * 2 ^ 0) (f / 16 * 2 ^ 4) f (get_or table (32 * j + f % 16) 0)
      (get_or table (32 * j + 16 + f / 16) 0) (drop (16 * j + 1) g) (halves f) ((low j l).at (f % 16) (omega arith))
      ((high j l).at (f / 16) (omega arith));
  lane = λ j l. moves j (omega arith);
  others = λ j l. keeps j (omega arith);
}

-- lists that are the bytes of the lanes are the rest
rest_from : (r : ℕ) (m lanes out : List ℕ) → length out ≡ r → HoldLanes lanes out → (h : IsRest r m lanes)
    → out ≡ h.rest
rest_from r m lanes out lo at h = same_number_lists out h.rest (lo ∙ sym h.len) (λ i b.
    let e : i ≡ 16 * (i / 16) + i % 16 = omega arith in
    ap (λ (x : ℕ). get_or out x 0) e ∙ at.at (i / 16) (i % 16) (15 - i % 16) (omega arith) (omega arith)
    ∙ h.at (i / 16) (i % 16) (15 - i % 16) (omega arith) ∙ ap (λ (x : ℕ). get_or h.rest x 0) (sym e))

rest_symbols : (r : ℕ) (m lanes : List ℕ) → (h : IsRest r m lanes) → Symbols h.rest
rest_symbols r m lanes h = symbols_each h.rest (λ i.
    let e : 16 * (i / 16) + i % 16 ≡ i = omega arith in
    subst (λ (x : ℕ). x < 256)
    (h.at (i / 16) (i % 16) (15 - i % 16) (omega arith) ∙ ap (λ (x : ℕ). get_or h.rest x 0) e)
    (digit-below (get_or lanes (i / 16) 0) (15 - i % 16)))

pub lanes_codeword : (r : ℕ) (m lanes out : List ℕ) → length out ≡ r → IsRest r m lanes → HoldLanes lanes out
    → IsCodeword r (m ++ out)
lanes_codeword r m lanes out lo h at =
    subst (λ (u : List ℕ). IsCodeword r (m ++ u)) (sym (rest_from r m lanes out lo at h)) h.codeword

pub codeword_lanes : (r : ℕ) (m lanes out : List ℕ) → length m + r ≤ 255 → ((k : ℕ) → get_or m k 0 < 256)
    → ((k : ℕ) → get_or out k 0 < 256) → length out ≡ r → IsRest r m lanes → IsCodeword r (m ++ out)
    → HoldLanes lanes out
codeword_lanes r m lanes out l bm bo lo h w =
    let same : out ≡ h.rest = rest_is_parity r m out l bm (symbols_each out bo) lo w
    ∙ sym (rest_is_parity r m h.rest l bm (rest_symbols r m lanes h) h.len h.codeword) in
    record { at = λ j k p e b. ap (λ (u : List ℕ). get_or u (16 * j + k) 0) same ∙ sym (h.at j k p e) }

-- the bytes of the lanes are the parity
pub parity_from : (r : ℕ) (m lanes out : List ℕ) → length m + r ≤ 255 → ((k : ℕ) → get_or m k 0 < 256)
    → ((k : ℕ) → get_or out k 0 < 256) → length out ≡ r → IsRest r m lanes → HoldLanes lanes out
    → out ≡ parity_of r m
parity_from r m lanes out l bm bo lo h at =
    rest_is_parity r m out l bm (symbols_each out bo) lo (lanes_codeword r m lanes out lo h at)

-- a table that is lent, where one is
pub table_lent : (r : ℕ) (rows : List ℕ) (e : Bool) → IsLent r rows → e ≡ eqb (length rows) 0 → e ≡ false
    → IsTable r rows
table_lent r rows e (inr t) h f = t
table_lent r rows e (inl n) h f = absurd (true≢false (sym (h ∙ ap (λ (w : List ℕ). eqb (length w) 0) n) ∙ f))
