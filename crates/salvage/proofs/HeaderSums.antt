-- What the code's values say of a header's word
use Rattle.std.proofs.Common.{◌≡◌, ℕ, zero, suc, ◌+◌, ◌-◌, ◌/◌, ◌<◌, ◌≤◌, ◌&&◌, List, [], ◌∷◌, ◌++◌, length, take}
use Rattle.std.proofs.Common.{get_or, replicate, refl, sym, ap, ◌∙◌, subst, arith, Option, Some, None, unwrap_or}
use Rattle.std.proofs.Common.{length-append, ◌==◌, nat_le, if◌then◌else◌, true, false, Bool, ◌⊎◌, inl, inr, le-leb}
use Rattle.std.proofs.Common.{eqb-true}
use Rattle.std.proofs.Math.Dec.{leb}
use Rattle.std.proofs.lemmas.Bool.Decides.{leb_tells}
use Rattle.std.proofs.lemmas.Bool.{and_parts}
use Rattle.std.proofs.lemmas.List.{take_at}
use Rattle.list_laws.proofs.Elements.{AllByRecursion-append, AllByRecursion_from_places, replicate_from_places}
use Rattle.zone_spec.specs.declared.Zone.{Zone}
use Rattle.zone_spec.specs.declared.params.ByteOrder.{ByteOrder}
use Rattle.zone_spec.specs.declared.params.ByteOrder.TheVariants.{Little, Big}
use Rattle.zone_spec.specs.declared.Words.{Words}
use Rattle.zone_spec.specs.Zones.{IsValidZone}
use Rattle.zone_spec.specs.Parts.{words_in}
use Rattle.code_spec.specs.Code.{IsWord, nearest, nearest_if, is_near, is_codeword, distance}
use Rattle.code_laws.proofs.Nearest.{the_word-passes, distance_zero, distance_self, nearest-IsNear}
use Rattle.code_laws.proofs.Parity.{codeword_of, roots_of}
use Rattle.code_laws.proofs.Steps.{zeros_codeword}
use Rattle.rs_decode.specs.Decoding.{decoded_by, decoded_at, within}
use Rattle.rs_decode.specs.declared.Decoded.TheVariants.{Clean, Fixed, Bad}
use Rattle.salvage_spec.specs.Rings.{ring_in}
use Rattle.salvage_spec.specs.declared.FoundRing.{FoundRing}
use Rattle.salvage_laws.specs.Known.{known, amended, amends, put_in}
use Rattle.salvage_laws.proofs.KnownBytes.{length-put_in}
use Rattle.salvage.specs.Headers.{ring_if, ring_near}
use Rattle.salvage.specs.Sieves.{IsKnownWord}
use Rattle.salvage.proofs.Rings.{many, near_is, none_is, one_near}
use Rattle.salvage_laws.proofs.Laws.{known_is}
use Rattle.salvage_laws.proofs.Bytes.{has_known}
use Rattle.code_laws.proofs.Symbols.{HasRoots}

pub put_in-append : (ks : List (Option ℕ)) (v w : List ℕ) → length ks ≤ length v → put_in ks (v ++ w) ≡ put_in ks v ++ w
unfolding put_in
put_in-append [] v w l = refl
put_in-append (k ∷ ks) [] w l = absurd (omega arith)
put_in-append (None ∷ ks) (b ∷ v) w l = ap (λ xs. b ∷ xs) (put_in-append ks v w (omega arith))
put_in-append (Some k ∷ ks) (b ∷ v) w l = ap (λ xs. k ∷ xs) (put_in-append ks v w (omega arith))

distance-append : (u v w : List ℕ) → length u ≡ length v → distance (u ++ w) (v ++ w) ≡ distance u v
unfolding distance
distance-append [] [] w l = distance_self w
distance-append [] (b ∷ v) w l = absurd (omega arith)
distance-append (a ∷ u) [] w l = absurd (omega arith)
distance-append (a ∷ u) (b ∷ v) w l = ap (λ n. (if a == b then 0 else 1) + n) (distance-append u v w (omega arith))

words_taken : (order : ByteOrder) (c : List ℕ) → words_in order (take 12 c) ≡ words_in order c
words_taken order [] = refl
words_taken order (a ∷ []) = refl
words_taken order (a ∷ b ∷ []) = refl
words_taken order (a ∷ b ∷ c ∷ []) = refl
words_taken order (a ∷ b ∷ c ∷ d ∷ []) = refl
words_taken order (a ∷ b ∷ c ∷ d ∷ e ∷ []) = refl
words_taken order (a ∷ b ∷ c ∷ d ∷ e ∷ f ∷ []) = refl
words_taken order (a ∷ b ∷ c ∷ d ∷ e ∷ f ∷ g ∷ []) = refl
words_taken order (a ∷ b ∷ c ∷ d ∷ e ∷ f ∷ g ∷ h ∷ []) = refl
words_taken order (a ∷ b ∷ c ∷ d ∷ e ∷ f ∷ g ∷ h ∷ i ∷ []) = refl
words_taken order (a ∷ b ∷ c ∷ d ∷ e ∷ f ∷ g ∷ h ∷ i ∷ j ∷ []) = refl
words_taken order (a ∷ b ∷ c ∷ d ∷ e ∷ f ∷ g ∷ h ∷ i ∷ j ∷ k ∷ []) = refl
words_taken order (a ∷ b ∷ c ∷ d ∷ e ∷ f ∷ g ∷ h ∷ i ∷ j ∷ k ∷ l ∷ rest) = refl

-- a header's bytes have its words, whatever comes after them
words_front : (order : ByteOrder) (bytes par : List ℕ) → length bytes ≡ 12 → words_in order bytes ≡ words_in order (bytes ++ par)
words_front order bytes par l = ap (λ (w : List ℕ). words_in order w) (sym (take_at bytes par 12 l)) ∙ words_taken order (bytes ++ par)

-- the header's bytes with the known ones, of which e differed
pub record IsProbe (z : Zone) (header par bytes : List ℕ) (e : ℕ) : Type 0 where
  pub valid : IsValidZone z
  pub word : IsWord (12 + z.parity) (header ++ par)
  pub amended : amended z (header ++ par) ≡ bytes ++ par
  pub amends : e ≡ amends z (header ++ par)
  pub long : length bytes ≡ 12
  pub parity : length par ≡ z.parity

pub probe_is : (z : Zone) (header par bytes copied : List ℕ) (ks : List (Option ℕ)) (e : ℕ) → IsValidZone z
    → ((i : ℕ) → get_or header i 0 < 256) → ((i : ℕ) → get_or par i 0 < 256) → length header ≡ 12
    → length par ≡ z.parity → ks ≡ known z → copied ≡ header → bytes ≡ put_in ks copied → e ≡ distance copied bytes
    → IsProbe z header par bytes e
probe_is z header par bytes copied ks e valid hb pb hl pl ek ec eb ee =
    let is : bytes ≡ put_in (known z) header = eb ∙ ap (λ k. put_in k copied) ek ∙ ap (put_in (known z)) ec in
    let long : length bytes ≡ 12 = ap length is ∙ (length-put_in (known z) header ∙ hl) in
    let twelve : length (known z) ≤ length header = omega (arith, hl) in
    let a : amended z (header ++ par) ≡ bytes ++ par =
    put_in-append (known z) header par twelve ∙ ap (λ b. b ++ par) (sym is) in
    record {
      valid = valid;
      word = (
        length-append header par ∙ omega (arith, hl, pl),
        AllByRecursion-append (λ b. b < 256) header par (AllByRecursion_from_places (λ b. b < 256) header hb)
            (AllByRecursion_from_places (λ b. b < 256) par pb),
      );
      amended = a;
      amends = ee ∙ ap (λ x. distance x bytes) ec ∙ sym (distance-append header bytes par (hl ∙ sym long))
          ∙ ap (distance (header ++ par)) (sym a);
      long = long;
      parity = pl;
    }

module _ (z : Zone) (at : ℕ) (header par bytes : List ℕ) (e : ℕ) (p : IsProbe z header par bytes e) where
  pub probe_many : z.parity / 2 < e → None ≡ ring_in z at (header ++ par)
  probe_many h = many z at (header ++ par) p.valid p.word (omega (arith, h, p.amends))

  -- by the codeword within what is left of half the parity
  pub probe_near : (o : Option FoundRing) (most r : ℕ) → e ≤ z.parity / 2 → most ≡ z.parity / 2 - e → r ≡ z.parity
      → o ≡ ring_near z at e (bytes ++ par) (within most (bytes ++ par) (nearest r (bytes ++ par)))
      → o ≡ ring_in z at (header ++ par)
  probe_near o most r few em er h =
      h ∙ ap (λ (m : ℕ). ring_near z at e (bytes ++ par) (within m (bytes ++ par) (nearest r (bytes ++ par)))) em
      ∙ ap (λ (n : ℕ). ring_near z at e (bytes ++ par) (within (z.parity / 2 - e) (bytes ++ par)
      (nearest n (bytes ++ par)))) er
      ∙ ap (λ (w : List ℕ). ring_near z at e w (within (z.parity / 2 - e) w (nearest z.parity w))) (sym p.amended)
      ∙ ap (λ (n : ℕ). ring_near z at n (amended z (header ++ par)) (within (z.parity / 2 - n)
      (amended z (header ++ par)) (nearest z.parity (amended z (header ++ par))))) p.amends
      ∙ near_is z at (header ++ par) p.valid p.word (omega (arith, few, p.amends))

  -- each codeword with the known bytes is further than that
  pub probe_far : (known_bytes : List (Option ℕ)) (r most : ℕ) (word : List ℕ) → known_bytes ≡ known z → r ≡ z.parity
      → word ≡ bytes ++ par → most ≡ z.parity / 2 - e
      → ((c : List ℕ) → IsKnownWord known_bytes r c → most < distance word c) → None ≡ ring_in z at (header ++ par)
  probe_far known_bytes r most word ek er ew em far = none_is z at (header ++ par) (λ d h.
      let near = nearest-IsNear z.parity (header ++ par) d
      (subst (λ n. IsWord n (header ++ par)) (sym p.word.0) p.word) h.nearest in
      let long : length d ≡ 12 + z.parity = near.word.0 ∙ p.word.0 in
      let own : IsKnownWord known_bytes r d = record {
        len = long ∙ ap (λ n. 12 + n) (sym er);
        roots = subst (λ n. HasRoots n d) (sym er) (roots_of z.parity d near.codeword);
        known = ap (λ ks. put_in ks d) ek
            ∙ has_known z d p.valid (omega (arith, long)) near.word.1 h.words;
      } in
      let close : distance (amended z (header ++ par)) d ≤ z.parity / 2 - amends z (header ++ par) =
      ((known_is z (header ++ par) d p.valid p.word).0 h).close in
      omega (arith, far d own, close, em, p.amends, ap (λ w. distance w d) (ew ∙ sym p.amended)))

-- ---- the amended word itself
exact : (r : ℕ) (w : List ℕ) → within 0 w (nearest r w) ≡ (if is_codeword r w then Some w else None)
unfolding within nearest is_near
exact r w = by (is_codeword r w) refl
  where
    itself : within 0 w (Some w) ≡ Some w
    itself = ap (λ (b : Bool). if b then Some w else None) (le-leb (distance w w) 0 (omega (arith, distance_self w)))

    other : (c : List ℕ) → is_codeword r w ≡ false → nearest_if false r w ≡ Some c
        → ((leb (distance w c) 0 ≡ true) × (distance w c ≤ 0)) ⊎ ((leb (distance w c) 0 ≡ false) × (0 < distance w c))
        → (if leb (distance w c) 0 then Some c else None) ≡ None
    other c f n (inl h) =
        let p = the_word-passes (is_near r w) (length w) c n in
        let same : w ≡ c = distance_zero w c (sym p.1.0) h.1 in
        let code : is_codeword r c ≡ true = (and_parts (is_codeword r c) (leb (distance w c) (r / 2)) p.0).0 in
        let bad : true ≡ false = sym code ∙ (ap (is_codeword r) (sym same) ∙ f) in cc
    other c f n (inr h) = ap (λ (b : Bool). if b then Some c else None) h.0

    none : is_codeword r w ≡ false → (o : Option (List ℕ)) → nearest_if false r w ≡ o → within 0 w o ≡ None
    none f None n = refl
    none f (Some c) n = other c f n (leb_tells (distance w c) 0)

    by : (b : Bool) → is_codeword r w ≡ b → within 0 w (nearest_if b r w) ≡ (if b then Some w else None)
    by true t = itself
    by false t = none t (nearest_if false r w) refl

-- the ring of the amended bytes, where they stand as a codeword
pub as_amended : (z : Zone) (at e r : ℕ) (bytes par : List ℕ) (b : Bool) → length bytes ≡ 12
    → is_codeword r (bytes ++ par) ≡ b
    → ring_near z at e (bytes ++ par) (within 0 (bytes ++ par) (nearest r (bytes ++ par)))
    ≡ (if b then ring_if z at (words_in z.byte_order bytes) e else None)
as_amended z at e r bytes par b l c =
    ap (ring_near z at e (bytes ++ par)) (exact r (bytes ++ par)
    ∙ ap (λ (t : Bool). if t then Some (bytes ++ par) else None) c) ∙ by b
  where
    W : List ℕ
    W = bytes ++ par

    by : (t : Bool) → ring_near z at e (bytes ++ par) (if t then Some (bytes ++ par) else None)
        ≡ (if t then ring_if z at (words_in z.byte_order bytes) e else None)
    by true =
        ap (λ (n : ℕ). ring_if z at (words_in z.byte_order (bytes ++ par)) n)
        (let s : e + distance (bytes ++ par) (bytes ++ par) ≡ e = omega (arith, distance_self (bytes ++ par)) in s)
        ∙ ap (λ (v : Words). ring_if z at v e) (sym (words_front z.byte_order bytes par l))
    by false = refl

pub amended_same : (z : Zone) (at e r : ℕ) (bytes par : List ℕ) → length bytes ≡ 12 → (o : Option FoundRing)
    → o ≡ ring_if z at (words_in z.byte_order bytes) e → is_codeword r (bytes ++ par) ≡ true
    → o ≡ ring_near z at e (bytes ++ par) (within 0 (bytes ++ par) (nearest r (bytes ++ par)))
amended_same z at e r bytes par l o h c = h ∙ sym (as_amended z at e r bytes par true l c)

pub amended_other : (z : Zone) (at e r : ℕ) (bytes par : List ℕ) → length bytes ≡ 12
    → is_codeword r (bytes ++ par) ≡ false
    → None ≡ ring_near z at e (bytes ++ par) (within 0 (bytes ++ par) (nearest r (bytes ++ par)))
amended_other z at e r bytes par l c = sym (as_amended z at e r bytes par false l c)

pub amended_unlike : (z : Zone) (at e r : ℕ) (bytes par : List ℕ) → length bytes ≡ 12
    → None ≡ ring_if z at (words_in z.byte_order bytes) e
    → None ≡ ring_near z at e (bytes ++ par) (within 0 (bytes ++ par) (nearest r (bytes ++ par)))
amended_unlike z at e r bytes par l h = by (is_codeword r (bytes ++ par)) refl
  where
    by : (b : Bool) → is_codeword r (bytes ++ par) ≡ b
        → None ≡ ring_near z at e (bytes ++ par) (within 0 (bytes ++ par) (nearest r (bytes ++ par)))
    by true c = h ∙ sym (as_amended z at e r bytes par true l c)
    by false c = sym (as_amended z at e r bytes par false l c)

-- ---- by the decoder's answer
is_bad : (n : ℕ) → Bad ≡ decoded_at n → ⊥
is_bad zero h = cc
is_bad (suc n) h = cc

is_clean : (n : ℕ) → Clean ≡ decoded_at n → n ≡ 0
is_clean zero h = refl
is_clean (suc n) h = cc

is_fixed : (m n : ℕ) → Fixed m ≡ decoded_at n → n ≡ m
is_fixed m zero h = cc
is_fixed m (suc n) h = cc

module _ (z : Zone) (at e : ℕ) (word : List ℕ) where
  pub near_bad : (o : Option (List ℕ)) → Bad ≡ decoded_by word o → None ≡ ring_near z at e word o
  unfolding decoded_by
  near_bad None h = refl
  near_bad (Some c) h = absurd (is_bad (distance word c) h)

  pub near_clean : (o : Option (List ℕ)) (q : Option FoundRing) (out : List ℕ) (k : ℕ) → k ≡ 12
      → Clean ≡ decoded_by word o → out ≡ take k (unwrap_or o word)
      → q ≡ ring_if z at (words_in z.byte_order out) e → q ≡ ring_near z at e word o
  unfolding decoded_by
  near_clean None q out k ek h eo eq = cc
  near_clean (Some c) q out k ek h eo eq =
      eq ∙ ap (λ (w : List ℕ). ring_if z at (words_in z.byte_order w) e) (eo ∙ ap (λ m. take m c) ek)
      ∙ ap (λ (v : Words). ring_if z at v e) (words_taken z.byte_order c)
      ∙ ap (ring_if z at (words_in z.byte_order c))
      (let s : e ≡ e + distance word c = omega (arith, is_clean (distance word c) h) in s)

  pub near_fixed : (o : Option (List ℕ)) (q : Option FoundRing) (out : List ℕ) (k m n : ℕ) → k ≡ 12
      → Fixed m ≡ decoded_by word o → out ≡ take k (unwrap_or o word) → n ≡ e + m
      → q ≡ ring_if z at (words_in z.byte_order out) n → q ≡ ring_near z at e word o
  unfolding decoded_by
  near_fixed None q out k m n ek h eo en eq = cc
  near_fixed (Some c) q out k m n ek h eo en eq =
      eq ∙ ap (λ (w : List ℕ). ring_if z at (words_in z.byte_order w) n) (eo ∙ ap (λ j. take j c) ek)
      ∙ ap (λ (v : Words). ring_if z at v n) (words_taken z.byte_order c)
      ∙ ap (ring_if z at (words_in z.byte_order c))
      (let s : n ≡ e + distance word c = omega (arith, en, is_fixed m (distance word c) h) in s)

-- no more places than the bound
pub fixed_few : (most m : ℕ) (word : List ℕ) (o : Option (List ℕ)) → Fixed m ≡ decoded_by word (within most word o)
    → m ≤ most
unfolding decoded_by within
fixed_few most m word None h = cc
fixed_few most m word (Some c) h = by (leb_tells (distance word c) most) h
  where
    by : ((leb (distance word c) most ≡ true) × (distance word c ≤ most))
        ⊎ ((leb (distance word c) most ≡ false) × (most < distance word c))
        → Fixed m ≡ decoded_by word (if leb (distance word c) most then Some c else None) → m ≤ most
    by (inl l) k = omega (
      arith,
      l.1,
      is_fixed m (distance word c) (k
          ∙ ap (λ (b : Bool). decoded_by word (if b then Some c else None)) l.0),
    )
    by (inr l) k = (let bad : Fixed m ≡ Bad = k
        ∙ ap (λ (b : Bool). decoded_by word (if b then Some c else None)) l.0 in cc)

-- ---- zeros
append_zeros : (v w : List ℕ) → ((k : ℕ) → k < length v → get_or v k 0 ≡ 0)
    → ((k : ℕ) → k < length w → get_or w k 0 ≡ 0) → (k : ℕ) → k < length (v ++ w) → get_or (v ++ w) k 0 ≡ 0
append_zeros [] w hv hw k l = hw k l
append_zeros (b ∷ v) w hv hw zero l = hv 0 (omega arith)
append_zeros (b ∷ v) w hv hw (suc k) l = append_zeros v w (λ j m. hv (suc j) (omega arith)) hw k (omega arith)

-- zeros are zero words, in either order
no_words_in : (order : ByteOrder) → words_in order (replicate 12 0) ≡ record { sig = 0; start = 0; size = 0 }
no_words_in Little = refl
no_words_in Big = refl

no_ring : (z : Zone) (at n : ℕ) → ring_if z at (words_in z.byte_order (replicate 12 0)) n ≡ None
no_ring z at n = ap (λ (v : Words). ring_if z at v n) (no_words_in z.byte_order)
    ∙ by ((0 == z.sig) && nat_le 0 0 && nat_le 0 z.cap)
  where
    by : (b : Bool)
        → ◌≡◌ {A = Option FoundRing} (if b && false then Some (record {
          at = at;
          zone = z.name;
          words = record { sig = 0; start = 0; size = 0 };
          corrected = n;
        }) else None) None
    by true = refl
    by false = refl

-- zeros are a codeword whose words are an empty ring
pub zeros_none : (z : Zone) (at : ℕ) (header par : List ℕ) → length header ≡ 12
    → ((k : ℕ) → k < length header → get_or header k 0 ≡ 0) → ((k : ℕ) → k < length par → get_or par k 0 ≡ 0)
    → None ≡ ring_in z at (header ++ par)
unfolding nearest
zeros_none z at header par l hh hp =
    let code : is_codeword z.parity (header ++ par) ≡ true =
    codeword_of z.parity (header ++ par) (zeros_codeword z.parity (header ++ par) (append_zeros header par hh hp)) in
    let n : nearest z.parity (header ++ par) ≡ Some (header ++ par) =
    ap (λ (b : Bool). nearest_if b z.parity (header ++ par)) code in
    let zeros : header ≡ replicate 12 0 = replicate_from_places 0 header hh ∙ ap (λ (k : ℕ). replicate k 0) l in
    let d : ℕ = distance (header ++ par) (header ++ par) in
    sym (ap (λ (w : List ℕ). ring_if z at (words_in z.byte_order w) d) zeros ∙ no_ring z at d)
    ∙ one_near z at (header ++ par) (header ++ par) (words_in z.byte_order header) d (words_front z.byte_order header par l) n refl

-- ---- without parity
pub none_of_coder : (n : ℕ) (o : Option ℕ) → o ≡ (if n == 0 then None else Some n) → o ≡ None → n ≡ 0
none_of_coder n o e h = by (n == 0) refl (sym e ∙ h)
  where
    by : (b : Bool) → (n == 0) ≡ b → ◌≡◌ {A = Option ℕ} (if b then None else Some n) None → n ≡ 0
    by true t k = eqb-true n 0 t
    by false t k = cc

pub no_parity : (z : Zone) (at : ℕ) (header par : List ℕ) (o : Option FoundRing) → length header ≡ 12 → z.parity ≡ 0
    → o ≡ ring_if z at (words_in z.byte_order header) 0 → o ≡ ring_in z at (header ++ par)
unfolding nearest is_codeword
no_parity z at header par o l e h =
    let code : is_codeword z.parity (header ++ par) ≡ true = ap (λ (r : ℕ). is_codeword r (header ++ par)) e in
    let n : nearest z.parity (header ++ par) ≡ Some (header ++ par) =
    ap (λ (b : Bool). nearest_if b z.parity (header ++ par)) code in
    h ∙ one_near z at (header ++ par) (header ++ par) (words_in z.byte_order header) 0 (words_front z.byte_order header par l) n
    (distance_self (header ++ par))
