-- The shapes of zones, gathered one by one
use Rattle.std.proofs.Common.{◌≡◌, ℕ, zero, suc, ◌&&◌, not, ◌==◌, List, [], ◌∷◌, ◌++◌, ◌≤◌, length, drop, filter, refl}
use Rattle.std.proofs.Common.{sym, ap, ◌∙◌, arith, Bool, true, false, if◌then◌else◌, eqb-true, append_assoc, ◌||◌}
use Rattle.std.proofs.lemmas.List.{append-nil}
use Rattle.std.proofs.lemmas.List.Folds.{list_any-append}
use Rattle.std.proofs.lemmas.Bool.{and_parts}
use Rattle.zone_spec.specs.declared.Zone.{Zone}
use Rattle.zone_spec.specs.declared.params.ByteOrder.{ByteOrder}
use Rattle.zone_spec.specs.declared.params.ByteOrder.TheVariants.{Little, Big}
use Rattle.zone_spec.specs.Orders.{is_same_order}
use Rattle.salvage_spec.specs.Rings.{is_alike, shapes}
use Rattle.salvage.specs.Shapes.{has_shape, with_shape}

-- the zones whose shape is not among these
abbrev pub unlike : List Zone → List Zone → List Zone
unlike found zones = filter (λ x. not (has_shape found x)) zones

-- the words of two zones of one shape
record IsAlike (x z : Zone) : Type 0 where
  size : x.size ≡ z.size
  cap : x.cap ≡ z.cap
  blocks : x.blocks ≡ z.blocks
  parity : x.parity ≡ z.parity
  block : x.block ≡ z.block
  sig : x.sig ≡ z.sig
  byte_order : x.byte_order ≡ z.byte_order

same_order : (a b : ByteOrder) → is_same_order a b ≡ true → a ≡ b
same_order Little Little h = refl
same_order Big Big h = refl
same_order Little Big h = cc
same_order Big Little h = cc

alike : (x z : Zone) → is_alike x z ≡ true → IsAlike x z
alike x z h =
    let o = and_parts ((x.size == z.size) && (x.cap == z.cap) && (x.blocks == z.blocks) && (x.parity == z.parity)
    && (x.block == z.block) && (x.sig == z.sig)) (is_same_order x.byte_order z.byte_order) h in
    let a = and_parts ((x.size == z.size) && (x.cap == z.cap) && (x.blocks == z.blocks) && (x.parity == z.parity)
    && (x.block == z.block)) (x.sig == z.sig) o.0 in
    let b = and_parts ((x.size == z.size) && (x.cap == z.cap) && (x.blocks == z.blocks) && (x.parity == z.parity))
    (x.block == z.block) a.0 in
    let c = and_parts ((x.size == z.size) && (x.cap == z.cap) && (x.blocks == z.blocks)) (x.parity == z.parity) b.0 in
    let d = and_parts ((x.size == z.size) && (x.cap == z.cap)) (x.blocks == z.blocks) c.0 in
    let e = and_parts (x.size == z.size) (x.cap == z.cap) d.0 in
    record {
      size = eqb-true x.size z.size e.0;
      cap = eqb-true x.cap z.cap e.1;
      blocks = eqb-true x.blocks z.blocks d.1;
      parity = eqb-true x.parity z.parity c.1;
      block = eqb-true x.block z.block b.1;
      sig = eqb-true x.sig z.sig a.1;
      byte_order = same_order x.byte_order z.byte_order o.1;
    }

same_test : (s x z : Zone) → is_alike z x ≡ true → is_alike s x ≡ is_alike s z
same_test s x z h =
    let a = alike z x h in
    sym (ap (λ (n : ℕ). (s.size == n) && (s.cap == z.cap) && (s.blocks == z.blocks) && (s.parity == z.parity)
    && (s.block == z.block) && (s.sig == z.sig)
    && is_same_order s.byte_order z.byte_order) a.size
    ∙ ap (λ (n : ℕ). (s.size == x.size) && (s.cap == n) && (s.blocks == z.blocks) && (s.parity == z.parity)
    && (s.block == z.block) && (s.sig == z.sig)
    && is_same_order s.byte_order z.byte_order) a.cap
    ∙ ap (λ (n : ℕ). (s.size == x.size) && (s.cap == x.cap) && (s.blocks == n) && (s.parity == z.parity)
    && (s.block == z.block) && (s.sig == z.sig)
    && is_same_order s.byte_order z.byte_order) a.blocks
    ∙ ap (λ (n : ℕ). (s.size == x.size) && (s.cap == x.cap) && (s.blocks == x.blocks) && (s.parity == n)
    && (s.block == z.block) && (s.sig == z.sig)
    && is_same_order s.byte_order z.byte_order) a.parity
    ∙ ap (λ (n : ℕ). (s.size == x.size) && (s.cap == x.cap) && (s.blocks == x.blocks) && (s.parity == x.parity)
    && (s.block == n) && (s.sig == z.sig)
    && is_same_order s.byte_order z.byte_order) a.block
    ∙ ap (λ (n : ℕ). (s.size == x.size) && (s.cap == x.cap) && (s.blocks == x.blocks) && (s.parity == x.parity)
    && (s.block == x.block) && (s.sig == n)
    && is_same_order s.byte_order z.byte_order) a.sig
    ∙ ap (λ order. (s.size == x.size) && (s.cap == x.cap) && (s.blocks == x.blocks) && (s.parity == x.parity)
    && (s.block == x.block) && (s.sig == x.sig) && is_same_order s.byte_order order) a.byte_order)

same_shape : (found : List Zone) (x z : Zone) → is_alike z x ≡ true → has_shape found x ≡ has_shape found z
same_shape [] x z h = refl
same_shape (s ∷ found) x z h =
    ap (λ (b : Bool). b || has_shape found x) (same_test s x z h)
    ∙ ap (λ (b : Bool). is_alike s z || b) (same_shape found x z h)

-- ---- filters of filters
filter_skip : (p q : Zone → Bool) (xs : List Zone) → ((x : Zone) → q x ≡ false → p x ≡ false)
    → filter p (filter q xs) ≡ filter p xs
filter_skip p q [] h = refl
filter_skip p q (x ∷ xs) h = by (filter_skip p q xs h) (q x) refl
  where
    by : filter p (filter q xs) ≡ filter p xs → (b : Bool) → q x ≡ b
        → filter p (if b then x ∷ filter q xs else filter q xs) ≡ (if p x then x ∷ filter p xs else filter p xs)
    by ih true e = ap (λ (ys : List Zone). if p x then x ∷ ys else ys) ih
    by ih false e = ih
        ∙ sym (ap (λ (b : Bool). if b then x ∷ filter p xs else filter p xs) (h x e))

filter_both : (p q r : Zone → Bool) (xs : List Zone) → ((x : Zone) → r x ≡ (if q x then p x else false))
    → filter p (filter q xs) ≡ filter r xs
filter_both p q r [] h = refl
filter_both p q r (x ∷ xs) h = by (filter_both p q r xs h) (q x) (h x)
  where
    by : filter p (filter q xs) ≡ filter r xs → (b : Bool) → r x ≡ (if b then p x else false)
        → filter p (if b then x ∷ filter q xs else filter q xs) ≡ (if r x then x ∷ filter r xs else filter r xs)
    by ih true e = ap (λ (ys : List Zone). if p x then x ∷ ys else ys) ih
        ∙ sym (ap (λ (b : Bool). if b then x ∷ filter r xs else filter r xs) e)
    by ih false e = ih ∙ sym (ap (λ (b : Bool). if b then x ∷ filter r xs else filter r xs) e)

-- ---- one zone more
pub known_shape : (found : List Zone) (z : Zone) (rest : List Zone) → has_shape found z ≡ true
    → unlike found (shapes (z ∷ rest)) ≡ unlike found (shapes rest)
unfolding shapes
known_shape found z rest h =
    ap (λ (b : Bool). if not b then z ∷ unlike found (filter (λ x. not (is_alike z x)) (shapes rest))
    else unlike found (filter (λ x. not (is_alike z x)) (shapes rest))) h
    ∙ filter_skip (λ x. not (has_shape found x)) (λ x. not (is_alike z x)) (shapes rest)
    (λ x e. ap not (same_shape found x z (was_true (is_alike z x) e) ∙ h))
  where
    was_true : (b : Bool) → not b ≡ false → b ≡ true
    was_true true e = refl
    was_true false e = cc

pub new_shape : (found : List Zone) (z : Zone) (rest : List Zone) → has_shape found z ≡ false
    → found ++ unlike found (shapes (z ∷ rest)) ≡ (found ++ z ∷ []) ++ unlike (found ++ z ∷ []) (shapes rest)
unfolding shapes
new_shape found z rest h =
    ap (λ (b : Bool). found ++ (if not b then z ∷ unlike found (filter (λ x. not (is_alike z x)) (shapes rest))
    else unlike found (filter (λ x. not (is_alike z x)) (shapes rest)))) h
    ∙ ap (λ (ys : List Zone). found ++ z ∷ ys)
    (filter_both (λ x. not (has_shape found x)) (λ x. not (is_alike z x)) (λ x. not (has_shape (found ++ z ∷ []) x))
    (shapes rest) each)
    ∙ sym (append_assoc found (z ∷ []) (unlike (found ++ z ∷ []) (shapes rest)))
  where
    neither : (a b : Bool) → not (a || (b || false)) ≡ (if not b then not a else false)
    neither true true = refl
    neither true false = refl
    neither false true = refl
    neither false false = refl

    each : (x : Zone) → not (has_shape (found ++ z ∷ []) x) ≡ (if not (is_alike z x) then not (has_shape found x)
        else false)
    each x = ap not (list_any-append (λ (s : Zone). is_alike s x) found (z ∷ []))
        ∙ neither (has_shape found x) (is_alike z x)

pub shapes_left : (found : List Zone) (z : Zone) (rest : List Zone)
    → with_shape found z ++ unlike (with_shape found z) (shapes rest) ≡ found ++ unlike found (shapes (z ∷ rest))
shapes_left found z rest = by (has_shape found z) refl
  where
    by : (b : Bool) → has_shape found z ≡ b
        → with_shape found z ++ unlike (with_shape found z) (shapes rest) ≡ found ++ unlike found (shapes (z ∷ rest))
    by true e =
        ap (λ (t : Bool). (if t then found else found ++ z ∷ [])
        ++ unlike (if t then found else found ++ z ∷ []) (shapes rest)) e
        ∙ ap (λ (xs : List Zone). found ++ xs) (sym (known_shape found z rest e))
    by false e =
        ap (λ (t : Bool). (if t then found else found ++ z ∷ [])
        ++ unlike (if t then found else found ++ z ∷ []) (shapes rest)) e
        ∙ sym (new_shape found z rest e)

pub drop_past : (i : ℕ) (xs : List Zone) → length xs ≤ i → drop i xs ≡ []
drop_past zero [] l = refl
drop_past (suc i) [] l = refl
drop_past zero (x ∷ xs) l = absurd (omega arith)
drop_past (suc i) (x ∷ xs) l = drop_past i xs (omega arith)

pub all_gathered : (found zones : List Zone) (i : ℕ) → length zones ≤ i
    → found ++ unlike found (shapes (drop i zones)) ≡ shapes zones → found ≡ shapes zones
unfolding shapes
all_gathered found zones i l h =
    sym (append-nil found) ∙ sym (ap (λ (xs : List Zone). found ++ unlike found (shapes xs)) (drop_past i zones l)) ∙ h

pub unlike_none : (zones : List Zone) → unlike [] zones ≡ zones
unlike_none [] = refl
unlike_none (z ∷ zones) = ap (λ (xs : List Zone). z ∷ xs) (unlike_none zones)
