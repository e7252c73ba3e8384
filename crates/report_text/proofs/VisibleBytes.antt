-- Bytes in a visible form are visible
use Rattle.std.proofs.Common.{◌≡◌, ℕ, zero, suc, ◌+◌, ◌<◌, Bool, true, ◌&&◌, List, ◌++◌, refl, ap, sym, ◌∙◌, arith}
use Rattle.std.proofs.Common.{append_assoc}
use Rattle.std.specs.Prelude.{flat_map}
use Rattle.std.specs.List.{list_all, range_with_len}
use Rattle.std.proofs.lemmas.Bool.{and_parts}
use Rattle.std.proofs.lemmas.List.Folds.{list_all-append}
use Rattle.std.proofs.lemmas.List.Concat.{flat_map-append}
use Rattle.report_spec.specs.Visible.{is_visible, visible_byte, visible}

-- a test that holds of all numbers of a range
of-range : (p : ℕ → Bool) (a n : ℕ) → list_all p (range_with_len a n) ≡ true → (j : ℕ) → j < n → p (a + j) ≡ true
of-range p a zero e j h = absurd (omega (arith, h))
of-range p a (suc n) e zero h =
    ap p (let s : a + 0 ≡ a = omega arith in s) ∙ (and_parts (p a) (list_all p (range_with_len (a + 1) n)) e).0
of-range p a (suc n) e (suc j) h =
    ap p (let s : a + suc j ≡ a + 1 + j = omega arith in s)
    ∙ of-range p (a + 1) n (and_parts (p a) (list_all p (range_with_len (a + 1) n)) e).1 j (omega (arith, h))

visible-one : (b : ℕ) → b < 256 → list_all is_visible (visible_byte b) ≡ true
visible-one b h =
    ap (λ (k : ℕ). list_all is_visible (visible_byte k)) (let s : b ≡ 0 + b = omega arith in s)
    ∙ of-range (λ k. list_all is_visible (visible_byte k)) 0 256 refl b h

-- one byte more
pub visible-more : (old new : List ℕ) (b : ℕ) → b < 256 → list_all is_visible old ≡ true
    → new ≡ old ++ visible_byte b → list_all is_visible new ≡ true
visible-more old new b h was e =
    ap (list_all is_visible) e ∙ list_all-append is_visible old (visible_byte b)
    ∙ ap (λ (t : Bool). t && list_all is_visible (visible_byte b)) was ∙ visible-one b h

pub visible-is : (bytes : List ℕ) → visible bytes ≡ flat_map visible_byte bytes
unfolding visible
visible-is bytes = refl

pub visible-append : (xs ys : List ℕ) → visible (xs ++ ys) ≡ visible xs ++ visible ys
unfolding visible
visible-append xs ys = flat_map-append visible_byte xs ys

-- what is written in two parts
pub written-twice : (old mid new xs ys : List ℕ) → mid ≡ old ++ visible xs → new ≡ mid ++ visible ys
    → new ≡ old ++ visible (xs ++ ys)
written-twice old mid new xs ys e f =
    f ∙ ap (λ (zs : List ℕ). zs ++ visible ys) e ∙ append_assoc old (visible xs) (visible ys)
    ∙ ap (λ (zs : List ℕ). old ++ zs) (sym (visible-append xs ys))
