-- Bytes up to a zero
use Rattle.std.proofs.Common.{◌≡◌, ℕ, ◌==◌, List, length, take, refl, ap, sym, ◌∙◌, Some, None, inl, inr}
use Rattle.std.specs.Prelude.{position}
use Rattle.std.specs.List.{before_first, position_or_len}
use Rattle.std.proofs.lemmas.Bool.{lt-ltb, le-ltb, cases_lt}
use Rattle.std.proofs.lemmas.List.{take_all}

pub before_place : (bytes : List ℕ) (len : ℕ) → Some len ≡ position (λ b. b == 0) bytes
    → take len bytes ≡ before_first (λ b. b == 0) bytes
before_place bytes len e =
    elim (cases_lt (position_or_len (λ b. b == 0) bytes) (length bytes)) [
      | inl w ↦ (let g : Some len ≡ Some (position_or_len (λ b. b == 0) bytes) = e
          ∙ rw (lt-ltb (position_or_len (λ b. b == 0) bytes) (length bytes) w) refl in
          let h : len ≡ position_or_len (λ b. b == 0) bytes = cc in ap (λ n. take n bytes) h)
      | inr w ↦ (let g : Some len ≡ None = e
          ∙ rw (le-ltb (position_or_len (λ b. b == 0) bytes) (length bytes) w) refl in absurd (cc))
    ]

pub no_place : (bytes : List ℕ) → None ≡ position (λ b. b == 0) bytes
    → bytes ≡ before_first (λ b. b == 0) bytes
no_place bytes e =
    elim (cases_lt (position_or_len (λ b. b == 0) bytes) (length bytes)) [
      | inl w ↦ (let g : None ≡ Some (position_or_len (λ b. b == 0) bytes) = e
          ∙ rw (lt-ltb (position_or_len (λ b. b == 0) bytes) (length bytes) w) refl in absurd (cc))
      | inr w ↦ sym (take_all (position_or_len (λ b. b == 0) bytes) bytes w)
    ]
