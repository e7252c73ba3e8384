-- Bytes that are escaped run by run
use Rattle.std.proofs.Common.{◌≡◌, ℕ, ◌+◌, ◌-◌, ◌≤◌, length, List, ◌++◌, take, drop, slice_range, refl, sym, ap, ap₂}
use Rattle.std.proofs.Common.{◌∙◌, arith, append_assoc, length-take-le, take-add, take_at, drop_at}
use Rattle.std.specs.Prelude.{flat_map}
use Rattle.std.proofs.lemmas.List.{take-append-drop, drop-take, take-take}
use Rattle.std.proofs.lemmas.List.Concat.{flat_map-append}
use Rattle.std.proofs.lemmas.Simd.{take_more_put_chunk}
use lib.Lanes.{put_chunk}
use Rattle.report_spec.specs.Escaped.{escaped_byte, escaped}
use Rattle.report_html.proofs.Texts.{escaped-is}

take-on : (n m : ℕ) (xs : List ℕ) → take (n + m) xs ≡ take n xs ++ take m (drop n xs)
take-on n m xs =
    sym (take-append-drop n (take (n + m) xs))
    ∙ ap₂ (λ (ys zs : List ℕ). ys ++ zs) (take-take n (n + m) xs (omega arith)) (drop-take n m xs)

-- a run more
pub run-next : (xs : List ℕ) (at end : ℕ) (front old new : List ℕ) → at ≤ end
    → old ≡ front ++ flat_map escaped_byte (take at xs) → new ≡ old ++ escaped (slice_range xs at end)
    → new ≡ front ++ flat_map escaped_byte (take end xs)
run-next xs at end front old new le was pushed =
    let run : List ℕ = take (end - at) (drop at xs) in
    let whole : take end xs ≡ take at xs ++ run =
    ap (λ (n : ℕ). take n xs) (let e : end ≡ at + (end - at) = omega (arith, le) in e) ∙ take-on at (end - at) xs in
    pushed
    ∙ ap₂ (λ (ys zs : List ℕ). ys ++ zs) was (escaped-is run)
    ∙ append_assoc front (flat_map escaped_byte (take at xs)) (flat_map escaped_byte run)
    ∙ ap (λ (ys : List ℕ). front ++ ys) (sym (ap (λ (ys : List ℕ). flat_map escaped_byte ys) whole
    ∙ flat_map-append escaped_byte (take at xs) run))

-- the front of a row that was stored at a place
pub row-stored : (room row : List ℕ) (at n : ℕ) {e : List ℕ} → n ≤ length row → at + length row ≤ length room
    → take n row ≡ e → take (at + n) (put_chunk at room row) ≡ take at room ++ e
row-stored room row at n few fits text =
    let front : length (take at room) ≡ at = length-take-le at room (omega (arith, fits)) in
    sym (take-take (at + n) (at + length row) (put_chunk at room row) (omega (arith, few)))
    ∙ ap (take (at + n)) (take_more_put_chunk at room row (at + length row) refl fits)
    ∙ take-add at n (take at room ++ row)
    ∙ ap₂ (λ (ys zs : List ℕ). ys ++ zs) (take_at (take at room) row at front)
    (ap (take n) (drop_at (take at room) row at front) ∙ text)
