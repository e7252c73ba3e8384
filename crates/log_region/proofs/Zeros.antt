-- Zeros behind the header and the log make a zone whole. For `region`.
use Rattle.std.proofs.Common.{◌≡◌, ℕ, ◌+◌, ◌-◌, ◌<◌, ◌≤◌, List, ◌++◌, length, take, replicate, refl, ap, ◌∙◌, arith}
use Rattle.std.proofs.lemmas.List.{take_all, length-append}
use Rattle.std.specs.Int.{w32, to_le_bytes}
use Rattle.zone_spec.specs.Numbers.{plain_sig}
use Rattle.log_region.specs.Regions.{most_kept, kept, size_for, front_of, region_of}
use Rattle.log_region.proofs.GivenSizes.{has_room}

pub front_len : (log : List ℕ) → length (front_of log) ≡ 12 + length log
front_len log =
    let n : ℕ = length log in
    let sig : length (to_le_bytes w32 plain_sig) ≡ 4 = refl in
    let word : length (to_le_bytes w32 n) ≡ 4 = refl in
    omega (
      arith,
      sig,
      word,
      length-append (to_le_bytes w32 plain_sig ++ to_le_bytes w32 n ++ to_le_bytes w32 n) log,
      length-append (to_le_bytes w32 plain_sig ++ to_le_bytes w32 n) (to_le_bytes w32 n),
      length-append (to_le_bytes w32 plain_sig) (to_le_bytes w32 n),
    )

pub resized : (log : List ℕ) (size : ℕ) → 12 + length log ≤ size
    → take size (front_of log) ++ replicate {A = ℕ} (size - length (front_of log)) 0
    ≡ front_of log ++ replicate (size - (12 + length log)) 0
resized log size room =
    ap (λ xs. xs ++ replicate (size - length (front_of log)) 0)
    (take_all size (front_of log) (omega (arith, room, front_len log)))
    ∙ ap (λ n. front_of log ++ replicate (size - n) 0) (front_len log)

pub made : (log held items new : List ℕ) (size : ℕ) → length held ≤ most_kept → held ≡ kept log
    → size ≡ size_for (length held) → items ≡ front_of held
    → (len : ℕ) → len ≡ length items → new ≡ take size items ++ replicate (size - len) 0 → new ≡ region_of log
unfolding region_of
made log held items new size few held_is size_is items_is len len_is new_is =
    let room : 12 + length held < size_for (length held) = has_room (length held) (omega (arith, few)) in
    new_is ∙ ap (λ m. take size items ++ replicate (size - m) 0) len_is
    ∙ ap (λ xs. take size xs ++ replicate (size - length xs) 0) items_is
    ∙ resized held size (omega (arith, room, size_is))
    ∙ ap (λ s. front_of held ++ replicate (s - (12 + length held)) 0) size_is
    ∙ ap (λ xs. front_of xs ++ replicate (size_for (length xs) - (12 + length xs)) 0) held_is
