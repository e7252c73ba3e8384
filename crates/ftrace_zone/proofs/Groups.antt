-- Groups of 24 bytes, one after another
use Rattle.std.proofs.Common.{◌≡◌, ℕ, zero, suc, ◌+◌, ◌*◌, List, [], ◌∷◌, ◌++◌, take, drop, map, refl, sym, ap, ap₂}
use Rattle.std.proofs.Common.{◌∙◌, arith, add-one}
use Rattle.std.proofs.lemmas.List.{drop-drop, map-append}
use Rattle.zone_spec.specs.Ftrace.{groups}
use Rattle.ftrace_zone.specs.declared.Entry.{Entry}
use Rattle.ftrace_zone.specs.EntryBytes.{entry_bytes}

-- one group more
groups-suc : (n : ℕ) (xs : List ℕ) → groups (suc n) xs ≡ groups n xs ++ take 24 (drop (24 * n) xs) ∷ []
groups-suc zero xs = refl
groups-suc (suc n) xs =
    let further : 24 + 24 * n ≡ 24 * suc n = omega arith in
    ap (λ (gs : List (List ℕ)). take 24 xs ∷ gs) (groups-suc n (drop 24 xs)
    ∙ ap (λ (ys : List ℕ). groups n (drop 24 xs) ++ take 24 ys ∷ [])
    (drop-drop (24 * n) 24 xs ∙ ap (λ (k : ℕ). drop k xs) further))

pub groups-more : (entries : List Entry) (e : Entry) (log : List ℕ) (n first : ℕ)
    → map entry_bytes entries ≡ groups n (drop first log) → entry_bytes e ≡ take 24 (drop (first + 24 * n) log) →
    map entry_bytes (entries ++ e ∷ []) ≡ groups (n + 1) (drop first log)
groups-more entries e log n first so_far bytes =
    map-append entry_bytes entries (e ∷ [])
    ∙ ap₂ (λ (gs : List (List ℕ)) (b : List ℕ). gs ++ b ∷ []) so_far
    (bytes ∙ ap (λ (ys : List ℕ). take 24 ys) (sym (drop-drop (24 * n) first log)))
    ∙ sym (groups-suc n (drop first log)) ∙ ap (λ (k : ℕ). groups k (drop first log)) (sym (add-one n))
