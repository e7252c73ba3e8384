-- A number, and a flip, drawn behind others. For the loops of `draws.rt`.
use Rattle.std.proofs.Common.{◌≡◌, ℕ, ◌+◌, ◌-◌, List, [], ◌∷◌, ◌++◌, refl, sym}
use Rattle.std.specs.List.{range_with_len}
use Rattle.script_spec.specs.Generated.{draw, draw_over, drawn_number, draws, drawn_flip}
use Rattle.ram_generator.proofs.Over.{over_same, range_start}

pub draws_start : (n m x : ℕ) (none : List ℕ) → none ≡ []
    → draw_over (drawn_number m) none (range_with_len 0 (n - 0)) x ≡ draws n m x
unfolding draws
draws_start n m x none e =
    rw e (over_same (drawn_number m) [] (range_with_len 0 (n - 0)) (range_with_len 0 n) x (range_start n))

pub number_drawn : (m i x a y : ℕ) (old new : List ℕ) → (a, y) ≡ draw m x → new ≡ old ++ a ∷ []
    → (new, y) ≡ drawn_number m old i x
unfolding drawn_number
number_drawn m i x a y old new e same = rw (same, sym e) refl

pub flip_drawn : (place x a y : ℕ) (old new : List (ℕ × ℕ)) → (a, y) ≡ draw 255 x
    → new ≡ old ++ (place, 1 + a) ∷ [] → (new, y) ≡ drawn_flip old place x
unfolding drawn_flip
flip_drawn place x a y old new e same = rw (same, sym e) refl
