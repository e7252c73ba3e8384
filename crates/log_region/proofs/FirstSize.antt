-- A loop that looks for the first item that passes a test. For `zone_size`.
use Rattle.std.proofs.Common.{◌≡◌, ℕ, ◌+◌, ◌<◌, ◌≤◌, Bool, true, false, if◌then◌else◌, List, ◌∷◌, length, drop, get_or}
use Rattle.std.proofs.Common.{Some, None, sym, ap, ◌∙◌}
use Rattle.std.specs.List.{find}
use Rattle.std.proofs.lemmas.List.{at_drop_more, at_drop_all}
use Rattle.std.proofs.lemmas.Bool.{cond-true, cond-false}

module _ {X : Type 0} (p : X → Bool) (xs : List X) (i : ℕ) where
  step : (x : X) → i < length xs → x ≡ get_or xs i x → find p (drop i xs)
      ≡ (if p x then Some x else find p (drop (i + 1) xs))
  step x h e = at_drop_more (find p) xs i x h ∙ ap (λ y. find p (y ∷ drop (i + 1) xs)) (sym e)

  pub find-here : (x : X) → i < length xs → x ≡ get_or xs i x → p x ≡ true → find p (drop i xs) ≡ find p xs
      → find p xs ≡ Some x
  find-here x h e t before = sym before ∙ step x h e ∙ cond-true (p x) (Some x) (find p (drop (i + 1) xs)) t

  pub find-past : (x : X) → i < length xs → x ≡ get_or xs i x → p x ≡ false → find p (drop i xs) ≡ find p xs
      → find p (drop (i + 1) xs) ≡ find p xs
  find-past x h e t before = sym (step x h e ∙ cond-false (p x) (Some x) (find p (drop (i + 1) xs)) t) ∙ before

  pub find-end : length xs ≤ i → find p (drop i xs) ≡ find p xs → find p xs ≡ None
  find-end h before = sym before ∙ at_drop_all (find p) xs i h
