-- Bytes that a source gave in two parts.
use Rattle.std.proofs.Common.{◌≡◌, ℕ, ◌<◌, List, [], ◌++◌, append-nil, refl, ◌∙◌, length, append_assoc, arith, Option, Some, None, IfSome}
use Rattle.std.proofs.Common.{length-append, sym, ap}
use Rattle.std.specs.Io.KnownBytes.{Consumes, IsAtEnd}

pub consumed : (a b c : Option (List ℕ)) (xs ys : List ℕ) → Consumes a b xs → Consumes b c ys → Consumes a c (xs ++ ys)
consumed None b c xs ys h k = tt
consumed (Some a) None c xs ys h k = absurd h
consumed (Some a) (Some b) None xs ys h k = absurd k
consumed (Some a) (Some b) (Some c) xs ys h k = rw (h, k) (sym (append_assoc xs ys c))

pub longer : (a b : Option (List ℕ)) (xs : List ℕ) (n : ℕ) → Consumes a b xs → n < length xs
    → IfSome a (λ bs. n < length bs)
longer None b xs n h l = tt
longer (Some a) None xs n h l = absurd h
longer (Some a) (Some b) xs n h l = omega (arith, length-append xs b, ap length h)

pub none_consumed : (a : Option (List ℕ)) → Consumes a a []
none_consumed None = tt
none_consumed (Some a) = refl

-- where nothing is left, all was given
pub all_given : (a b : Option (List ℕ)) (xs : List ℕ) → Consumes a b xs → IsAtEnd b → IfSome a (λ bs. xs ≡ bs)
all_given None b xs h e = tt
all_given (Some a) None xs h e = absurd h
all_given (Some a) (Some b) xs h e = sym (h ∙ ap (λ ys. xs ++ ys) e ∙ append-nil xs)
