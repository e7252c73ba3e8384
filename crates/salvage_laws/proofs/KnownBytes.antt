-- Words with known bytes put in: what differs splits at the known bytes
use Rattle.std.proofs.Common.{◌≡◌, ℕ, suc, ◌+◌, ◌<◌, ◌==◌, if◌then◌else◌, List, [], ◌∷◌, length, drop, get_or, refl}
use Rattle.std.proofs.Common.{sym, ap, ◌∙◌, arith, Option, Some, None, eq-eqb}
use Rattle.std.specs.List.{AllByRecursion}
use Rattle.code_laws.proofs.Nearest.{distance_self}
use Rattle.code_spec.specs.Code.{IsWord, distance}
use Rattle.salvage_laws.specs.Known.{put_in}

differs : ℕ → ℕ → ℕ
differs a b = if a == b then 0 else 1

differs_self : (a : ℕ) → differs a a ≡ 0
unfolding differs
differs_self a = rw (eq-eqb a a refl) refl

-- the known bytes are bytes
abbrev pub AreKnown : List (Option ℕ) → Type 0
AreKnown [] = Unit {0}
AreKnown (None ∷ ks) = AreKnown ks
AreKnown (Some k ∷ ks) = (k < 256) × AreKnown ks

pub length-put_in : (ks : List (Option ℕ)) (w : List ℕ) → length (put_in ks w) ≡ length w
unfolding put_in
length-put_in [] w = refl
length-put_in (k ∷ ks) [] = refl
length-put_in (None ∷ ks) (b ∷ w) = ap suc (length-put_in ks w)
length-put_in (Some k ∷ ks) (b ∷ w) = ap suc (length-put_in ks w)

bytes-put_in : (ks : List (Option ℕ)) (w : List ℕ) → AreKnown ks → AllByRecursion (λ b. b < 256) w
    → AllByRecursion (λ b. b < 256) (put_in ks w)
unfolding put_in
bytes-put_in [] w k h = h
bytes-put_in (k ∷ ks) [] a h = tt
bytes-put_in (None ∷ ks) (b ∷ w) a h = (h.0, bytes-put_in ks w a h.1)
bytes-put_in (Some k ∷ ks) (b ∷ w) a h = (a.0, bytes-put_in ks w a.1 h.1)

pub word-put_in : (ks : List (Option ℕ)) (w : List ℕ) (n : ℕ) → AreKnown ks → IsWord n w → IsWord n (put_in ks w)
word-put_in ks w n a h = (length-put_in ks w ∙ h.0, bytes-put_in ks w a h.1)

-- a word that has the known bytes differs from another in the known bytes and in what the amended one differs
pub distance-put_in : (ks : List (Option ℕ)) (w c : List ℕ) → length w ≡ length c → put_in ks c ≡ c
    → distance w c ≡ distance w (put_in ks w) + distance (put_in ks w) c
unfolding put_in distance differs
distance-put_in [] w c l h = omega (arith, distance_self w)
distance-put_in (k ∷ ks) [] [] l h = refl
distance-put_in (k ∷ ks) [] (c ∷ cs) l h = absurd (omega arith)
distance-put_in (k ∷ ks) (w ∷ ws) [] l h = absurd (omega arith)
distance-put_in (None ∷ ks) (w ∷ ws) (c ∷ cs) l h =
    let rest : put_in ks cs ≡ cs = ap (drop 1) h in
    omega (arith, differs_self w, distance-put_in ks ws cs (omega arith) rest)
distance-put_in (Some k ∷ ks) (w ∷ ws) (c ∷ cs) l h =
    let rest : put_in ks cs ≡ cs = ap (drop 1) h in
    let head : k ≡ c = ap (λ (xs : List ℕ). get_or xs 0 0) h in
    let ih = distance-put_in ks ws cs (omega arith) rest in
    let e : differs k c ≡ 0 = ap (differs k) (sym head) ∙ differs_self k in
    let f : differs w k ≡ differs w c = ap (differs w) head in
    omega (arith, ih, e, f)
