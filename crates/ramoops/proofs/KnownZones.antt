-- What is known of so many zones, by a list that may end before them
use Rattle.std.proofs.Common.{◌≡◌, ℕ, zero, suc, ◌+◌, ◌-◌, ◌<◌, ◌≤◌, List, [], ◌∷◌, ◌++◌, length, replicate, slice_get}
use Rattle.std.proofs.Common.{refl, sym, ap, ◌∙◌, arith, Some, append_assoc, append-nil, length-append}
use Rattle.std.proofs.lemmas.List.{length-replicate}
use Rattle.std.proofs.lemmas.Option.{slice_get_within}
use Rattle.ramoops.specs.declared.known.KnownZone.{KnownZone}
use Rattle.ramoops.specs.OffSeen.{unknown, known_or, known_all, AreUnknown}

pub all_len : (count : ℕ) (known : List KnownZone) → length known ≤ count → length (known_all count known) ≡ count
unfolding known_all
all_len count known within =
    (let a = length-append known (replicate (count - length known) unknown) in
    let b = length-replicate (count - length known) unknown in omega (arith, a, b, within))

-- where each is listed
pub all_listed : (count : ℕ) (known : List KnownZone) → length known ≡ count → known_all count known ≡ known
unfolding known_all
all_listed count known all =
    let none : count - length known ≡ 0 = omega (arith, all) in
    ap (λ (n : ℕ). known ++ replicate n unknown) none ∙ append-nil known

-- one more is listed
pub all_more : (count : ℕ) (known : List KnownZone) → length known < count
    → known_all count (known ++ unknown ∷ []) ≡ known_all count known
unfolding known_all
all_more count known below =
    let one : suc (count - length (known ++ unknown ∷ [])) ≡ count - length known =
    (let a = length-append known (unknown ∷ []) in omega (arith, a, below)) in
    append_assoc known (unknown ∷ []) (replicate (count - length (known ++ unknown ∷ [])) unknown)
    ∙ ap (λ (n : ℕ). known ++ replicate n unknown) one

at_front : (known : List KnownZone) (n i : ℕ) → i < length known + n
    → slice_get (known ++ replicate n unknown) i ≡ Some (known_or (slice_get known i))
at_front [] zero i below = absurd (omega (arith, below))
at_front [] (suc n) zero below = refl
at_front [] (suc n) (suc i) below = at_front [] n i (omega (arith, below))
at_front (k ∷ ks) n zero below = refl
at_front (k ∷ ks) n (suc i) below = at_front ks n i (omega (arith, below))

pub all_at : (count : ℕ) (known : List KnownZone) (i : ℕ) → i < count
    → slice_get (known_all count known) i ≡ Some (known_or (slice_get known i))
unfolding known_all
all_at count known i below = at_front known (count - length known) i (omega (arith, below))

-- where none is listed
pub none_listed : (count : ℕ) (known : List KnownZone) → known ≡ [] → AreUnknown (known_all count known)
none_listed count known none i k e =
    let below : i < count = (let a = slice_get_within (known_all count known) i k e in
    let n = ap (length {A = KnownZone}) none in
    let b = all_len count known (omega (arith, n)) in omega (arith, a, b)) in
    let is : Some (known_or (slice_get known i)) ≡ Some k = sym (all_at count known i below) ∙ e in
    let same : unknown ≡ k = (let g : Some unknown ≡ Some k =
    ap (λ (ks : List KnownZone). Some (known_or (slice_get ks i))) (sym none) ∙ is in cc) in
    (ap (λ (x : KnownZone). x.told) (sym same), ap (λ (x : KnownZone). x.cut) (sym same))
