-- What is known of the zones, from the last one on
use Rattle.std.proofs.Common.{◌≡◌, ℕ, ◌+◌, ◌<◌, ◌≤◌, Bool, List, [], ◌∷◌, ◌++◌, length, slice_get, get_or, set, refl}
use Rattle.std.proofs.Common.{sym, ap, ◌∙◌, arith, inl, inr, Some, length-append, length-set}
use Rattle.std.proofs.lemmas.Bool.{cases_lt}
use Rattle.std.proofs.lemmas.Option.{slice_get_within, slice_get-get_or}
use Rattle.circular_buffer.specs.Buffer.{Buffer}
use Rattle.circular_buffer.proofs.Places.{slice_get-set_same, slice_get-set_other, slice_get-append_left}
use Rattle.circular_buffer.proofs.Places.{slice_get-last}
use Rattle.ramoops.specs.declared.booting.Passed.{Passed}
use Rattle.ramoops.specs.declared.known.KnownZone.{KnownZone}
use Rattle.ramoops.specs.declared.zones.HeldZone.{HeldZone}
use Rattle.ramoops.specs.Parted.{parted, IsParted}

-- the zones whose lists are taken are known anew, the others as before
pub record IsPassedTo (passed : List Passed) (whole : Bool) (lists : List HeldZone) (old : List KnownZone)
    (left : List HeldZone) (new : List KnownZone) : Type 0 where
  pub within : length left ≤ length lists
  pub front : (i : ℕ) → i < length left → slice_get left i ≡ slice_get lists i
  pub len : length new ≡ length old
  pub before : (i : ℕ) → i < length left → slice_get new i ≡ slice_get old i
  pub behind : (i : ℕ) (p : Passed) (h : HeldZone) (k : KnownZone) → length left ≤ i → slice_get passed i ≡ Some p
      → slice_get lists i ≡ Some h → slice_get old i ≡ Some k
      → slice_get new i ≡ Some (parted p whole h.told k)

pub passed_none : (passed : List Passed) (whole : Bool) (lists : List HeldZone) (old : List KnownZone)
    → length passed ≡ length old → IsPassedTo passed whole lists old lists old
passed_none passed whole lists old len = record {
  within = omega arith;
  front = λ i b. refl;
  len = refl;
  before = λ i b. refl;
  behind = λ i p h k above ep eh ek. absurd (let a = slice_get_within lists i h eh in omega (arith, a, above));
}

-- one zone more
pub passed_next : (passed : List Passed) (whole : Bool) (lists : List HeldZone) (old : List KnownZone)
    (left rest : List HeldZone) (now new : List KnownZone) (n : ℕ) (zone : HeldZone) (told : Buffer ℕ)
    (k g : KnownZone) (d : Passed)
    → IsPassedTo passed whole lists old left now → length passed ≡ length old → length lists ≡ length old
    → left ≡ rest ++ zone ∷ [] → n ≡ length rest → k ≡ get_or now n k → told ≡ zone.told
    → g ≡ parted (get_or passed n d) whole told (get_or now n k) → new ≡ set now n g
    → IsPassedTo passed whole lists old rest new
passed_next passed whole lists old left rest now new n zone told k g d to lp ll el en ek et eg enew =
    let longer : length left ≡ length rest + 1 = ap length el ∙ length-append rest (zone ∷ []) in
    let below : n < length now = (let a = to.within in let b = to.len in omega (arith, a, b, longer, en, ll)) in
    let last : slice_get lists n ≡ Some zone = sym (to.front n (omega (arith, longer, en)))
    ∙ ap (λ (hs : List HeldZone). slice_get hs n) el ∙ slice_get-last rest zone n en in
    let known : slice_get old n ≡ Some (get_or now n k) = sym (to.before n (omega (arith, longer, en)))
    ∙ slice_get-get_or now n k below in
    record {
      within = (let a = to.within in omega (arith, a, longer));
      front = λ i b. sym (slice_get-append_left rest (zone ∷ []) i b)
          ∙ ap (λ (hs : List HeldZone). slice_get hs i) (sym el) ∙ to.front i (omega (arith, b, longer));
      len = ap length enew ∙ length-set now n g ∙ to.len;
      before = λ i b. ap (λ (ks : List KnownZone). slice_get ks i) enew
          ∙ slice_get-set_other now n i g (λ e. omega (arith, b, e, en)) ∙ to.before i (omega (arith, b, longer));
      behind = λ i p h q above ep eh eq. elim (cases_lt n i) [
        | inl l ↦ ap (λ (ks : List KnownZone). slice_get ks i) enew
            ∙ slice_get-set_other now n i g (λ e. omega (arith, l, e))
            ∙ to.behind i p h q (omega (arith, l, longer, en)) ep eh eq
        | inr m ↦ (let at : i ≡ n = omega (arith, above, m, en) in
            let hz : zone ≡ h = (let s : Some zone ≡ Some h = sym last ∙ ap (slice_get lists) (sym at) ∙ eh in cc) in
            let kq : get_or now n k ≡ q = (let s : Some (get_or now n k) ≡ Some q = sym known
            ∙ ap (slice_get old) (sym at) ∙ eq in cc) in
            let pd : get_or passed n d ≡ p = (let s : Some (get_or passed n d)
            ≡ Some p = sym (slice_get-get_or passed n d (let a = to.len in omega (arith, lp, below, a)))
            ∙ ap (slice_get passed) (sym at) ∙ ep in cc) in
            ap (λ (ks : List KnownZone). slice_get ks i) enew ∙ ap (slice_get (set now n g)) at
            ∙ slice_get-set_same now n g below
            ∙ ap Some (eg ∙ ap (λ (x : Passed). parted x whole told (get_or now n k)) pd
            ∙ ap (λ (t : Buffer ℕ). parted p whole t (get_or now n k)) (et ∙ ap (λ (x : HeldZone). x.told) hz)
            ∙ ap (parted p whole h.told) kq))
      ];
    }

-- all of them
pub passed_all : (passed : List Passed) (whole : Bool) (lists : List HeldZone) (old : List KnownZone)
    (left : List HeldZone) (new : List KnownZone) → IsPassedTo passed whole lists old left new → length left ≡ 0
    → IsParted passed whole lists old new
passed_all passed whole lists old left new to none = record
    { len = to.len; each = λ i p h k ep eh ek. to.behind i p h k (omega (arith, none)) ep eh ek }
