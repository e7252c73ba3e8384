-- Words and runs are the same on any image, and parity on images that differ in parity alone
use Rattle.std.proofs.Common.{◌≡◌, ℕ, ◌+◌, ◌-◌, ◌<◌, ◌≤◌, List, [], length, take, drop, refl, sym, ap, ◌∙◌, arith, inl}
use Rattle.std.proofs.Common.{inr}
use Rattle.list_laws.proofs.Slices.{take-drop-take}
use Rattle.zone_spec.specs.declared.Zone.{Zone}
use Rattle.zone_spec.specs.Zones.{IsValidZone}
use Rattle.zone_spec.specs.Parts.{AreBytes, Part, Header, Block, part_bytes, part_at, part_len, part_parity_at}
use Rattle.zone_spec.specs.Stores.{put, after_stores, byte_stores}
use Rattle.zone_spec.specs.Stages.{ParityOf, stage_stores}
use Rattle.code_spec.specs.Code.{parity_of}
use Rattle.ring_laws.proofs.Images.{length-put, put-below, after_stores-byte_stores}
use Rattle.ring_laws.proofs.PartsLaw.{part_end, part_parity_at-number, slice_range-same}
use Rattle.ring_laws.proofs.StoreBytes.{after-bytes}
use Rattle.store_steps.specs.declared.place.Phase.{Phase}
use Rattle.store_steps.specs.declared.place.Phase.TheVariants.{ZeroStart, ZeroSize, Size, Start, First, FirstParity}
use Rattle.store_steps.specs.declared.place.Phase.TheVariants.{Second, SecondParity, Header as HeaderPhase, Finished}
use Rattle.store_steps.specs.Calls.{AreCallBytes}
use Rattle.store_steps.specs.Flying.{Flying}
use Rattle.store_steps.specs.Phases.{phase_len}
use Rattle.store_steps.specs.Machine.{stores_of, next_stores, IsParity, IsSameData}
use Rattle.store_steps.proofs.PhaseStores.{part-byte_stores}
use Rattle.store_steps.proofs.FlightSteps.{next_length}
use Rattle.store_steps.proofs.HandOut.{no_bytes, next_stores-all}

data_stores : (f : Flying) (a b : List ℕ) (p : Phase) → (IsParity p → ⊥) → stores_of f a p ≡ stores_of f b p
data_stores f a b ZeroStart h = refl
data_stores f a b ZeroSize h = refl
data_stores f a b Size h = refl
data_stores f a b Start h = refl
data_stores f a b First h = refl
data_stores f a b FirstParity h = absurd (h tt)
data_stores f a b Second h = refl
data_stores f a b SecondParity h = absurd (h tt)
data_stores f a b HeaderPhase h = absurd (h tt)
data_stores f a b Finished h = refl

pub data_next : (f : Flying) (a b : List ℕ) (n : ℕ) → (IsParity f.place.phase → ⊥)
    → next_stores f a n ≡ next_stores f b n
data_next f a b n h = ap (λ ss. take n (drop f.place.number ss)) (data_stores f a b f.place.phase h)

pub data_length : (f : Flying) (image : List ℕ) (n : ℕ) → (IsParity f.place.phase → ⊥)
    → f.place.number + n ≤ phase_len f f.place.phase → length (next_stores f image n) ≡ n
data_length f image n h ready = ap length (data_next f image [] n h) ∙ next_length f [] n no_bytes ready

-- a part lies before all parity
part_same : (z : Zone) (a b : List ℕ) (p : Part) → 0 < z.cap → IsSameData z a b → part_bytes z a p ≡ part_bytes z b p
unfolding part_bytes
part_same z a b p some same =
    let k : ℕ = part_at z p in
    let n : ℕ = (k + part_len z p) - k in
    elim (part_end z p some) [
      | inl within ↦ (let h : k + n ≤ 12 + z.cap = omega (arith, within) in
          sym (take-drop-take n k (12 + z.cap) a h) ∙ ap (λ xs. take n (drop k xs)) same
          ∙ take-drop-take n k (12 + z.cap) b h)
      | inr none ↦ (let e : n ≡ 0 = omega (arith, none) in
          ap (λ m. take m (drop k a)) e ∙ sym (ap (λ m. take m (drop k b)) e))
    ]

parity_same : (z : Zone) (a b : List ℕ) (p : Part) → 0 < z.cap → IsSameData z a b
    → stage_stores z (ParityOf p) a ≡ stage_stores z (ParityOf p) b
unfolding stage_stores
parity_same z a b p some same =
    ap (λ xs. byte_stores (part_parity_at z p) (parity_of z.parity xs)) (part_same z a b p some same)

stores_same : (f : Flying) (a b : List ℕ) (p : Phase) → 0 < f.zone.cap → IsSameData f.zone a b
    → stores_of f a p ≡ stores_of f b p
stores_same f a b ZeroStart some same = refl
stores_same f a b ZeroSize some same = refl
stores_same f a b Size some same = refl
stores_same f a b Start some same = refl
stores_same f a b First some same = refl
stores_same f a b FirstParity some same = parity_same f.zone a b (Block f.place.block) some same
stores_same f a b Second some same = refl
stores_same f a b SecondParity some same = parity_same f.zone a b (Block f.place.block) some same
stores_same f a b HeaderPhase some same = parity_same f.zone a b Header some same
stores_same f a b Finished some same = refl

pub next_same : (f : Flying) (a b : List ℕ) (n : ℕ) → 0 < f.zone.cap → IsSameData f.zone a b
    → next_stores f a n ≡ next_stores f b n
next_same f a b n some same = ap (λ ss. take n (drop f.place.number ss)) (stores_same f a b f.place.phase some same)

-- bytes put from a place on leave what is before it
front_stays : (image : List ℕ) (at m : ℕ) (bs : List ℕ) → m ≤ at → take m (put image at bs) ≡ take m image
front_stays image at m bs h =
    let none : m - 0 ≡ m = omega arith in
    ap (λ n. take n (put image at bs)) (sym none)
    ∙ slice_range-same (put image at bs) image 0 m (length-put image at bs)
    (λ i l k. put-below image at i bs (omega arith))
    ∙ ap (λ n. take n image) none

-- so stored parity leaves header and data
data_stays : (z : Zone) (now image : List ℕ) (k n : ℕ) (p : Part)
    → IsSameData z (after_stores now (take n (drop k (stage_stores z (ParityOf p) image)))) now
unfolding stage_stores
data_stays z now image k n p =
    let at : ℕ = part_parity_at z p in
    let par : List ℕ = parity_of z.parity (part_bytes z image p) in
    let bs : List ℕ = take n (drop k par) in
    let e : after_stores now (take n (drop k (byte_stores at par))) ≡ put now (at + k) bs =
    ap (after_stores now) (part-byte_stores n k at par) ∙ after_stores-byte_stores now (at + k) bs in
    ap (take (12 + z.cap)) e ∙ front_stays now (at + k) (12 + z.cap) bs (omega (arith, part_parity_at-number z p))

apart_in : (f : Flying) (now image : List ℕ) (n : ℕ) (p : Phase) → IsParity p
    → IsSameData f.zone (after_stores now (take n (drop f.place.number (stores_of f image p)))) now
apart_in f now image n ZeroStart h = absurd h
apart_in f now image n ZeroSize h = absurd h
apart_in f now image n Size h = absurd h
apart_in f now image n Start h = absurd h
apart_in f now image n First h = absurd h
apart_in f now image n FirstParity h = data_stays f.zone now image f.place.number n (Block f.place.block)
apart_in f now image n Second h = absurd h
apart_in f now image n SecondParity h = data_stays f.zone now image f.place.number n (Block f.place.block)
apart_in f now image n HeaderPhase h = data_stays f.zone now image f.place.number n Header
apart_in f now image n Finished h = absurd h

pub apart_next : (f : Flying) (now image : List ℕ) (n : ℕ) → IsParity f.place.phase
    → IsSameData f.zone (after_stores now (next_stores f image n)) now
apart_next f now image n h = apart_in f now image n f.place.phase h

-- and what is stored next is bytes, on an image of bytes
pub bytes_next : (f : Flying) (now image : List ℕ) (n : ℕ) → IsValidZone f.zone → AreCallBytes f.call → AreBytes image
    → AreBytes now → AreBytes (after_stores now (next_stores f image n))
bytes_next f now image n valid call bytes are =
    after-bytes now (next_stores f image n) are (next_stores-all f image n valid call bytes)
