-- Stores of a flight, and the stores that are then left
use Rattle.std.proofs.Common.{◌≡◌, ℕ, ◌+◌, ◌<◌, ◌≤◌, List, [], ◌++◌, length, take, drop, refl, sym, ap, ◌∙◌, subst}
use Rattle.std.proofs.Common.{arith, inl, inr, ◌↔◌, append_assoc, length-append, length-drop}
use Rattle.std.specs.List.{sum_by}
use Rattle.zone_spec.specs.declared.Zone.{Zone}
use Rattle.zone_spec.specs.Told.{Call}
use Rattle.zone_spec.specs.Stores.{Store, after_stores}
use Rattle.zone_spec.specs.Stages.{stores_in_turn, stage_count}
use Rattle.zone_spec.specs.Reading.{IsRing}
use Rattle.zone_spec.specs.Calls.{call_stores, call_stages, IsUnderway}
use Rattle.ring_laws.proofs.Images.{after_stores-append}
use Rattle.std.proofs.lemmas.List.{take-append-drop, drop-drop, length-take-le}
use Rattle.store_steps.proofs.StoresLeft.{length-stores_of}
use Rattle.store_steps.proofs.ParityBytes.{parity_stays}
use Rattle.zone_spec.specs.Parts.{AreBytes, Header, Block, standing_words}
use Rattle.store_steps.specs.declared.place.Phase.{Phase}
use Rattle.store_steps.specs.declared.place.Phase.TheVariants.{ZeroStart, ZeroSize, Size, Start, First, FirstParity}
use Rattle.store_steps.specs.declared.place.Phase.TheVariants.{Second, SecondParity, Header as HeaderPhase, Finished}
use Rattle.store_steps.specs.Flying.{Flying, IsSameCall}
use Rattle.store_steps.specs.Phases.{phase_len, IsFinished, IsSound, IsPlaced, IsWithin}
use Rattle.store_steps.specs.Machine.{stores_of, next_stores, behind, stores_left, count_left, StandsFor, IsSettled}
use Rattle.store_steps.specs.Machine.{IsKept}
use Rattle.store_steps.specs.Calls.{IsOpenFor}
use Rattle.store_steps.specs.Counts.{total_of}

pub underway_begins : (z : Zone) (call : Call) (image : List ℕ) (left : List Store) → left ≡ call_stores z call image
    → IsUnderway z call image image 0 left
unfolding after_stores
underway_begins z call image left e = record { done = []; whole = sym e; image = refl; count = refl }

-- the flight n stores later in its phase
abbrev pub later_by : ℕ → Flying → Flying
later_by n f = record f { place = record f.place { number = f.place.number + n }; made = f.made + n }

moved_stores : (n : ℕ) (f : Flying) (image : List ℕ) (p : Phase)
    → stores_of (later_by n f) image p ≡ stores_of f image p
moved_stores n f image ZeroStart = refl
moved_stores n f image ZeroSize = refl
moved_stores n f image Size = refl
moved_stores n f image Start = refl
moved_stores n f image First = refl
moved_stores n f image FirstParity = refl
moved_stores n f image Second = refl
moved_stores n f image SecondParity = refl
moved_stores n f image HeaderPhase = refl
moved_stores n f image Finished = refl

-- after some stores of a phase all of them are the same
stores_stay : (f : Flying) (image : List ℕ) (k n : ℕ) (p : Phase) → 0 < f.zone.cap
    → stores_of f (after_stores image (take n (drop k (stores_of f image p)))) p ≡ stores_of f image p
stores_stay f image k n ZeroStart some = refl
stores_stay f image k n ZeroSize some = refl
stores_stay f image k n Size some = refl
stores_stay f image k n Start some = refl
stores_stay f image k n First some = refl
stores_stay f image k n FirstParity some = parity_stays f.zone image k n (Block f.place.block) some
stores_stay f image k n Second some = refl
stores_stay f image k n SecondParity some = parity_stays f.zone image k n (Block f.place.block) some
stores_stay f image k n HeaderPhase some = parity_stays f.zone image k n Header some
stores_stay f image k n Finished some = refl

moved_behind : (n : ℕ) (f : Flying) (p : Phase) → behind (later_by n f) p ≡ behind f p
moved_behind n f ZeroStart = refl
moved_behind n f ZeroSize = refl
moved_behind n f Size = refl
moved_behind n f Start = refl
moved_behind n f First = refl
moved_behind n f FirstParity = refl
moved_behind n f Second = refl
moved_behind n f SecondParity = refl
moved_behind n f HeaderPhase = refl
moved_behind n f Finished = refl

moved_len : (n : ℕ) (f : Flying) (p : Phase) → phase_len (later_by n f) p ≡ phase_len f p
moved_len n f ZeroStart = refl
moved_len n f ZeroSize = refl
moved_len n f Size = refl
moved_len n f Start = refl
moved_len n f First = refl
moved_len n f FirstParity = refl
moved_len n f Second = refl
moved_len n f SecondParity = refl
moved_len n f HeaderPhase = refl
moved_len n f Finished = refl

-- so many stores are those of the phase
pub next_length : (f : Flying) (image : List ℕ) (n : ℕ) → AreBytes image
    → f.place.number + n ≤ phase_len f f.place.phase → length (next_stores f image n) ≡ n
next_length f image n bytes h =
    let all : List Store = stores_of f image f.place.phase in
    length-take-le n (drop f.place.number all)
    (omega (arith, length-drop f.place.number all, length-stores_of f image f.place.phase bytes))

pub left_later : (n : ℕ) (f : Flying) (image : List ℕ) → 0 < f.zone.cap
    → stores_left f image
    ≡ next_stores f image n ++ stores_left (later_by n f) (after_stores image (next_stores f image n))
unfolding stores_left
left_later n f image some =
    let k : ℕ = f.place.number in
    let p : Phase = f.place.phase in
    let all : List Store = stores_of f image p in
    let next : List Store = take n (drop k all) in
    let rest : List Store = drop (k + n) all in
    let split : drop k all ≡ next ++ rest =
    sym (take-append-drop n (drop k all)) ∙ ap (λ ss. next ++ ss) (drop-drop n k all) in
    ap (λ ss. ss ++ stores_in_turn f.zone (behind f p) (after_stores image ss)) split
    ∙ append_assoc next rest (stores_in_turn f.zone (behind f p) (after_stores image (next ++ rest)))
    ∙ ap (λ x. next ++ (rest ++ stores_in_turn f.zone (behind f p) x)) (after_stores-append image next rest)
    ∙ ap (λ gs. next ++ (rest ++ stores_in_turn f.zone gs (after_stores (after_stores image next) rest)))
    (sym (moved_behind n f p))
    ∙ ap (λ ss. next ++ (drop (k + n) ss ++ stores_in_turn f.zone (behind (later_by n f) p)
    (after_stores (after_stores image next) (drop (k + n) ss))))
    (sym (moved_stores n f (after_stores image next) p ∙ stores_stay f image k n p some))

underway_later : (z : Zone) (call : Call) (before now : List ℕ) (made : ℕ) (ss left : List Store)
    → IsUnderway z call before now made (ss ++ left)
    → IsUnderway z call before (after_stores now ss) (made + length ss) left
underway_later z call before now made ss left u = record {
  done = u.done ++ ss;
  whole = u.whole ∙ sym (append_assoc u.done ss left);
  image = ap (λ x. after_stores x ss) u.image ∙ sym (after_stores-append before u.done ss);
  count = omega (arith, u.count, length-append u.done ss);
}

-- n stores fewer are left
pub count_later : (n : ℕ) (f : Flying) → f.place.number + n ≤ phase_len f f.place.phase
    → count_left (later_by n f) + n ≡ count_left f
count_later n f h =
    let p : Phase = f.place.phase in
    let l : phase_len (later_by n f) p ≡ phase_len f p = moved_len n f p in
    let b : behind (later_by n f) p ≡ behind f p = moved_behind n f p in
    rw b (omega (arith, l))

pub total_same : {f g : Flying} → IsSameCall f g → total_of g ≡ total_of f
total_same {f} {g} same =
    ap (λ z. sum_by (stage_count z) (call_stages z g.words g.call)) same.zone
    ∙ ap (λ w. sum_by (stage_count f.zone) (call_stages f.zone w g.call)) same.words
    ∙ ap (λ c. sum_by (stage_count f.zone) (call_stages f.zone f.words c)) same.call

-- after the stores, whatever phase was then entered
pub stands_later : (f h : Flying) (n : ℕ) (old new before : List ℕ) → 0 < f.zone.cap
    → length (next_stores f old n) ≡ n → new ≡ after_stores old (next_stores f old n)
    → AreBytes new → IsSettled (later_by n f) h → StandsFor f old before → StandsFor h new before
stands_later f h n old new before some count new_is bytes settled stands =
    let next : List Store = next_stores f old n in
    let g : Flying = later_by n f in
    let u : IsUnderway f.zone f.call before (after_stores old next) (f.made + length next)
    (stores_left g (after_stores old next)) =
    underway_later f.zone f.call before old f.made next (stores_left g (after_stores old next))
    (subst (IsUnderway f.zone f.call before old f.made) (left_later n f old some) stands.underway) in
    let v : IsUnderway f.zone f.call before new (f.made + length next) (stores_left g new) =
    subst (λ x. IsUnderway f.zone f.call before x (f.made + length next) (stores_left g x)) (sym new_is) u in
    let c : IsUnderway f.zone f.call before new (f.made + n) (stores_left g new) =
    subst (λ m. IsUnderway f.zone f.call before new (f.made + m) (stores_left g new)) count v in
    let w : IsUnderway f.zone f.call before new (f.made + n) (stores_left h new) =
    subst (IsUnderway f.zone f.call before new (f.made + n)) (sym (settled.left new bytes)) c in
    record {
      words = ap (λ (y : Zone). standing_words y before) settled.same.zone ∙ stands.words ∙ sym settled.same.words;
      underway =
          subst (λ m. IsUnderway h.zone h.call before new m (stores_left h new)) (sym settled.made)
          (subst (λ z. IsUnderway z h.call before new (f.made + n) (stores_left h new)) (sym settled.same.zone)
          (subst (λ k. IsUnderway f.zone k before new (f.made + n) (stores_left h new)) (sym settled.same.call) w));
      total =
          total_same settled.same ∙ stands.total
          ∙ ap (λ z. length (call_stores z f.call before)) (sym settled.same.zone)
          ∙ ap (λ k. length (call_stores h.zone k before)) (sym settled.same.call);
    }

within_next : (n : ℕ) (f : Flying) (p : Phase) → IsWithin f p → IsWithin (later_by n f) p
within_next n f ZeroStart w = w
within_next n f ZeroSize w = w
within_next n f Size w = w
within_next n f Start w = w
within_next n f First w = w
within_next n f FirstParity w = w
within_next n f Second w = w
within_next n f SecondParity w = w
within_next n f HeaderPhase w = w
within_next n f Finished w = w

none_left : (f : Flying) → IsFinished f → count_left f ≡ 0
none_left f e =
    let l : phase_len f f.place.phase ≡ 0 = ap (phase_len f) e in
    let b : sum_by (stage_count f.zone) (behind f f.place.phase) ≡ 0 =
    ap (λ p. sum_by (stage_count f.zone) (behind f p)) e in
    omega (arith, l, b)

-- the flight is at its end where all stores are made
pub ends : (f : Flying) → IsKept f → IsFinished f ↔ (f.made ≡ total_of f)
ends f kept = (
  λ e. omega (arith, kept.counted, none_left f e),
  λ e. elim kept.ready [
    | inl done ↦ done
    | inr h ↦ absurd (omega (arith, kept.counted, e, h))
  ],
)

pub is_ready : (f : Flying) → IsKept f → f.made < total_of f → f.place.number < phase_len f f.place.phase
is_ready f kept h = elim kept.ready [
  | inl done ↦ absurd (let e : f.made ≡ total_of f = (ends f kept).0 done in omega (arith, e))
  | inr l ↦ l
]

pub kept_later : (f g : Flying) (n : ℕ) → IsKept f
    → f.place.number + n ≤ phase_len f f.place.phase → IsSound g → (IsPlaced f → IsPlaced g)
    → IsSettled (later_by n f) g → IsKept g
kept_later f g n kept h sound placed settled =
    let same : IsSameCall f g = record {
      zone = settled.same.zone;
      words = settled.same.words;
      call = settled.same.call;
    } in
    record {
      sound = sound;
      placed = placed kept.placed;
      ring = subst (λ w. IsRing w g.zone.cap) (sym same.words)
          (subst (λ z. IsRing f.words z.cap) (sym same.zone) kept.ring);
      is_open = subst (λ c. IsOpenFor c g.words g.zone.cap) (sym same.call)
          (subst (λ w. IsOpenFor f.call w g.zone.cap) (sym same.words)
          (subst (λ z. IsOpenFor f.call f.words z.cap) (sym same.zone) kept.is_open));
      ready = settled.ready;
      counted = omega (arith, settled.made, settled.count, count_later n f h, kept.counted, total_same same);
      small = omega (arith, kept.small, total_same same);
    }
