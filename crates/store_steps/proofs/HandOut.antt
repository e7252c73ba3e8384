-- What is handed out, against the stores that come next
use Rattle.std.proofs.Common.{◌≡◌, ℕ, zero, suc, ◌+◌, ◌-◌, ◌<◌, ◌≤◌, List, [], ◌∷◌, length, take, drop, refl, sym, ap}
use Rattle.std.proofs.Common.{◌∙◌, arith, length-take, length-drop}
use Rattle.std.proofs.lemmas.List.{drop-drop}
use Rattle.std.specs.List.{AllByRecursion}
use Rattle.list_laws.proofs.Slices.{take-drop-take}
use Rattle.ring_laws.proofs.StoreBytes.{IsStore, all-take, byte_stores-all, stage_stores-all}
use Rattle.ring_laws.proofs.EveryParity.{word-bytes, part-bytes}
use Rattle.ring_laws.proofs.PartWords.{bytes-each}
use Rattle.zone_spec.specs.Zones.{IsValidZone}
use Rattle.zone_spec.specs.Parts.{AreBytes, Header, Block}
use Rattle.zone_spec.specs.Told.{Call, Append, Erase, Dump}
use Rattle.zone_spec.specs.declared.CallKind.{CallKind}
use Rattle.zone_spec.specs.declared.CallKind.TheVariants.{Append as AppendKind, Erase as EraseKind, Dump as DumpKind}
use Rattle.zone_spec.specs.Stores.{byte_stores}
use Rattle.zone_spec.specs.Stages.{ParityOf}
use Rattle.store_steps.specs.Calls.{call_of, line_of, last_of, front_of, leg_bytes, AreCallBytes}
use Rattle.store_steps.specs.declared.place.Leg.{Leg}
use Rattle.store_steps.specs.declared.place.Leg.TheVariants.{Erasure, Payload, Line, Body}
use Rattle.store_steps.specs.declared.place.Phase.{Phase}
use Rattle.store_steps.specs.declared.place.Phase.TheVariants.{ZeroStart, ZeroSize, Size, Start, First, FirstParity}
use Rattle.store_steps.specs.declared.place.Phase.TheVariants.{Second, SecondParity, Header as HeaderPhase, Finished}
use Rattle.store_steps.specs.Flying.{Flying, payload}
use Rattle.store_steps.specs.Phases.{first_len, second_len, first_run, second_run}
use Rattle.store_steps.specs.Machine.{stores_of, next_stores}
use Rattle.store_steps.proofs.PhaseStores.{part-byte_stores}

pub line_short : (kind : CallKind) (line body : List ℕ) → length line ≤ 36
    → length (line_of (call_of kind line body)) ≤ 36
unfolding line_of
line_short AppendKind line body h = omega arith
line_short EraseKind line body h = omega arith
line_short DumpKind line body h = h

pub call_of_bytes : (kind : CallKind) (line body : List ℕ) → AreBytes line → AreBytes body
    → AreCallBytes (call_of kind line body)
call_of_bytes AppendKind line body h k = k
call_of_bytes EraseKind line body h k = tt
call_of_bytes DumpKind line body h k = (h, k)

-- of no bytes it does not matter which they are
none : (n : ℕ) (xs ys : List ℕ) → n ≡ 0 → take n xs ≡ take n ys
none n xs ys e = ap (λ k. take k xs) e ∙ sym (ap (λ k. take k ys) e)

pub erasure_part : (cap : ℕ) (call : Call) (leg : Leg) (from n : ℕ) (xs : List ℕ) → leg ≡ Erasure
    → from + n ≤ length (leg_bytes cap call leg)
    → take n xs ≡ take n (drop from (leg_bytes cap call leg))
erasure_part cap call leg from n xs e h =
    let l : length (leg_bytes cap call leg) ≡ 0 = ap (λ k. length (leg_bytes cap call k)) e in
    none n xs (drop from (leg_bytes cap call leg)) (omega (arith, l))

pub line_part : (kind : CallKind) (line body : List ℕ) (from n : ℕ)
    → from + n ≤ length (line_of (call_of kind line body))
    → take n (drop from line) ≡ take n (drop from (line_of (call_of kind line body)))
unfolding line_of
line_part AppendKind line body from n h = none n (drop from line) (drop from []) (omega arith)
line_part EraseKind line body from n h = none n (drop from line) (drop from []) (omega arith)
line_part DumpKind line body from n h = refl

pub front_part : (kind : CallKind) (line body : List ℕ) (cap from n : ℕ)
    → from + n ≤ length (front_of cap (call_of kind line body))
    → take n (drop from body) ≡ take n (drop from (front_of cap (call_of kind line body)))
unfolding front_of
front_part AppendKind line body cap from n h = none n (drop from body) (drop from []) (omega arith)
front_part EraseKind line body cap from n h = none n (drop from body) (drop from []) (omega arith)
front_part DumpKind line body cap from n h =
    sym (take-drop-take n from (cap - length line) body (omega (arith, length-take (cap - length line) body)))

pub last_part : (kind : CallKind) (line body : List ℕ) (cap skip from n : ℕ)
    → (kind ≡ AppendKind → skip ≡ length body - cap) → from + n ≤ length (last_of cap (call_of kind line body))
    → take n (drop (skip + from) body) ≡ take n (drop from (last_of cap (call_of kind line body)))
unfolding last_of
last_part AppendKind line body cap skip from n e h =
    ap (λ k. take n (drop (k + from) body)) (e refl)
    ∙ sym (ap (take n) (drop-drop from (length body - cap) body))
last_part EraseKind line body cap skip from n e h = none n (drop (skip + from) body) (drop from []) (omega arith)
last_part DumpKind line body cap skip from n e h = none n (drop (skip + from) body) (drop from []) (omega arith)

pub last_fits : (kind : CallKind) (line body : List ℕ) (cap skip from n : ℕ)
    → (kind ≡ AppendKind → skip ≡ length body - cap) → skip ≤ length body
    → from + n ≤ length (last_of cap (call_of kind line body)) → skip + from ≤ length body
unfolding last_of
last_fits AppendKind line body cap skip from n e k h =
    omega (arith, e refl, length-drop (length body - cap) body)
last_fits EraseKind line body cap skip from n e k h = omega arith
last_fits DumpKind line body cap skip from n e k h = omega arith

-- the bytes of a leg are among those that are lent
pub erasure_none : (cap : ℕ) (call : Call) (leg : Leg) (m : ℕ) → leg ≡ Erasure → m ≤ length (leg_bytes cap call leg)
    → m ≡ 0
erasure_none cap call leg m e h =
    let l : length (leg_bytes cap call leg) ≡ 0 = ap (λ k. length (leg_bytes cap call k)) e in omega (arith, l)

pub line_within : (kind : CallKind) (line body : List ℕ) (m : ℕ) → m ≤ length (line_of (call_of kind line body))
    → m ≤ length line
unfolding line_of
line_within AppendKind line body m h = omega arith
line_within EraseKind line body m h = omega arith
line_within DumpKind line body m h = h

pub front_within : (kind : CallKind) (line body : List ℕ) (cap m : ℕ)
    → m ≤ length (front_of cap (call_of kind line body)) → m ≤ length body
unfolding front_of
front_within AppendKind line body cap m h = omega arith
front_within EraseKind line body cap m h = omega arith
front_within DumpKind line body cap m h = omega (arith, length-take (cap - length line) body)

pub last_within : (kind : CallKind) (line body : List ℕ) (cap skip from n : ℕ)
    → (kind ≡ AppendKind → skip ≡ length body - cap) → skip ≤ length body
    → from + n ≤ length (last_of cap (call_of kind line body)) → skip + from + n ≤ length body
unfolding last_of
last_within AppendKind line body cap skip from n e k h =
    omega (arith, e refl, length-drop (length body - cap) body)
last_within EraseKind line body cap skip from n e k h = omega arith
last_within DumpKind line body cap skip from n e k h = omega arith

-- of a run the next bytes
pub first_given : (f : Flying) (image : List ℕ) (n : ℕ) → f.place.phase ≡ First → f.place.number + n ≤ first_len f
    → byte_stores (12 + f.place.start + f.place.number) (take n (drop f.place.number (payload f)))
    ≡ next_stores f image n
first_given f image n e h = sym (
    ap (λ q. take n (drop f.place.number (stores_of f image q))) e
    ∙ part-byte_stores n f.place.number (12 + f.place.start) (first_run f)
    ∙ ap (byte_stores (12 + f.place.start + f.place.number))
    (take-drop-take n f.place.number (f.zone.cap - f.place.start) (payload f) (omega arith)))

pub second_given : (f : Flying) (image : List ℕ) (n : ℕ) → f.place.phase ≡ Second
    → f.place.number + n ≤ second_len f → 0 < n
    → byte_stores (12 + f.place.number) (take n (drop (first_len f + f.place.number) (payload f)))
    ≡ next_stores f image n
second_given f image n e h some =
    let room : f.zone.cap - f.place.start ≡ first_len f = omega arith in
    sym (
    ap (λ q. take n (drop f.place.number (stores_of f image q))) e
    ∙ part-byte_stores n f.place.number 12 (second_run f)
    ∙ ap (λ xs. byte_stores (12 + f.place.number) (take n xs))
    (drop-drop f.place.number (f.zone.cap - f.place.start) (payload f)
    ∙ ap (λ m. drop (m + f.place.number) (payload f)) room))

-- the bytes of each leg are bytes
pub no_bytes : AreBytes []
no_bytes = bytes-each [] tt

last_are : (cap : ℕ) (call : Call) → AreCallBytes call → AreBytes (last_of cap call)
unfolding last_of
last_are cap (Append body) h = (part-bytes (length body - cap) body h).1
last_are cap Erase h = no_bytes
last_are cap (Dump line body) h = no_bytes

line_are : (call : Call) → AreCallBytes call → AreBytes (line_of call)
unfolding line_of
line_are (Append body) h = no_bytes
line_are Erase h = no_bytes
line_are (Dump line body) h = h.0

front_are : (cap : ℕ) (call : Call) → AreCallBytes call → AreBytes (front_of cap call)
unfolding front_of
front_are cap (Append body) h = no_bytes
front_are cap Erase h = no_bytes
front_are cap (Dump line body) h = (part-bytes (cap - length line) body h.1).0

leg_are : (cap : ℕ) (call : Call) (leg : Leg) → AreCallBytes call → AreBytes (leg_bytes cap call leg)
leg_are cap call Erasure h = no_bytes
leg_are cap call Payload h = last_are cap call h
leg_are cap call Line h = line_are call h
leg_are cap call Body h = front_are cap call h

all-drop : {A : Type 0} (P : A → Type 0) (n : ℕ) (xs : List A) → AllByRecursion P xs → AllByRecursion P (drop n xs)
all-drop P zero xs h = h
all-drop P (suc n) [] h = tt
all-drop P (suc n) (x ∷ xs) h = all-drop P n xs h.1

stores_of-all : (f : Flying) (image : List ℕ) (p : Phase) → IsValidZone f.zone → AreCallBytes f.call → AreBytes image
    → AllByRecursion IsStore (stores_of f image p)
stores_of-all f image ZeroStart valid call h = (word-bytes f.zone.byte_order 0, tt)
stores_of-all f image ZeroSize valid call h = (word-bytes f.zone.byte_order 0, tt)
stores_of-all f image Size valid call h = (word-bytes f.zone.byte_order _, tt)
stores_of-all f image Start valid call h = (word-bytes f.zone.byte_order _, tt)
stores_of-all f image First valid call h =
    byte_stores-all (12 + f.place.start) (first_run f)
    (part-bytes (f.zone.cap - f.place.start) (payload f) (leg_are f.zone.cap f.call f.place.leg call)).0
stores_of-all f image FirstParity valid call h = stage_stores-all f.zone valid
    (ParityOf (Block f.place.block)) image h tt
stores_of-all f image Second valid call h =
    byte_stores-all 12 (second_run f)
    (part-bytes (f.zone.cap - f.place.start) (payload f) (leg_are f.zone.cap f.call f.place.leg call)).1
stores_of-all f image SecondParity valid call h = stage_stores-all f.zone valid
    (ParityOf (Block f.place.block)) image h tt
stores_of-all f image HeaderPhase valid call h = stage_stores-all f.zone valid (ParityOf Header) image h tt
stores_of-all f image Finished valid call h = tt

pub next_stores-all : (f : Flying) (image : List ℕ) (n : ℕ) → IsValidZone f.zone → AreCallBytes f.call → AreBytes image
    → AllByRecursion IsStore (next_stores f image n)
next_stores-all f image n valid call h =
    all-take IsStore n _ (all-drop IsStore f.place.number _ (stores_of-all f image f.place.phase valid call h))
