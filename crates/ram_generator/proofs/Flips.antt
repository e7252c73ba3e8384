-- Flips made one behind another. `make_flip` and `make_damage` cite them.
use Rattle.std.proofs.Common.{◌≡◌, ℕ, ◌+◌, ◌<◌, ◌≤◌, true, false, nat_lt, List, [], length, drop, get_or, fold, refl}
use Rattle.std.proofs.Common.{sym, ap, ◌∙◌, arith, slice_index, bit_xor}
use Rattle.std.proofs.lemmas.Bool.{lt-ltb, le-ltb}
use Rattle.std.proofs.lemmas.List.{length-set}
use Rattle.ramoops_layout.proofs.LaidOut.{drop_next}
use Rattle.zone_spec.specs.declared.Zone.{Zone}
use Rattle.machine_spec.specs.States.{OffState, Off}
use Rattle.machine_spec.specs.Off.{flipped}
use Rattle.ramoops.specs.OffSeen.{OffSeen, StandsOff}
use Rattle.script_spec.specs.Generated.{Generated, with_flip}
use Rattle.ram_generator.specs.Damage.{IsFlipped, IsDamaged, flipped_to}
use Rattle.ram_generator.proofs.Over.{drop_all}

flip_within : (layout : List Zone) (g : Generated) (s : OffState) (place mask : ℕ) → g.session ≡ Off s
    → place < length s.image → with_flip layout g (place, mask) ≡ flipped_to g (flipped s place mask) 1
flip_within layout g s place mask e lt = let t : nat_lt place (length s.image) ≡ true =
    lt-ltb place (length s.image) lt in rw (e, t) refl

flip_beyond : (layout : List Zone) (g : Generated) (s : OffState) (place mask : ℕ) → g.session ≡ Off s
    → length s.image ≤ place → with_flip layout g (place, mask) ≡ flipped_to g s 1
flip_beyond layout g s place mask e le = let t : nat_lt place (length s.image) ≡ false =
    le-ltb place (length s.image) le in rw (e, t) refl

pub flip_made : (old new : OffSeen) (place mask : ℕ) → place < old.mem
    → ((layout : List Zone) (mem : ℕ) (s : OffState) → StandsOff layout mem old s
    → StandsOff layout mem new (flipped s place mask))
    → (layout : List Zone) (mem : ℕ) (g : Generated) (s : OffState) → g.session ≡ Off s → StandsOff layout mem old s
    → length s.image ≡ mem → IsFlipped layout mem g (place, mask) new
flip_made old new place mask within flips layout mem g s e stands size = record {
  next = flipped s place mask;
  made = flip_within layout g s place mask e (let m = stands.same_mem in omega (arith, within, m, size));
  stands = flips layout mem s stands;
  size = length-set s.image place (bit_xor (slice_index s.image place) mask) ∙ size;
}

pub flip_refused : (old new : OffSeen) (place mask : ℕ) → old.mem ≤ place → new ≡ old
    → (layout : List Zone) (mem : ℕ) (g : Generated) (s : OffState) → g.session ≡ Off s → StandsOff layout mem old s
    → length s.image ≡ mem → IsFlipped layout mem g (place, mask) new
flip_refused old new place mask beyond same layout mem g s e stands size = record {
  next = s;
  made = flip_beyond layout g s place mask e (let m = stands.same_mem in omega (arith, beyond, m, size));
  stands = rw same stands;
  size = size;
}

-- some flips are made, and these are left
pub record IsUnderWay (layout : List Zone) (mem : ℕ) (g : Generated) (flips : List (ℕ × ℕ)) (i : ℕ)
    (v : OffSeen) : Type 0 where
  pub now : OffState
  pub made : fold (with_flip layout) g flips ≡ fold (with_flip layout) (flipped_to g now i) (drop i flips)
  pub stands : StandsOff layout mem v now
  pub size : length now.image ≡ mem

abbrev pub AreUnderWay : OffSeen → List (ℕ × ℕ) → ℕ → OffSeen → Type 0
AreUnderWay old flips i now = (layout : List Zone) (mem : ℕ) (g : Generated) (s : OffState) → g.session ≡ Off s
    → StandsOff layout mem old s → length s.image ≡ mem → IsUnderWay layout mem g flips i now

pub flips_start : (old : OffSeen) (flips : List (ℕ × ℕ)) → AreUnderWay old flips 0 old
flips_start old flips layout mem g s e stands size = record {
  now = s;
  made = (let none : g.flips + 0 ≡ g.flips = omega arith in let same : flipped_to g s 0 ≡ g = rw (none, sym e) refl in
      rw same refl);
  stands = stands;
  size = size;
}

pub flips_more : (old now new : OffSeen) (flips : List (ℕ × ℕ)) (i : ℕ) (flip d : ℕ × ℕ) → i < length flips
    → flip ≡ get_or flips i d
    → ((layout : List Zone) (mem : ℕ) (g : Generated) (s : OffState) → g.session ≡ Off s → StandsOff layout mem now s
    → length s.image ≡ mem → IsFlipped layout mem g flip new)
    → AreUnderWay old flips i now → AreUnderWay old flips (i + 1) new
flips_more old now new flips i flip d lt same one so_far layout mem g s e stands size =
    let a = so_far layout mem g s e stands size in
    let b = one layout mem (flipped_to g a.now i) a.now refl a.stands a.size in
    let sum : g.flips + i + 1 ≡ g.flips + (i + 1) = omega arith in
    let next : with_flip layout (flipped_to g a.now i) (get_or flips i d) ≡ flipped_to g b.next (i + 1) =
    rw (sym same, sym sum) b.made in
    let rest : List (ℕ × ℕ) = drop (i + 1) flips in
    record {
      now = b.next;
      made = a.made ∙ (ap (fold (with_flip layout) (flipped_to g a.now i)) (drop_next flips i d lt)
          ∙ ap (λ (h : Generated). fold (with_flip layout) h rest) next);
      stands = b.stands;
      size = b.size;
    }

pub flips_end : (old now : OffSeen) (flips : List (ℕ × ℕ)) (i : ℕ) → i ≡ length flips → AreUnderWay old flips i now
    → (layout : List Zone) (mem : ℕ) (g : Generated) (s : OffState) → g.session ≡ Off s → StandsOff layout mem old s
    → length s.image ≡ mem → IsDamaged layout mem g flips now
flips_end old now flips i end so_far layout mem g s e stands size =
    let a = so_far layout mem g s e stands size in
    let none : drop i flips ≡ [] = drop_all flips i (omega (arith, end)) in
    record {
      next = a.now;
      made = a.made ∙ (ap (fold (with_flip layout) (flipped_to g a.now i)) none
          ∙ ap (λ (k : ℕ). flipped_to g a.now k) end);
      stands = a.stands;
      size = a.size;
    }
