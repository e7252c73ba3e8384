-- The parts of a call behind one another
use Rattle.std.proofs.Common.{◌≡◌, ℕ, ◌+◌, ◌-◌, ◌%◌, ◌<◌, ◌≤◌, min, Bool, true, false, cond, ◌==◌, List, [], ◌∷◌, ◌++◌}
use Rattle.std.proofs.Common.{length, take, drop, refl, sym, ap, ◌∙◌, arith, append_assoc, append-nil, length-take}
use Rattle.std.proofs.lemmas.Bool.{ne_eqb}
use Rattle.zone_spec.specs.declared.Zone.{Zone}
use Rattle.std.proofs.lemmas.List.{nil_from_length}
use Rattle.zone_spec.specs.Told.{Call, Append, Erase, Dump}
use Rattle.zone_spec.specs.Parts.{Header}
use Rattle.zone_spec.specs.Stages.{Stage, StartWord, SizeWord, ParityOf, stage_stores}
use Rattle.zone_spec.specs.Calls.{append_stages, run_stages}
use Rattle.store_steps.specs.declared.place.Leg.{Leg}
use Rattle.store_steps.specs.declared.place.Leg.TheVariants.{Erasure, Line, Body}
use Rattle.store_steps.specs.declared.place.Place.{Place}
use Rattle.store_steps.specs.declared.place.Phase.TheVariants.{Size, Header as HeaderPhase}
use Rattle.store_steps.specs.Calls.{line_of, front_of, body_stages}
use Rattle.store_steps.specs.Flying.{Flying, at_place, later}
use Rattle.store_steps.specs.Phases.{IsDone, IsSound}
use Rattle.store_steps.specs.Machine.{Enters}
use Rattle.store_steps.proofs.StoresLeft.{AlwaysStored, enters_by}

regroup : (a r1 r2 more : List Stage) (s h : Stage) → a ++ s ∷ [] ++ r1 ++ r2 ++ h ∷ [] ++ more
    ≡ a ++ (s ∷ (r1 ++ (r2 ++ h ∷ more)))
regroup a r1 r2 more s h =
    append_assoc (a ++ s ∷ [] ++ r1 ++ r2) (h ∷ []) more
    ∙ append_assoc (a ++ s ∷ [] ++ r1) r2 (h ∷ more)
    ∙ append_assoc (a ++ s ∷ []) r1 (r2 ++ h ∷ more)
    ∙ append_assoc a (s ∷ []) (r1 ++ (r2 ++ h ∷ more))

-- the stages behind the size word
abbrev pub sized : Zone → ℕ → List ℕ → List Stage → List Stage
sized z start xs more = StartWord ((start + length xs) % z.cap)
    ∷ (run_stages z start (take (z.cap - start) xs) ++ (run_stages z 0 (drop (z.cap - start) xs) ++ ParityOf Header
    ∷ more))

append_by : (z : Zone) (start size : ℕ) (xs more : List Stage) (bytes : List ℕ) (full : Bool) → (size == z.cap) ≡ full
    → 0 < length bytes
    → append_stages z start size bytes ++ more ≡ cond full [] (SizeWord (min z.cap (size + length bytes)) ∷ [])
    ++ sized z start bytes more
append_by z start size xs more [] full e h = absurd (omega arith)
append_by z start size xs more (b ∷ bs) full e h =
    let bytes : List ℕ = b ∷ bs in
    regroup (cond (size == z.cap) [] (SizeWord (min z.cap (size + length bytes)) ∷ []))
    (run_stages z start (take (z.cap - start) bytes)) (run_stages z 0 (drop (z.cap - start) bytes)) more
    (StartWord ((start + length bytes) % z.cap)) (ParityOf Header)
    ∙ ap (λ f. cond f [] (SizeWord (min z.cap (size + length bytes)) ∷ []) ++ sized z start bytes more) e

pub append_begins : (z : Zone) (start size : ℕ) (bytes : List ℕ) (more : List Stage) → size < z.cap → 0 < length bytes
    → append_stages z start size bytes ++ more ≡ SizeWord (min z.cap (size + length bytes)) ∷ sized z start bytes more
append_begins z start size bytes more h some = append_by z start size [] more bytes false
    (ne_eqb size z.cap (λ e. omega (arith, e))) some

pub append_begins_ne : (z : Zone) (start size : ℕ) (bytes : List ℕ) (more : List Stage) → (size == z.cap) ≡ false
    → 0 < length bytes
    → append_stages z start size bytes ++ more ≡ SizeWord (min z.cap (size + length bytes)) ∷ sized z start bytes more
append_begins_ne z start size bytes more h some = append_by z start size [] more bytes false h some

pub append_begins_full : (z : Zone) (start size : ℕ) (bytes : List ℕ) (more : List Stage) → (size == z.cap) ≡ true
    → 0 < length bytes
    → append_stages z start size bytes ++ more ≡ sized z start bytes more
append_begins_full z start size bytes more h some = append_by z start size [] more bytes true h some

-- the place at which a later part begins
abbrev pub begun : Leg → ℕ → Place
begun leg at = record { leg = leg; start = at; size = at; phase = Size; block = 0; number = 0 }

module _ (f : Flying) (all : AlwaysStored f) (done : IsDone f) (is : f.place.phase ≡ HeaderPhase) where
  -- the body behind the line, or behind an erasure where the line is empty
  pub enter_body : later f ≡ body_stages f.zone f.call → length (line_of f.call) < f.zone.cap
      → 0 < length (front_of f.zone.cap f.call) → Enters f (at_place f (begun Body (length (line_of f.call))))
  unfolding stage_stores
  enter_body behind_is h some =
      let at : ℕ = length (line_of f.call) in
      let g : Flying = at_place f (begun Body at) in
      enters_by f g HeaderPhase Size (SizeWord (min f.zone.cap (at + length (front_of f.zone.cap f.call))))
      is all done refl refl refl refl refl refl (λ image. refl) refl
      (behind_is ∙ sym (append-nil (append_stages f.zone at at (front_of f.zone.cap f.call)))
      ∙ append_begins f.zone at at (front_of f.zone.cap f.call) [] h some)

  pub enter_line : f.place.leg ≡ Erasure → 0 < f.zone.cap → 0 < length (line_of f.call)
      → Enters f (at_place f (begun Line 0))
  unfolding stage_stores
  enter_line leg h some =
      let g : Flying = at_place f (begun Line 0) in
      enters_by f g HeaderPhase Size (SizeWord (min f.zone.cap (0 + length (line_of f.call))))
      is all done refl refl refl refl refl refl (λ image. refl) refl
      (ap (λ l. later (record f { place = record f.place { leg = l } })) leg
      ∙ append_begins f.zone 0 0 (line_of f.call) (body_stages f.zone f.call) h some)

pub no_body : (z : Zone) (call : Call) → length (front_of z.cap call) ≡ 0 → body_stages z call ≡ []
no_body z call none = ap (append_stages z (length (line_of call)) (length (line_of call)))
    (nil_from_length (front_of z.cap call) none)

pub front_short : (cap : ℕ) (call : Call) → length (front_of cap call) ≤ cap
unfolding front_of
front_short cap (Append bytes) = omega arith
front_short cap Erase = omega arith
front_short cap (Dump line body) = omega (arith, length-take (cap - length line) body)

pub sound_body : (f : Flying) → IsSound f → 0 < length (front_of f.zone.cap f.call)
    → IsSound (at_place f (begun Body (length (line_of f.call))))
sound_body f sound some = record {
  valid = sound.valid;
  below = omega (arith, sound.line, sound.valid.room);
  fits = omega (arith, sound.line, sound.valid.room);
  short = front_short f.zone.cap f.call;
  line = sound.line;
  number = omega arith;
  within = some;
}
