-- What is left of a flight at the begin and at the end of a phase, and where the next stage's stores are entered
use Rattle.std.proofs.Common.{◌≡◌, ℕ, suc, ◌+◌, ◌-◌, ◌≤◌, List, [], ◌∷◌, ◌++◌, length, drop, refl, sym, ap, ◌∙◌, arith}
use Rattle.std.proofs.Common.{length-take, length-drop}
use Rattle.std.proofs.lemmas.List.{drop_all}
use Rattle.std.proofs.lemmas.List.Sums.{sum_by-cons}
use Rattle.std.specs.List.{sum_by}
use Rattle.zone_spec.specs.declared.Zone.{Zone}
use Rattle.zone_spec.specs.Parts.{AreBytes, Header, Block}
use Rattle.zone_spec.specs.Stores.{after_stores}
use Rattle.zone_spec.specs.Stages.{Stage, stage_stores, stage_count, stores_in_turn}
use Rattle.ring_laws.proofs.StoreCounts.{length-byte_stores}
use Rattle.store_steps.specs.declared.place.Phase.{Phase}
use Rattle.store_steps.specs.declared.place.Phase.TheVariants.{ZeroStart, ZeroSize, Size, Start, First, FirstParity}
use Rattle.store_steps.specs.declared.place.Phase.TheVariants.{Second, SecondParity, Header as HeaderPhase, Finished}
use Rattle.store_steps.specs.Flying.{Flying, payload}
use Rattle.store_steps.specs.Phases.{IsDone, phase_len, first_run, second_run}
use Rattle.store_steps.specs.Machine.{stores_of, behind, stores_left, count_left, phases_left, Enters}
use Rattle.store_steps.proofs.ParityBytes.{length-parity_stores}

-- every store of the phase is made
abbrev pub AllStored : Flying → List ℕ → Type 0
AllStored f image = f.place.number ≡ length (stores_of f image f.place.phase)

abbrev pub AlwaysStored : Flying → Type 0
AlwaysStored f = (image : List ℕ) → AreBytes image → AllStored f image

pub length-stores_of : (f : Flying) (image : List ℕ) (p : Phase) → AreBytes image
    → length (stores_of f image p) ≡ phase_len f p
length-stores_of f image ZeroStart bytes = refl
length-stores_of f image ZeroSize bytes = refl
length-stores_of f image Size bytes = refl
length-stores_of f image Start bytes = refl
length-stores_of f image First bytes = length-byte_stores (12 + f.place.start) (first_run f)
    ∙ length-take (f.zone.cap - f.place.start) (payload f)
length-stores_of f image FirstParity bytes = length-parity_stores f.zone image (Block f.place.block) bytes
length-stores_of f image Second bytes = length-byte_stores 12 (second_run f)
    ∙ omega (arith, length-drop (f.zone.cap - f.place.start) (payload f))
length-stores_of f image SecondParity bytes = length-parity_stores f.zone image (Block f.place.block) bytes
length-stores_of f image HeaderPhase bytes = length-parity_stores f.zone image Header bytes
length-stores_of f image Finished bytes = refl

pub all_stored : (f : Flying) → IsDone f → AlwaysStored f
all_stored f done image bytes = done ∙ sym (length-stores_of f image f.place.phase bytes)

pub in_turn_next : (z : Zone) (st : Stage) (gs : List Stage) (image : List ℕ)
    → stores_in_turn z (st ∷ gs) image ≡ stage_stores z st image ++ stores_in_turn z gs
    (after_stores image (stage_stores z st image))
unfolding stores_in_turn
in_turn_next z st gs image = refl

pub left_done : (f : Flying) (p : Phase) (image : List ℕ) → f.place.phase ≡ p → AllStored f image
    → stores_left f image ≡ stores_in_turn f.zone (behind f p) image
unfolding stores_left after_stores
left_done f p image e done =
    let none : drop f.place.number (stores_of f image f.place.phase) ≡ [] =
    drop_all f.place.number (stores_of f image f.place.phase) (omega (arith, done)) in
    ap (λ ss. ss ++ stores_in_turn f.zone (behind f f.place.phase) (after_stores image ss)) none
    ∙ ap (λ q. stores_in_turn f.zone (behind f q) image) e

pub left_begun : (g : Flying) (q : Phase) (image : List ℕ) → g.place.phase ≡ q → g.place.number ≡ 0
    → stores_left g image
    ≡ stores_of g image q ++ stores_in_turn g.zone (behind g q) (after_stores image (stores_of g image q))
unfolding stores_left
left_begun g q image e n =
    ap (λ k. drop k (stores_of g image g.place.phase) ++ stores_in_turn g.zone (behind g g.place.phase)
    (after_stores image (drop k (stores_of g image g.place.phase)))) n
    ∙ ap (λ p. stores_of g image p ++ stores_in_turn g.zone (behind g p) (after_stores image (stores_of g image p))) e

-- how many stores the stages have
abbrev pub counted : Zone → List Stage → ℕ
counted z gs = sum_by (stage_count z) gs

pub count_done : (f : Flying) (p : Phase) → f.place.phase ≡ p → IsDone f → count_left f ≡ counted f.zone (behind f p)
count_done f p e done =
    let none : phase_len f f.place.phase - f.place.number ≡ 0 = omega (arith, done) in
    (let n : count_left f ≡ counted f.zone (behind f f.place.phase) = omega (arith, none) in n)
    ∙ ap (λ q. counted f.zone (behind f q)) e

pub count_begun : (g : Flying) (q : Phase) → g.place.phase ≡ q → g.place.number ≡ 0
    → count_left g ≡ phase_len g q + counted g.zone (behind g q)
count_begun g q e n =
    (let m : count_left g ≡ phase_len g g.place.phase + counted g.zone (behind g g.place.phase) = omega (arith, n) in m)
    ∙ ap (λ p. phase_len g p + counted g.zone (behind g p)) e

pub most : (f : Flying) (q : Phase) → phases_left f q ≤ length (behind f q) + 1
most f ZeroStart = omega arith
most f ZeroSize = omega arith
most f Size = omega arith
most f Start = omega arith
most f First = omega arith
most f FirstParity = omega arith
most f Second = omega arith
most f SecondParity = omega arith
most f HeaderPhase = omega arith
most f Finished = omega arith

least : (f : Flying) (p : Phase) (st : Stage) (gs : List Stage) → behind f p ≡ st ∷ gs
    → length (behind f p) + 1 ≤ phases_left f p
least f ZeroStart st gs e = omega arith
least f ZeroSize st gs e = omega arith
least f Size st gs e = omega arith
least f Start st gs e = omega arith
least f First st gs e = omega arith
least f FirstParity st gs e = omega arith
least f Second st gs e = omega arith
least f SecondParity st gs e = omega arith
least f HeaderPhase st gs e = omega arith
least f Finished st gs e = let n : ◌≡◌ {A = ℕ} 0 1 = cc in absurd (omega (arith, n))

-- a phase whose stores are those of the next stage
pub enters_by : (f g : Flying) (p q : Phase) (st : Stage) → f.place.phase ≡ p
    → AlwaysStored f → IsDone f → g.place.phase ≡ q → g.place.number ≡ 0 → g.zone ≡ f.zone → g.words ≡ f.words
    → g.call ≡ f.call → g.made ≡ f.made
    → ((image : List ℕ) → stores_of g image q ≡ stage_stores f.zone st image) → stage_count f.zone st ≡ phase_len g q
    → behind f p ≡ st ∷ behind g q → Enters f g
enters_by f g p q st e all done eg ng zone words call made stores count next = record {
  left = λ image bytes.
      left_begun g q image eg ng
      ∙ ap (λ ss. ss ++ stores_in_turn g.zone (behind g q) (after_stores image ss)) (stores image)
      ∙ ap (λ z. stage_stores f.zone st image ++ stores_in_turn z (behind g q)
      (after_stores image (stage_stores f.zone st image))) zone
      ∙ sym (in_turn_next f.zone st (behind g q) image)
      ∙ ap (λ gs. stores_in_turn f.zone gs image) (sym next)
      ∙ sym (left_done f p image e (all image bytes));
  count =
      count_begun g q eg ng
      ∙ ap (λ z. phase_len g q + counted z (behind g q)) zone
      ∙ ap (λ n. n + counted f.zone (behind g q)) (sym count)
      ∙ sym (sum_by-cons (stage_count f.zone) st (behind g q))
      ∙ ap (counted f.zone) (sym next)
      ∙ sym (count_done f p e done);
  number = ng;
  fewer =
      (let n : length (behind f p) ≡ suc (length (behind g q)) = ap length next in
      rw (e, eg) (omega (arith, n, most g q, least f p st (behind g q) next)));
  same = record { zone = zone; words = words; call = call };
  made = made;
}
