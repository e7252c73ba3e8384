-- What a search answers
use Rattle.std.specs.Prelude.{◌≡◌, ◌≢◌, ◌≤◌, ◌<◌, ℕ, Bool, true, false, ◌&&◌, is_some, List, [], ◌∷◌, length, Option, MatchOption, Some, ◌^◌}
use Rattle.std.specs.Prelude.{unwrap_or, IfSome}
use Rattle.layout_spec.specs.declared.Candidate.{Candidate}
use Rattle.layout_spec.specs.declared.Known.{Known}
use Rattle.layout_spec.specs.Family.{is_of_family, is_one_of}
use Rattle.layout_spec.specs.Laid.{zones_of}
use Rattle.layout_spec.specs.Order.{faults, tally_of, key, is_before}
use Rattle.layout_spec.specs.Taken.{is_taken}
use Rattle.layout_search.specs.Walked.{is_walked, all_levels}
use Rattle.layout_search.specs.declared.searching.Found.{Found}

-- another layout of the family has as few faults
pub record IsRival (known : Known) (image : List ℕ) (c other : Candidate) : Type 0 where
  pub of_family : is_of_family known image other ≡ true
  pub differs : c ≢ other
  pub few : faults image (zones_of other) ≤ faults image (zones_of c)

-- none of the others with as few is before it
abbrev pub IsNext : Known → List ℕ → Candidate → Candidate → Type 0
IsNext known image c other =
    (d : Candidate) → is_of_family known image d ≡ true → c ≢ d
    → faults image (zones_of d) ≤ faults image (zones_of c) → is_before (key image d) (key image other) ≡ false

-- no other layout of the family has as few faults
abbrev pub IsAlone : Known → List ℕ → Candidate → Type 0
IsAlone known image c =
    (d : Candidate) → is_of_family known image d ≡ true → c ≢ d
    → faults image (zones_of d) ≤ faults image (zones_of c) → ⊥

-- each layout of the family has more faults than so many
abbrev pub AreFaulty : Known → List ℕ → ℕ → Type 0
AreFaulty known image n = (d : Candidate) → is_of_family known image d ≡ true → n < faults image (zones_of d)

-- no layout agrees with what is known
abbrev pub IsEmpty : Known → List ℕ → Type 0
IsEmpty known image = (d : Candidate) → is_of_family known image d ≡ false

-- the four sizes and the parity are known: at most the memory, the processors and the tag are looked for
abbrev pub is_narrow : Known → Bool
is_narrow known =
    is_some known.dump && is_some known.console && is_some known.ftrace && is_some known.pmsg && is_some known.parity

-- a search may give up only if more is looked for, and no layout has fewer than two faults
pub record MayGiveUp (known : Known) (image : List ℕ) : Type 0 where
  pub wide : is_narrow known ≡ false
  pub faulty : AreFaulty known image 1

-- what is known, and for the rest what kernels have by default: so many parity bytes, and one ftrace zone
abbrev pub usual : Known → ℕ → Known
usual known parity = record known {
  parity = Some (unwrap_or known.parity parity);
  cpus = Some (unwrap_or known.cpus 1);
}

-- no layout without parity is before it, none with 16 bytes of parity, and none with the parity that is known, if it has
-- as many ftrace zones as are known, or one
abbrev pub IsBestUsual : Known → List ℕ → Candidate → Type 0
IsBestUsual known image c =
    (parity : ℕ) → is_one_of parity (0 ∷ 16 ∷ []) ≡ true → (d : Candidate)
    → is_of_family (usual known parity) image d ≡ true → is_before (key image d) (key image c) ≡ false

-- it is the only layout of the family
abbrev pub IsOnly : Known → List ℕ → Candidate → Type 0
IsOnly known image c = (d : Candidate) → is_of_family known image d ≡ true → c ≡ d

-- of the layouts that the walk came by, none with at most so many faults is before the answer
abbrev pub IsBestWalked : Known → List ℕ → Found → Type 0
IsBestWalked known image f =
    (d : Candidate) → is_of_family known image d ≡ true → is_walked known (length image) all_levels f.reached d ≡ true
    → faults image (zones_of d) ≤ f.limit → is_before (key image d) (key image f.candidate) ≡ false

pub record IsAnswer (known : Known) (image : List ℕ) (f : Found) : Type 0 where
  pub of_family : is_of_family known image f.candidate ≡ true
  pub tally_is : f.tally ≡ tally_of image f.candidate
  pub taken_is : f.taken ≡ is_taken (tally_of image f.candidate)
  pub part : f.whole ≡ false → MayGiveUp known image
  pub only : IsOnly known image f.candidate → f.whole ≡ true
  pub best_usual : f.whole ≡ false → length image ≤ 2 ^ 20 → IsBestUsual known image f.candidate
  pub so_far : f.whole ≡ false → IsBestWalked known image f
  pub first : f.whole ≡ true → (d : Candidate) → is_of_family known image d ≡ true
      → is_before (key image d) (key image f.candidate) ≡ false
  pub rival_is : IfSome f.rival (IsRival known image f.candidate)
  pub next : f.whole ≡ true → MatchOption f.rival (IsAlone known image f.candidate) (IsNext known image f.candidate)

-- no layout is answered only where none agrees with what is known
abbrev pub IsSearched : Known → List ℕ → Option Found → Type 0
IsSearched known image found = MatchOption found (IsEmpty known image) (IsAnswer known image)
