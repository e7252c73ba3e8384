-- What each kind of line leaves of the zone
use Rattle.std.proofs.Common.{◌≡◌, ℕ, ◌<◌, List, length, refl, Result, Ok, Err, MatchResult}
use Rattle.shared_spec.specs.Calls.{open_call}
use Rattle.shared_spec.specs.Machine.{refusal}
use Rattle.shared_spec.specs.Histories.{History, shared_zone}
use Rattle.shared_ring.specs.Seen.{SharedSeen, IsLeftBy}
use Rattle.grammar_spec.specs.Printed.{HasFields}
use Rattle.grammar_spec.specs.declared.line.Line.{Line}
use Rattle.grammar_spec.specs.declared.line.Line.TheVariants.{Blank, Reserve, StoreNext}
use Rattle.script_spec.specs.SharedScripts.{shared_line, reserves, stores}
use Rattle.script_spec.specs.declared.Cause.{Cause}
use Rattle.script_spec.specs.declared.Cause.TheVariants.{NotHere}
use Rattle.shared_session.specs.Left.{IsLeft}

blank_is : (h : History) → shared_line h Blank ≡ Ok h
unfolding shared_line
blank_is h = refl

pub blank_done : (h : History) (line : Line) (v : SharedSeen) → line ≡ Blank → IsLeftBy h v
    → IsLeft (shared_line h line) v
blank_done h line v is l = rw is (record { history = h; is = blank_is h; left = l })

pub some_bytes : (line : Line) (payload : List ℕ) → line ≡ Reserve payload → HasFields line → 0 < length payload
unfolding HasFields
some_bytes line payload is fields = let f : HasFields (Reserve payload) = rw is at fields in f.1

reserve_is : (h : History) (payload : List ℕ) → shared_line h (Reserve payload)
    ≡ reserves h payload (refusal h.zone (shared_zone h).calls (length payload))
unfolding shared_line
reserve_is h payload = refl

-- what a line leaves, or why it is refused
abbrev Does : Result History Cause → Result (Unit {0}) Cause → SharedSeen → Type 0
Does wanted r v = MatchResult r (λ _. IsLeft wanted v) (λ cause. wanted ≡ Err cause)

pub reserve_done : (h : History) (line : Line) (payload : List ℕ) (r : Result (Unit {0}) Cause) (v : SharedSeen)
    → line ≡ Reserve payload → Does (reserves h payload (refusal h.zone (shared_zone h).calls (length payload))) r v
    → Does (shared_line h line) r v
reserve_done h line payload r v is d = rw (is, reserve_is h payload) d

store_is : (h : History) (t k : ℕ) → shared_line h (StoreNext t k) ≡ stores h t k (open_call (shared_zone h).calls t)
unfolding shared_line
store_is h t k = refl

pub store_done : (h : History) (line : Line) (t k : ℕ) (r : Result (Unit {0}) Cause) (v : SharedSeen)
    → line ≡ StoreNext t k → Does (stores h t k (open_call (shared_zone h).calls t)) r v → Does (shared_line h line) r v
store_done h line t k r v is d = rw (is, store_is h t k) d

pub other_line : (h : History) (line : Line) → (line ≡ Blank → ⊥)
    → ((payload : List ℕ) → line ≡ Reserve payload → ⊥) → ((t k : ℕ) → line ≡ StoreNext t k → ⊥)
    → shared_line h line ≡ Err NotHere
unfolding shared_line
other_line h Blank a b c = absurd (a refl)
other_line h (Reserve payload) a b c = absurd (b payload refl)
other_line h (StoreNext t k) a b c = absurd (c t k refl)
other_line h line a b c = refl
