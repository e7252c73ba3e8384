-- One byte back and one line on. For the loops of `place_above` and `below`.
use Rattle.std.proofs.Common.{◌≡◌, ℕ, suc, Bool, true, false, List, if◌then◌else◌, refl, ap, sym, ◌∙◌}
use Rattle.std.specs.Prelude.{slice_index}
use Rattle.death_spec.specs.Lines.{lines_from}
use Rattle.report_spec.specs.Excerpts.{is_found, fewer, back, below, next_at}

pub back-start : (text : List ℕ) (lines : ℕ) → back text 0 lines ≡ 0
unfolding back
back-start text lines = refl

-- the newline before the line
pub back-found : (text : List ℕ) (place p lines : ℕ) → place ≡ suc p → is_found (slice_index text p) lines ≡ true
    → back text place lines ≡ place
unfolding back
back-found text place p lines e f =
    ap (λ (n : ℕ). back text n lines) e
    ∙ ap (λ (t : Bool). if t then suc p else back text p (fewer (slice_index text p) lines)) f ∙ sym e

-- any other byte
pub back-on : (text : List ℕ) (place p lines : ℕ) → place ≡ suc p → is_found (slice_index text p) lines ≡ false
    → back text place lines ≡ back text p (fewer (slice_index text p) lines)
unfolding back
back-on text place p lines e f =
    ap (λ (n : ℕ). back text n lines) e
    ∙ ap (λ (t : Bool). if t then suc p else back text p (fewer (slice_index text p) lines)) f

pub below-none : (text : List ℕ) (place : ℕ) → below text place 0 ≡ place
unfolding below
below-none text place = refl

pub below-next : (text : List ℕ) (place lines n : ℕ) → lines ≡ suc n
    → below text place lines ≡ below text (next_at place (lines_from text place)) n
unfolding below
below-next text place lines n e = ap (λ (m : ℕ). below text place m) e
