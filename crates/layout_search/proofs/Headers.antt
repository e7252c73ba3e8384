-- What the header of a zone says, by the tests that it passes
use Rattle.std.proofs.Common.{◌≡◌, ℕ, ◌≤◌, Bool, true, false, not, ◌&&◌, ◌||◌, if◌then◌else◌, ◌==◌, nat_lt, List, refl}
use Rattle.std.proofs.Common.{sym, ap, ◌∙◌}
use Rattle.std.proofs.lemmas.Bool.{or_parts, ltb-false}
use Rattle.zone_spec.specs.declared.Zone.{Zone}
use Rattle.zone_spec.specs.declared.Words.{Words}
use Rattle.zone_spec.specs.declared.State.{State}
use Rattle.zone_spec.specs.declared.State.TheVariants.{Unsigned, Empty, Invalid, Found}
use Rattle.zone_spec.specs.Reading.{state_of}
use Rattle.zone_spec.specs.TimeLines.{has_line}
use Rattle.layout_spec.specs.Marks.{is_mark, fits, has_log, is_odd, is_readable, header_of, zone_words, state_in}
use Rattle.layout_spec.specs.Marks.{is_ring_or_empty, is_found, is_odd_log, log_front}
use Rattle.layout_search.specs.Looks.{IsLook, IsHeader}
use Rattle.layout_search.specs.declared.looking.Header.{Header}

abbrev is_empty : Words → Bool
is_empty w = (w.size == 0) && (w.start == 0)

abbrev is_invalid : Zone → Words → Bool
is_invalid z w = nat_lt z.cap w.size || nat_lt w.size w.start

-- the state by its three tests
abbrev state_by : Bool → Bool → Bool → State
state_by own empty invalid =
    if not own then Unsigned else (if empty then Empty else (if invalid then Invalid else Found))

-- the state that the words of a header make
state_is : (image : List ℕ) (z : Zone) (w : Words) → w ≡ zone_words image z
    → state_in image z ≡ state_by (w.sig == z.sig) (is_empty w) (is_invalid z w)
state_is image z w e = ap (λ (v : Words). state_of z v) (sym e)

pub misfit : (image : List ℕ) (z : Zone) (marked : Bool) → marked ≡ is_mark image z.at → fits image z ≡ false
    → IsLook image z (record { fits = false; found = false; odd = false; corrected = 0; marked = marked })
unfolding is_odd
misfit image z marked m f = record {
  fits_is = sym f;
  found = sym (ap (λ b. b && is_found (state_in image z)) f);
  odd = sym (ap (λ b. (b && is_found (state_in image z))
      && is_odd_log z.name.kind (has_line (log_front image z (zone_words image z)))) f);
  corrected = sym (ap (λ (b : Bool). if b then (header_of image z).corrected else 0) f);
  marked = m;
}

pub unreadable : (image : List ℕ) (z : Zone) → is_readable image z ≡ false → fits image z ≡ false
unfolding fits
unreadable image z h = ap (λ b. b && is_ring_or_empty (state_in image z)) h

and_false : (b : Bool) → (b && false) ≡ false
and_false true = refl
and_false false = refl

stateless : (image : List ℕ) (z : Zone) → is_ring_or_empty (state_in image z) ≡ false → fits image z ≡ false
unfolding fits
stateless image z h = ap (λ b. is_readable image z && b) h ∙ and_false (is_readable image z)

pub foreign : (image : List ℕ) (z : Zone) (w : Words) → w ≡ zone_words image z → (w.sig == z.sig) ≡ false
    → fits image z ≡ false
foreign image z w e own = stateless image z (ap is_ring_or_empty
    (state_is image z w e ∙ ap (λ b. state_by b (is_empty w) (is_invalid z w)) own))

pub invalid : (image : List ℕ) (z : Zone) (w : Words) → w ≡ zone_words image z → (w.sig == z.sig) ≡ true
    → is_empty w ≡ false → is_invalid z w ≡ true → fits image z ≡ false
invalid image z w e own empty bad = stateless image z (ap is_ring_or_empty
    (state_is image z w e ∙ ap (λ b. state_by b (is_empty w) (is_invalid z w)) own
    ∙ ap (λ b. state_by true b (is_invalid z w)) empty ∙ ap (λ b. state_by true false b) bad))

empty_state : (image : List ℕ) (z : Zone) (w : Words) → w ≡ zone_words image z → (w.sig == z.sig) ≡ true
    → is_empty w ≡ true → state_in image z ≡ Empty
empty_state image z w e own empty =
    state_is image z w e ∙ ap (λ b. state_by b (is_empty w) (is_invalid z w)) own
    ∙ ap (λ b. state_by true b (is_invalid z w)) empty

found_state : (image : List ℕ) (z : Zone) (w : Words) → w ≡ zone_words image z → (w.sig == z.sig) ≡ true
    → is_empty w ≡ false → is_invalid z w ≡ false → state_in image z ≡ Found
found_state image z w e own empty bad =
    state_is image z w e ∙ ap (λ b. state_by b (is_empty w) (is_invalid z w)) own
    ∙ ap (λ b. state_by true b (is_invalid z w)) empty ∙ ap (λ b. state_by true false b) bad

fits_in : (image : List ℕ) (z : Zone) (s : State) → is_readable image z ≡ true → state_in image z ≡ s
    → is_ring_or_empty s ≡ true → fits image z ≡ true
unfolding fits
fits_in image z s r e ok =
    ap (λ b. b && is_ring_or_empty (state_in image z)) r ∙ ap is_ring_or_empty e ∙ ok

pub fresh : (image : List ℕ) (z : Zone) (h : Header) (marked : Bool) → IsHeader image z h
    → marked ≡ is_mark image z.at → (h.words.sig == z.sig) ≡ true → is_empty h.words ≡ true
    → IsLook image z (record { fits = true; found = false; odd = false; corrected = h.corrected; marked = marked })
unfolding is_odd
fresh image z h marked head m own empty =
    let s = empty_state image z h.words head.words own empty in
    let f = fits_in image z Empty head.readable s refl in
    let none : has_log image z ≡ false = ap (λ b. b && is_found (state_in image z)) f ∙ ap is_found s in record {
      fits_is = sym f;
      found = sym none;
      odd = sym (ap (λ b. b && is_odd_log z.name.kind (has_line (log_front image z (zone_words image z)))) none);
      corrected = head.corrected ∙ sym (ap (λ (b : Bool). if b then (header_of image z).corrected else 0) f);
      marked = m;
    }

pub ring : (image : List ℕ) (z : Zone) (h : Header) (marked odd : Bool) → IsHeader image z h
    → marked ≡ is_mark image z.at → (h.words.sig == z.sig) ≡ true → is_empty h.words ≡ false
    → is_invalid z h.words ≡ false → odd ≡ is_odd_log z.name.kind (has_line (log_front image z h.words))
    → IsLook image z (record { fits = true; found = true; odd = odd; corrected = h.corrected; marked = marked })
unfolding is_odd
ring image z h marked odd head m own empty bad o =
    let s = found_state image z h.words head.words own empty bad in
    let f = fits_in image z Found head.readable s refl in
    let log : has_log image z ≡ true = ap (λ b. b && is_found (state_in image z)) f ∙ ap is_found s in record {
      fits_is = sym f;
      found = sym log;
      odd = o ∙ ap (λ (w : Words). is_odd_log z.name.kind (has_line (log_front image z w))) head.words
          ∙ sym (ap (λ b. b && is_odd_log z.name.kind (has_line (log_front image z (zone_words image z)))) log);
      corrected = head.corrected ∙ sym (ap (λ (b : Bool). if b then (header_of image z).corrected else 0) f);
      marked = m;
    }

-- words that are not invalid are a ring
pub ring_start : (z : Zone) (w : Words) → is_invalid z w ≡ false → w.start ≤ w.size
ring_start z w h = ltb-false _ _ (or_parts (nat_lt z.cap w.size) (nat_lt w.size w.start) h).1

pub ring_size : (z : Zone) (w : Words) → is_invalid z w ≡ false → w.size ≤ z.cap
ring_size z w h = ltb-false _ _ (or_parts (nat_lt z.cap w.size) (nat_lt w.size w.start) h).0
