-- A zone's reading by the words of its header, without its log
use Rattle.std.proofs.Common.{◌≡◌, ℕ, ◌+◌, List, [], length, Bool, true, false, not, ◌==◌, nat_lt, ◌&&◌, ◌||◌}
use Rattle.std.proofs.Common.{if◌then◌else◌, refl, sym, ap, ap₂, ◌∙◌, arith}
use Rattle.std.specs.List.{sum_by}
use Rattle.std.proofs.lemmas.Bool.Decides.{nat_tests}
use Rattle.zone_spec.specs.declared.Zone.{Zone}
use Rattle.zone_spec.specs.declared.Words.{Words}
use Rattle.zone_spec.specs.declared.State.{State}
use Rattle.zone_spec.specs.declared.State.TheVariants.{Unsigned, Empty, Invalid, Found}
use Rattle.zone_spec.specs.Parts.{Header, Block}
use Rattle.zone_spec.specs.PartReadings.{part_reading, words_read}
use Rattle.zone_spec.specs.Reading.{ZoneReading, zone_reading, reading_in, state_of, log_read, IsRing, blocks_below}
use Rattle.zone_boot.specs.declared.summaries.Summary.{Summary}
use Rattle.zone_boot.specs.Summaries.{summary_of}
use Rattle.zone_boot.proofs.Logs.{log-length}

pub ring-found : (z : Zone) (w : Words) → state_of z w ≡ Found → IsRing w z.cap
ring-found z w h = by (not (w.sig == z.sig)) ((w.size == 0) && (w.start == 0)) (nat_lt z.cap w.size)
    (nat_lt w.size w.start) refl refl h
  where
    by : (a b c d : Bool) → nat_lt z.cap w.size ≡ c → nat_lt w.size w.start ≡ d
        → (if a then Unsigned else (if b then Empty else (if c || d then Invalid else Found))) ≡ Found → IsRing w z.cap
    by true b c d e f g = absurd (cc)
    by false true c d e f g = absurd (cc)
    by false false true d e f g = absurd (cc)
    by false false false true e f g = absurd (cc)
    by false false false false e f g = (grind (arith, nat_tests), grind (arith, nat_tests))

-- the reading by the words that were read, and their state
pub reading-by : (z : Zone) (x : List ℕ) (w : Words) (s : State) → w ≡ words_read z x → state_of z w ≡ s
    → reading_in z x w s ≡ zone_reading z x
unfolding zone_reading
reading-by z x w s words state = ap (λ (t : State). reading_in z x w t) (sym state)
    ∙ ap (λ (v : Words). reading_in z x v (state_of z v)) words

abbrev sums : State → Words → ℕ → ℕ → ℕ → Summary
sums s w n c b = record { state = s; words = w; len = n; corrected = c; bad = b }

module _ (z : Zone) (x : List ℕ) (w : Words) (words : w ≡ words_read z x) where
  pub summary-found : (h m k n : ℕ) → state_of z w ≡ Found
      → h ≡ (part_reading z x Header).corrected
      → m ≡ sum_by (λ b. (part_reading z x (Block b)).corrected) (blocks_below z w.size)
      → k ≡ (part_reading z x Header).bad
      → n ≡ sum_by (λ b. (part_reading z x (Block b)).bad) (blocks_below z w.size)
      → sums Found w w.size (h + m) (k + n) ≡ summary_of (zone_reading z x)
  summary-found h m k n state hc mc hb mb =
      ap (λ (l : ℕ). sums Found w l (h + m) (k + n)) (sym (log-length z x w (ring-found z w state)))
      ∙ ap₂ (λ (c b : ℕ). sums Found w (length (log_read z x w)) c b) (ap₂ (λ (a b : ℕ). a + b) hc mc)
      (ap₂ (λ (a b : ℕ). a + b) hb mb)
      ∙ ap summary_of (reading-by z x w Found words state)

  -- in the other states there is no log
  other : (s : State) → (s ≡ Found → ⊥)
      → sums s w 0 (part_reading z x Header).corrected (part_reading z x Header).bad ≡ summary_of (reading_in z x w s)
  other Unsigned h = refl
  other Empty h = refl
  other Invalid h = refl
  other Found h = absurd (h refl)

  pub summary-other : (s : State) (h k : ℕ) → state_of z w ≡ s → (s ≡ Found → ⊥)
      → h ≡ (part_reading z x Header).corrected → k ≡ (part_reading z x Header).bad
      → sums s w 0 h k ≡ summary_of (zone_reading z x)
  summary-other s h k state ne hc hb =
      ap₂ (λ (c b : ℕ). sums s w 0 c b) hc hb ∙ other s ne ∙ ap summary_of (reading-by z x w s words state)

  pub log-found : state_of z w ≡ Found → (zone_reading z x).log ≡ log_read z x w
  log-found state = ap (λ (r : ZoneReading). r.log) (sym (reading-by z x w Found words state))

  pub log-other : (s : State) → state_of z w ≡ s → (s ≡ Found → ⊥) → (zone_reading z x).log ≡ []
  log-other s state ne = ap (λ (r : ZoneReading). r.log) (sym (reading-by z x w s words state)) ∙ none s ne
    where
      none : (s : State) → (s ≡ Found → ⊥) → (reading_in z x w s).log ≡ []
      none Unsigned h = refl
      none Empty h = refl
      none Invalid h = refl
      none Found h = absurd (h refl)
