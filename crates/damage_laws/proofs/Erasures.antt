-- What a boot had to do in a zone whose erasure was cut, by the words that it read
use Rattle.std.proofs.Common.{◌≡◌, ℕ, Bool, true, false, cond, List, [], ◌∷◌, ◌++◌, length, refl, sym, ap, ◌∙◌, arith}
use Rattle.std.proofs.Common.{length-append}
use Rattle.zone_spec.specs.declared.Zone.{Zone}
use Rattle.zone_spec.specs.Zones.{IsValidZone}
use Rattle.zone_spec.specs.Parts.{Header, part_bytes, words_in, standing_words, IsImage}
use Rattle.zone_spec.specs.PartReadings.{words_read}
use Rattle.zone_spec.specs.Reading.{state_of, zone_reading}
use Rattle.zone_spec.specs.Stores.{after_stores}
use Rattle.zone_spec.specs.Stages.{stores_in_turn}
use Rattle.zone_spec.specs.Calls.{erase_stages}
use Rattle.zone_spec.specs.Boot.{boot_fixes, boot_erasure, boot_stores, signing, keeps}
use Rattle.zone_spec.specs.Cut.{words_before, cut_parts}
use Rattle.machine_spec.specs.BootPart.{IsWithinErasure, boot_cut}
use Rattle.ring_laws.proofs.BootLaw.{booted_bytes, booted_image, stands_as_read}
use Rattle.ring_laws.proofs.HeaderWords.{header_words}
use Rattle.ring_laws.proofs.States.{reading_state}

-- a boot that is cut within its erasure does not keep the zone
pub erases : (z : Zone) (now : List ℕ) (k : ℕ) → IsWithinErasure z now k
    → boot_erasure z now ≡ signing z (zone_reading z now).state ++ erase_stages
unfolding boot_erasure boot_stores stores_in_turn
erases z now k within = by (keeps z (zone_reading z now)) refl
  where
    by : (b : Bool) → keeps z (zone_reading z now) ≡ b
        → cond b [] (signing z (zone_reading z now).state ++ erase_stages)
        ≡ signing z (zone_reading z now).state ++ erase_stages
    by false e = refl
    by true e = absurd (
        let none : length (boot_stores z now) ≡ length (boot_fixes z now ++ []) =
        ap (λ b. length (boot_fixes z now ++ stores_in_turn z
        (cond b [] (signing z (zone_reading z now).state ++ erase_stages)) (after_stores now (boot_fixes z now)))) e in
        omega (arith, none, length-append (boot_fixes z now) [], within.0, within.1))

-- the corrected header has the words that the boot read
pub corrected_words : (z : Zone) (now : List ℕ) → IsValidZone z → IsImage z now
    → standing_words z (after_stores now (boot_fixes z now)) ≡ words_read z now
unfolding booted_bytes part_bytes
corrected_words z now valid im = ap (words_in z.byte_order) (stands_as_read z valid now im Header tt)

pub erasure_words : (z : Zone) (now : List ℕ) (k : ℕ) → IsValidZone z → IsImage z now
    → words_before z (boot_cut z now k) ≡ words_read z now
unfolding booted_bytes
erasure_words z now k valid im =
    header_words z (after_stores now (boot_fixes z now)) valid (booted_image z valid now im)
    ∙ corrected_words z now valid im

-- the cut's one part is the boot's erasure
pub erasure_parts : (z : Zone) (now : List ℕ) (k : ℕ) → IsValidZone z → IsImage z now → IsWithinErasure z now k
    → cut_parts z (boot_cut z now k) ≡ boot_erasure z now ∷ []
erasure_parts z now k valid im within =
    ap (λ w. (signing z (state_of z w) ++ erase_stages) ∷ []) (erasure_words z now k valid im)
    ∙ ap (λ s. (signing z s ++ erase_stages) ∷ []) (sym (reading_state z now))
    ∙ ap (λ gs. gs ∷ []) (sym (erases z now k within))
