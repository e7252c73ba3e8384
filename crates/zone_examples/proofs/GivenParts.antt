-- A zone's reading where one of its parts is given
use Rattle.std.proofs.Common.{◌≡◌, ℕ, zero, suc, ◌+◌, ◌/◌, ◌%◌, List, [], map, sum_by, slice_index, refl, ap, ◌∙◌}
use Rattle.std.proofs.Common.{Option}
use Rattle.zone_spec.specs.declared.Zone.{Zone}
use Rattle.zone_spec.specs.declared.Words.{Words}
use Rattle.zone_spec.specs.declared.State.{State}
use Rattle.zone_spec.specs.declared.State.TheVariants.{Found}
use Rattle.zone_spec.specs.Parts.{Part, Header, Block, part_word, part_bytes, words_in}
use Rattle.zone_spec.specs.PartReadings.{PartReading, part_reading, reading_by}
use Rattle.zone_spec.specs.Reading.{ZoneReading, reading_in, zone_reading, state_of, log_places, blocks_below}
use Rattle.code_spec.specs.Code.{nearest}

-- the reading of a zone whose parts read so
abbrev pub reading_in_parts : Zone → (Part → PartReading) → Words → State → ZoneReading
reading_in_parts z part w Found = record {
  state = Found;
  words = w;
  log = map (λ place. slice_index (part (Block (place / z.block))).bytes (place % z.block)) (log_places w.start w.size);
  corrected = (part Header).corrected + sum_by (λ b. (part (Block b)).corrected) (blocks_below z w.size);
  bad = (part Header).bad + sum_by (λ b. (part (Block b)).bad) (blocks_below z w.size);
}
reading_in_parts z part w other = record {
  state = other;
  words = w;
  log = [];
  corrected = (part Header).corrected;
  bad = (part Header).bad;
}

abbrev pub reading_of_parts : Zone → (Part → PartReading) → ZoneReading
reading_of_parts z part = reading_in_parts z part (words_in z.byte_order (part Header).bytes)
    (state_of z (words_in z.byte_order (part Header).bytes))

in_parts : (z : Zone) (image : List ℕ) (w : Words) (s : State)
    → reading_in z image w s ≡ reading_in_parts z (part_reading z image) w s
in_parts z image w Found = refl
in_parts z image w other = refl

pub of_parts : (z : Zone) (image : List ℕ) → zone_reading z image ≡ reading_of_parts z (part_reading z image)
unfolding zone_reading
of_parts z image = in_parts z image _ _

-- the parts of an image, with the header and the first two blocks given
abbrev pub parts_given : Zone → List ℕ → PartReading → PartReading → PartReading → Part → PartReading
parts_given z image header first second Header = header
parts_given z image header first second (Block zero) = first
parts_given z image header first second (Block (suc zero)) = second
parts_given z image header first second (Block (suc (suc b))) = part_reading z image (Block (suc (suc b)))

-- a part's reading by the given nearest codeword, or by none
pub given_part : (z : Zone) (image : List ℕ) (part : Part) (o : Option (List ℕ))
    → nearest z.parity (part_word z image part) ≡ o → part_reading z image part
    ≡ reading_by (part_bytes z image part) (part_word z image part) o
unfolding part_reading
given_part z image part o e = ap (reading_by (part_bytes z image part) (part_word z image part)) e

pub given_parts : (z : Zone) (image : List ℕ) (header first second : PartReading)
    → part_reading z image Header ≡ header → part_reading z image (Block 0) ≡ first
    → part_reading z image (Block 1) ≡ second
    → zone_reading z image ≡ reading_of_parts z (parts_given z image header first second)
given_parts z image header first second h f s = of_parts z image ∙ ap (reading_of_parts z) (λ i part. same part i)
  where
    same : (part : Part) → part_reading z image part ≡ parts_given z image header first second part
    same Header = h
    same (Block zero) = f
    same (Block (suc zero)) = s
    same (Block (suc (suc b))) = refl
