-- The pieces of a text
use Rattle.std.specs.Prelude.{ℕ, ◌-◌, ◌++◌, List, length, take, min, map, flat_map, codes, decimal}
use Rattle.zone_spec.specs.declared.Name.{Name}
use Rattle.zone_spec.specs.declared.Time.{Time}
use Rattle.report_spec.specs.declared.Origin.{Origin}
use Rattle.report_spec.specs.Moments.{moment_text, long_text}
use Rattle.report_spec.specs.Origins.{name_in}
use Rattle.report_spec.specs.Visible.{visible}
use Rattle.report_text.specs.declared.pieces.Piece.{Piece}
use Rattle.report_text.specs.declared.pieces.Piece.TheVariants.{Own, Number, Foreign, Moment as MomentPiece}
use Rattle.report_text.specs.declared.pieces.Piece.TheVariants.{Long as LongPiece, Named as NamedPiece}

-- a part of a text: its own words; a number, with blanks before it up to so many columns; foreign bytes; a time; seconds
-- in larger units; or the name of a record's file
pub data Part : Type 0 where
  Words : (text : List ℕ) → Part
  Count : (columns n : ℕ) → Part
  Bytes : (bytes : List ℕ) → Part
  Moment : (time : Time) → Part
  Long : (seconds : ℕ) → Part
  Named : (name : Name) → Part

-- a number in decimal, after as many blanks as make so many columns
abbrev pub filled : ℕ → ℕ → List ℕ
filled columns n =
    take (min (columns - length (decimal n)) 20) (codes "                    ") ++ decimal n

-- records have the names that they have there
abbrev pub part_text : Origin → Part → List ℕ
part_text origin (Words text) = visible text
part_text origin (Count columns n) = visible (filled columns n)
part_text origin (Bytes bytes) = visible bytes
part_text origin (Moment time) = visible (moment_text time)
part_text origin (Long seconds) = visible (long_text seconds)
part_text origin (Named name) = visible (name_in origin name)

-- the text of parts, end to end
abbrev pub parts_text : Origin → List Part → List ℕ
parts_text origin parts = flat_map (part_text origin) parts

-- the part of a text that a piece is
abbrev pub part_of : Piece → Part
part_of (Own text) = Words text.now
part_of (Number columns n) = Count columns n
part_of (Foreign bytes) = Bytes bytes.now
part_of (MomentPiece time) = Moment time
part_of (LongPiece seconds) = Long seconds
part_of (NamedPiece name) = Named name

abbrev pub parts : List Piece → List Part
parts pieces = map part_of pieces

abbrev pub piece_text : Origin → Piece → List ℕ
piece_text origin piece = part_text origin (part_of piece)
