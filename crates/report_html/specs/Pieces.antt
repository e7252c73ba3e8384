-- The parts of a page
use Rattle.std.specs.Prelude.{ℕ, Bool, List, ◌++◌, map, flat_map, codes, decimal}
use Rattle.zone_spec.specs.declared.Name.{Name}
use Rattle.zone_spec.specs.declared.Time.{Time}
use Rattle.report_spec.specs.declared.Origin.{Origin}
use Rattle.report_spec.specs.Escaped.{escaped}
use Rattle.report_spec.specs.Moments.{moment_text, long_text}
use Rattle.report_spec.specs.Origins.{name_in}
use Rattle.report_html.specs.Logs.{log_text}
use Rattle.report_html.specs.declared.pieces.Piece.{Piece}
use Rattle.report_html.specs.declared.pieces.Piece.TheVariants.{Own, Number, Foreign, Moment as MomentPiece}
use Rattle.report_html.specs.declared.pieces.Piece.TheVariants.{Log as LogPiece, Named as NamedPiece, Link as LinkPiece}
use Rattle.report_html.specs.declared.pieces.Piece.TheVariants.{Long as LongPiece}

-- a part of a page: its own words; a number in decimal; foreign bytes, which are escaped; a time; seconds in larger
-- units; a log with its doubts, whose lines are foreign bytes; the name of a record's file, which is also its anchor; or a link to a
-- record, in its name
pub data Part : Type 0 where
  Words : (text : List ℕ) → Part
  Count : (n : ℕ) → Part
  Bytes : (bytes : List ℕ) → Part
  Moment : (time : Time) → Part
  Long : (seconds : ℕ) → Part
  Log : (doubts : List Bool) → (text : List ℕ) → Part
  Named : (name : Name) → Part
  Link : (name : Name) → Part

abbrev pub link_text : Origin → Name → List ℕ
link_text origin name =
    codes "<a href=\"#" ++ name_in origin name ++ codes "\">" ++ name_in origin name ++ codes "</a>"

-- records have the names that they have there
abbrev pub part_text : Origin → Part → List ℕ
part_text origin (Words text) = text
part_text origin (Count n) = decimal n
part_text origin (Bytes bytes) = escaped bytes
part_text origin (Moment time) = moment_text time
part_text origin (Long seconds) = long_text seconds
part_text origin (Log doubts text) = log_text doubts text
part_text origin (Named name) = name_in origin name
part_text origin (Link name) = link_text origin name

-- the text of parts, end to end
abbrev pub parts_text : Origin → List Part → List ℕ
parts_text origin parts = flat_map (part_text origin) parts

-- the part of a page that a piece is
abbrev pub part_of : Piece → Part
part_of (Own text) = Words text.now
part_of (Number n) = Count n
part_of (Foreign bytes) = Bytes bytes.now
part_of (MomentPiece time) = Moment time
part_of (LongPiece seconds) = Long seconds
part_of (LogPiece doubts text) = Log doubts.now text.now
part_of (NamedPiece name) = Named name
part_of (LinkPiece name) = Link name

abbrev pub parts : List Piece → List Part
parts pieces = map part_of pieces

abbrev pub piece_text : Origin → Piece → List ℕ
piece_text origin piece = part_text origin (part_of piece)
