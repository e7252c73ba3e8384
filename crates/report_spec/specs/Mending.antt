-- A record whose doubtful bytes are taken from the same lines of another record, which vouches for them
use Rattle.std.specs.Prelude.{ℕ, ◌-◌, ◌==◌, ◌&&◌, ◌||◌, not, Bool, true, false, nat_lt, if◌then◌else◌, List, [], ◌∷◌}
use Rattle.std.specs.Prelude.{◌++◌, length, map, flat_map, slice_get, slice_index, Option, Some, None}
use Rattle.std.specs.List.{find, list_all, list_any, count_by, range_with_len}
use Rattle.std.specs.Option.{unwrap_or, option_map}
use Rattle.zone_spec.specs.declared.Name.{Name}
use Rattle.zone_spec.specs.declared.Name.TheVariants.{Dump, Console, Pmsg, Ftrace}
use Rattle.zone_spec.specs.PartStates.{PartStates}
use Rattle.death_spec.specs.declared.Line.{Line}
use Rattle.death_spec.specs.Lines.{lines_from, part}
use Rattle.report_spec.specs.declared.Packing.{Packing}
use Rattle.report_spec.specs.declared.Packing.TheVariants.{Plain, Whole, Part}
use Rattle.report_spec.specs.Packed.{RecordShown, readable}
use Rattle.report_spec.specs.Newest.{newest, console_of, is_console}
use Rattle.report_spec.specs.Deaths.{is_same_dump}
use Rattle.report_spec.specs.Doubts.{doubts_between, has_doubt}
use Rattle.report_spec.specs.Facts.{is_digit, with_digit}
use Rattle.report_spec.specs.Warnings.{is_bad}

-- a text, and of each of its bytes whether it is doubtful; those past the end of the doubts are not
pub record Seen : Type 0 where
  pub text : List ℕ
  pub doubts : List Bool

abbrev pub is_doubted : Seen → ℕ → Bool
is_doubted s k = unwrap_or (slice_get s.doubts k) false

-- a line from its stamp on, with its newline: a dump has a level in front of it, and a console has none
abbrev pub stamped_in : Seen → Line → Seen
stamped_in s line = record {
  text = part s.text line.stamp line.next;
  doubts = doubts_between s.doubts line.stamp line.next;
}

-- ---- the same line

abbrev pub has_stamp : Line → Bool
has_stamp line = nat_lt line.stamp line.caller

abbrev pub number_and : ℕ → ℕ → ℕ
number_and n b = if is_digit b then with_digit n b else n

-- the number that the digits of a stamp spell, such as 12345678 for `[   12.345678]`
unfoldable pub digits_from : ℕ → List ℕ → ℕ
digits_from n [] = n
digits_from n (b ∷ bs) = digits_from (number_and n b) bs

-- lines are looked for by the number of the stamp, and by how long they are from it on
abbrev pub key_of : List ℕ → Line → ℕ × ℕ
key_of text line = (digits_from 0 (part text line.stamp line.caller), line.next - line.stamp)

abbrev pub is_keyed : List ℕ → ℕ × ℕ → Line → Bool
is_keyed text key line =
    has_stamp line && ((key.0 == (key_of text line).0) && (key.1 == (key_of text line).1))

-- whether a byte of two lines is the same, as far as both are vouched for
abbrev pub agree : Seen → Seen → ℕ → Bool
agree x y k = is_doubted x k || is_doubted y k || (slice_index x.text k == slice_index y.text k)

-- whether two lines are one: as long, with the same bytes as far as both are vouched for
abbrev pub can_be : Seen → Seen → Bool
can_be x y = (length x.text == length y.text) && list_all (agree x y) (range_with_len 0 (length x.text))

abbrev pub partner_if : (a b : Seen) → Line → Option Line → Option Line
partner_if a b line None = None
partner_if a b line (Some other) = if can_be (stamped_in a line) (stamped_in b other) then Some other else None

-- the line of another text that a line with doubtful bytes is: the first of its stamp and length, if it can be that line
abbrev pub partner : (a b : Seen) → Line → Option Line
partner a b line =
    if has_stamp line && has_doubt a.doubts line.stamp line.next
    then partner_if a b line (find (is_keyed b.text (key_of a.text line)) (lines_from b.text 0)) else None

-- ---- a text, mended

-- a byte that is doubtful comes from the other line, if that vouches for it
abbrev pub mended_byte : Seen → Seen → ℕ → ℕ
mended_byte x y k =
    if is_doubted x k && not (is_doubted y k) then slice_index y.text k else slice_index x.text k

-- a byte stays doubtful that is so in both
abbrev pub still_doubted : Seen → Seen → ℕ → Bool
still_doubted x y k = is_doubted x k && is_doubted y k

abbrev pub mended_line : (a b : Seen) → Line → Option Line → List ℕ
mended_line a b line None = part a.text line.start line.next
mended_line a b line (Some other) =
    part a.text line.start line.stamp
    ++ map (mended_byte (stamped_in a line) (stamped_in b other))
    (range_with_len 0 (length (stamped_in a line).text))

abbrev pub line_doubts : (a b : Seen) → Line → Option Line → List Bool
line_doubts a b line None = doubts_between a.doubts line.start line.next
line_doubts a b line (Some other) =
    doubts_between a.doubts line.start line.stamp
    ++ map (still_doubted (stamped_in a line) (stamped_in b other))
    (range_with_len 0 (length (stamped_in a line).text))

-- of some lines of a text
unfoldable pub mended_lines : (a b : Seen) → List Line → List ℕ
mended_lines a b lines = flat_map (λ line. mended_line a b line (partner a b line)) lines

unfoldable pub lines_doubts : (a b : Seen) → List Line → List Bool
lines_doubts a b lines = flat_map (λ line. line_doubts a b line (partner a b line)) lines

-- a text, each byte of it that is doubtful taken from the same line of another that vouches for it
abbrev pub mended_text : (a b : Seen) → List ℕ
mended_text a b = mended_lines a b (lines_from a.text 0)

-- the doubts that are left
abbrev pub doubts_left : (a b : Seen) → List Bool
doubts_left a b = lines_doubts a b (lines_from a.text 0)

-- ---- a record, mended by another

pub record Mending : Type 0 where
  pub by : Name
  pub text : List ℕ
  pub doubts : List Bool

abbrev pub seen_in : RecordShown → Seen
seen_in r = record { text = readable r; doubts = r.doubts }

abbrev pub mending_by : RecordShown → RecordShown → Mending
mending_by r other = record {
  by = other.name;
  text = mended_text (seen_in r) (seen_in other);
  doubts = doubts_left (seen_in r) (seen_in other);
}

abbrev pub is_doubt : Bool → Bool
is_doubt doubt = doubt

abbrev pub if_fewer : List Bool → Mending → Option Mending
if_fewer doubts m = if nat_lt (count_by is_doubt m.doubts) (count_by is_doubt doubts) then Some m else None

abbrev pub is_sound : Option PartStates → Bool
is_sound None = false
is_sound (Some zone) = not (list_any is_bad zone.blocks)

abbrev pub zone_of : List PartStates → Name → Option PartStates
zone_of parts (Dump index packed) = slice_get parts index
zone_of parts Console = None
zone_of parts Pmsg = None
zone_of parts Ftrace = None

-- of a packed dump it is not known which byte of its text a bad block reaches
abbrev pub knows_doubts : List PartStates → Packing (List ℕ) → Name → Bool
knows_doubts parts Plain name = true
knows_doubts parts (Whole taken) name = is_sound (zone_of parts name)
knows_doubts parts (Part fault text) name = false

-- whether parity vouches for the bytes without a doubt; a record without parity has no notice
abbrev pub vouches : List PartStates → RecordShown → Bool
vouches parts r = nat_lt 0 r.notice && knows_doubts parts r.packing r.name

-- how the one record is mended by the other, if fewer of its bytes are doubtful then
abbrev pub mending : List PartStates → Option RecordShown → Option RecordShown → Option Mending
mending parts None other = None
mending parts (Some r) None = None
mending parts (Some r) (Some other) =
    if list_any is_doubt r.doubts && vouches parts other
    then if_fewer r.doubts (mending_by r other) else None

abbrev pub with_mending : Option Mending → RecordShown → RecordShown
with_mending None r = r
with_mending (Some m) r = record r { mended = Some (record { by = m.by; text = m.text }); doubts = m.doubts }

abbrev pub is_dump_of : Option Name → Name → Bool
is_dump_of None name = false
is_dump_of (Some dump) name = is_same_dump dump name

-- a record, of which the console and the dump of this name are mended so
abbrev pub mended_in : (console dump : Option Mending) → Option Name → RecordShown → RecordShown
mended_in console dump name r =
    if is_console r.name then with_mending console r
    else (if is_dump_of name r.name then with_mending dump r else r)

-- the records, the console mended by the newest dump, and this by the console
abbrev pub records_mended : List PartStates → List RecordShown → List RecordShown
records_mended parts records =
    map (mended_in (mending parts (console_of records) (newest records))
    (mending parts (newest records) (console_of records))
    (option_map (λ (dump : RecordShown). dump.name) (newest records))) records
