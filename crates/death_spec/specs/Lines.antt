-- The lines of a crash log, as printk writes them (kernel/printk/printk.c): `<4>[    2.973642][   T12] text`, perhaps
-- after what a journal, a syslog or a serial capture wrote before them
use Rattle.std.specs.Prelude.{ℕ, ◌+◌, ◌-◌, ◌*◌, ◌%◌, Bool, true, false, ◌&&◌, ◌||◌, ◌==◌, nat_eq, nat_lt, nat_le}
use Rattle.std.specs.Prelude.{if◌then◌else◌, List, [], codes}
use Rattle.std.specs.Prelude.{◌∷◌, length, take, drop, slice_index, Option, Some, None}
use Rattle.std.specs.List.{slice_split, starts_with}
use Rattle.death_spec.specs.declared.Line.{Line}
use Rattle.death_spec.specs.declared.Class.TheVariants.{Blank, Digit, Number}
use Rattle.death_spec.specs.declared.Mark.{Mark}
use Rattle.death_spec.specs.declared.Mark.TheVariants.{Numbered, HungTask, OnTask, Blocked, Warning, Caution, Warned}
use Rattle.death_spec.specs.Marks.{run, front_len, mark_of, is_mark, place_of}
use Rattle.death_spec.specs.Fronts.{past_pieces}

-- where a bracket ends that opens at the front and has the bytes between two places in it; 0 if it is none
abbrev pub bracket_end : ℕ → ℕ → ℕ → ℕ → List ℕ → ℕ
bracket_end opening from to close text =
    if slice_index text 0 == opening && nat_lt from to && slice_index text to == close then to + 1 else 0

-- `<`, digits, `>`
abbrev pub level_len : List ℕ → ℕ
level_len text = bracket_end 60 1 (1 + run Digit (drop 1 text)) 62 text

-- `[`, blanks, digits and points, `]`
abbrev pub stamp_len : List ℕ → ℕ
stamp_len text =
    let from = 1 + run Blank (drop 1 text) in
    bracket_end 91 from (from + run Number (drop from text)) 93 text

-- `[`, blanks, `T` or `C`, digits, `]` (CONFIG_PRINTK_CALLER)
abbrev pub caller_len : List ℕ → ℕ
caller_len text =
    let letter = 1 + run Blank (drop 1 text) in
    if slice_index text letter == 84 || slice_index text letter == 67
    then bracket_end 91 (letter + 1) (letter + 1 + run Digit (drop (letter + 1) text)) 93 text else 0

-- without the carriage return that a serial console adds
abbrev pub unreturned_len : List ℕ → ℕ
unreturned_len piece = if slice_index piece (length piece - 1) == 13 then length piece - 1 else length piece

-- without the end of a colour, escape and `[0m`
abbrev pub uncoloured_len : List ℕ → ℕ
uncoloured_len piece =
    if starts_with nat_eq (drop (length piece - 4) piece) (27 ∷ codes "[0m") then length piece - 4 else length piece

abbrev pub content : List ℕ → List ℕ
content piece =
    let unreturned = take (unreturned_len piece) piece in take (uncoloured_len unreturned) unreturned

-- the line with these bytes, at a place of the text
unfoldable pub line_of : ℕ → List ℕ → Line
line_of at piece =
    let bytes = content piece in
    let level = past_pieces true 8 bytes 0 in
    let stamp = level + level_len (drop level bytes) in
    let caller = stamp + stamp_len (drop stamp bytes) in
    record {
      start = at;
      level = at + level;
      stamp = at + stamp;
      caller = at + caller;
      text = at + past_pieces false 8 bytes (caller + caller_len (drop caller bytes));
      end = at + length bytes;
      next = at + length piece + 1;
    }

unfoldable pub lines_at : ℕ → List (List ℕ) → List Line
lines_at at [] = []
lines_at at (piece ∷ pieces) = line_of at piece ∷ lines_at (at + length piece + 1) pieces

-- the lines of a text from a place on: what stands between newlines
unfoldable pub lines_from : List ℕ → ℕ → List Line
lines_from text at =
    if nat_le at (length text) then lines_at at (slice_split (λ b. b == 10) (drop at text)) else []

-- the bytes between two places
abbrev pub part : List ℕ → ℕ → ℕ → List ℕ
part text from to = take (to - from) (drop from text)

-- the number that digits spell after those of another, modulo 8
unfoldable pub digits_level : ℕ → List ℕ → ℕ
digits_level n [] = n
digits_level n (b ∷ bs) = digits_level ((10 * n + (b - 48)) % 8) bs

-- the level of a line, from 0, the gravest, to 7; what its number has above that is the facility (LOG_LEVEL)
abbrev pub level_of : List ℕ → Line → Option ℕ
level_of text line =
    if nat_lt line.level line.stamp then Some (digits_level 0 (part text (line.level + 1) (line.stamp - 1))) else None

-- a line of the kernel's own has a level from `<0>` to `<7>`, or no level is printed. A line that a program wrote has
-- a facility too, so its number is 8 or more (devkmsg_write)
abbrev pub is_kernels : List ℕ → Line → Bool
is_kernels text line =
    line.stamp == line.level || (line.stamp == line.level + 3 && nat_lt (slice_index text (line.level + 1)) 56)

-- what the kernel says in a line
abbrev pub said : List ℕ → Line → List ℕ
said text line = if is_kernels text line then part text line.text line.end else []

-- a processor's number can stand before the words that count, with a blank after it on MIPS, else a colon and a blank:
-- `CPU 0 Unable to handle kernel paging request ..`, `watchdog: CPU0: Watchdog detected hard LOCKUP on cpu 1`
abbrev pub unnumbered : List ℕ → List ℕ
unnumbered words =
    let end = front_len words + run Digit (drop (front_len words) words) in
    part words (if slice_index words end == 58 then end + 2 else end + 1) (length words)

-- whether words of a mark stand anywhere in a text
abbrev pub has : Mark → List ℕ → Bool
has mark words = nat_lt (place_of mark words) (length words)

-- a hung task's line says how long the task was blocked. A line on what it waits for does not:
-- `INFO: task a:10 is blocked on a mutex likely owned by task b:11.`
abbrev pub task_mark : List ℕ → Mark
task_mark words = if has Blocked words then HungTask else OnTask

-- a warning's line names its processor: `WARNING: boom.c:12 at f+0x1/0x2, CPU#0: sh/1`. Another that begins so does
-- not: `WARNING: stack recursion on stack type 4`
abbrev pub warning_mark : List ℕ → Mark
warning_mark words = if has Warned words then Warning else Caution

abbrev pub mark_in : List ℕ → Option Mark → Option Mark
mark_in words mark =
    if is_mark Numbered mark then mark_of (unnumbered words)
    else if is_mark OnTask mark then Some (task_mark words)
    else if is_mark Caution mark then Some (warning_mark words) else mark

-- what a line is
abbrev pub kind : List ℕ → Line → Option Mark
kind text line = mark_in (said text line) (mark_of (said text line))

abbrev pub is_a : List ℕ → Mark → Line → Bool
is_a text mark line = is_mark mark (kind text line)
