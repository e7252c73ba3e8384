-- What the report below the telling line names
use Rattle.std.specs.Prelude.{ℕ, ◌+◌, ◌-◌, ◌==◌, Bool, false, not, ◌&&◌, ◌||◌, nat_eq, nat_lt, if◌then◌else◌, List, []}
use Rattle.std.specs.Prelude.{◌∷◌, map, length, drop, slice_index, bytes_eq, codes, Option, Some, None}
use Rattle.std.specs.List.{take_while, starts_with}
use Rattle.std.specs.Option.{option_map, option_map_or, option_or}
use Rattle.death_spec.specs.declared.Line.{Line}
use Rattle.death_spec.specs.declared.Span.{Span}
use Rattle.death_spec.specs.declared.Function.{Function}
use Rattle.death_spec.specs.declared.Death.{Death}
use Rattle.death_spec.specs.declared.Class.TheVariants.{Blank, Digit, Name}
use Rattle.death_spec.specs.declared.Mark.{Mark}
use Rattle.death_spec.specs.declared.Mark.TheVariants.{Fault, Warning, HungTask, OnTask, Processor, Place, Link, Kernel}
use Rattle.death_spec.specs.declared.Mark.TheVariants.{Blocked, Offset, Own, Cut, Message, SoftLockup}
use Rattle.death_spec.specs.declared.Mark.TheVariants.{HardLockup, Locked, Stall}
use Rattle.death_spec.specs.declared.Above.{Above}
use Rattle.death_spec.specs.Marks.{run, is_mark, front_len, begins, place_of, is_blank}
use Rattle.death_spec.specs.Lines.{lines_from, part, said, kind, is_a}
use Rattle.death_spec.specs.Telling.{is_panic, is_of_oops, ends_report, telling_line}
use Rattle.death_spec.specs.Causes.{cause_of}
use Rattle.death_spec.specs.Traces.{name_at, unplaced, name_in, is_entry, entries_of, is_helper, to_blame}

-- the part of a line between two places of what it says, if it has a byte
abbrev pub span : Line → ℕ → ℕ → Option Span
span line from to =
    if nat_lt from to then Some (record { start = line.text + from; end = line.text + to }) else None

-- ---- the processor

-- where its number ends: `CPU: 0 PID: 1 Comm: sh Not tainted 6.1.0 #1` (dump_stack_print_info)
abbrev pub number_end : List ℕ → ℕ
number_end words = 5 + run Digit (drop 5 words)

abbrev pub cpu_in : List ℕ → Option Line → Option Span
cpu_in text None = None
cpu_in text (Some line) = span line 5 (number_end (said text line))

-- the one that a lockup's line names: `.. soft lockup - CPU#1 stuck for 5s! ..`, `.. detected hard LOCKUP on cpu 3`
abbrev pub is_lockup : Option Mark → Bool
is_lockup kind = is_mark SoftLockup kind || is_mark HardLockup kind

abbrev pub locked_at : List ℕ → ℕ
locked_at words = place_of Locked words + front_len (drop (place_of Locked words) words)

abbrev pub locked_in : List ℕ → Line → Option Span
locked_in text line =
    span line (locked_at (said text line))
    (locked_at (said text line) + run Digit (drop (locked_at (said text line)) (said text line)))

-- the first one that a stall of RCU lists, in the line below its own: `rcu: ⇥1-....: (20999 ticks this GP) idle=..`
abbrev pub listed_end : List ℕ → ℕ
listed_end words = front_len words + run Digit (drop (front_len words) words)

abbrev pub listed_in : List ℕ → List Line → Option Span
listed_in text [] = None
listed_in text (line ∷ lines) =
    if slice_index (said text line) (listed_end (said text line)) == 45
    then span line (front_len (said text line)) (listed_end (said text line)) else None

-- the processor that is stuck, if the report names it
abbrev pub stuck_of : List ℕ → Line → Option Span
stuck_of text telling =
    if is_lockup (kind text telling) then locked_in text telling
    else if is_mark Stall (kind text telling) then listed_in text (lines_from text telling.next) else None

-- that one, else the report's
abbrev pub cpu_of : List ℕ → Line → Option Line → Option Span
cpu_of text telling processor = option_or (stuck_of text telling) (cpu_in text processor)

-- ---- the lines of the report

-- whether two parts have the same bytes
abbrev pub are_same : List ℕ → Span → Span → Bool
are_same text a b = bytes_eq (part text a.start a.end) (part text b.start b.end)

-- whether a `CPU: ` line is the one of the processor that is stuck, and of another
abbrev pub is_own_number : List ℕ → Span → Option Span → Bool
is_own_number text stuck None = false
is_own_number text stuck (Some number) = are_same text stuck number

abbrev pub is_other_number : List ℕ → Option Span → Option Span → Bool
is_other_number text None number = false
is_other_number text (Some stuck) None = false
is_other_number text (Some stuck) (Some number) = not (are_same text stuck number)

abbrev pub is_own : List ℕ → Span → Option Mark → Line → Bool
is_own text stuck kind line = is_mark Processor kind && is_own_number text stuck (cpu_in text (Some line))

-- whether a line begins what is told of another: below a hung task the line on its blocker and each `CPU: `, and below a
-- processor that is stuck the `CPU: ` of another one
abbrev pub is_of_other : List ℕ → Option Mark → Option Span → Option Mark → Line → Bool
is_of_other text head stuck kind line =
    (is_mark HungTask head && (is_mark OnTask kind || is_mark Processor kind))
    || (is_mark Processor kind && is_other_number text stuck (cpu_in text (Some line)))

-- whether a line ends the report below a head
abbrev pub ends_below : List ℕ → Option Mark → Option Span → Option Mark → Line → Bool
ends_below text head stuck kind line =
    ends_report (is_of_oops head) kind || is_of_other text head stuck kind line

unfoldable pub first_where : (Line → Bool) → List Line → Option Line
first_where counts [] = None
first_where counts (line ∷ lines) = if counts line then Some line else first_where counts lines

-- the lines below a line up to the next report, of whatever processor
abbrev pub below : List ℕ → Line → List Line
below text telling =
    take_while (λ line. not (ends_report (is_of_oops (kind text telling)) (kind text line)))
    (lines_from text telling.next)

-- where the report begins: at the `CPU: ` of the processor that is stuck, if it is there. What stands before it can be of
-- another one, whose report is interleaved, or of a task that stalls for want of a processor
abbrev pub begin_by : List ℕ → Line → Option Span → ℕ
begin_by text telling None = telling.next
begin_by text telling (Some stuck) =
    option_map_or (λ line. line.start)
    (first_where (λ line. is_own text stuck (kind text line) line) (below text telling)) telling.next

abbrev pub begin_of : List ℕ → Line → ℕ
begin_of text telling = begin_by text telling (stuck_of text telling)

-- the lines of the report below a line
abbrev pub report : List ℕ → Line → List Line
report text telling =
    take_while (λ line. not (ends_below text (kind text telling) (stuck_of text telling) (kind text line) line))
    (lines_from text (begin_of text telling))

-- the first line of the report with a mark
abbrev pub first_in : List ℕ → Mark → Line → Option Line
first_in text mark telling = first_where (is_a text mark) (report text telling)

-- the report of a task that hangs is its trace alone: what else stands there is of other tasks
abbrev pub own_in : List ℕ → Mark → Line → Option Line
own_in text mark telling = if is_a text HungTask telling then None else first_in text mark telling

-- the first call trace in the report
abbrev pub trace_in : List ℕ → Line → List Line
trace_in text telling = entries_of text (first_where (λ line. is_entry (said text line)) (report text telling))

-- ---- task and kernel

-- where the task begins and ends
abbrev pub task_at : List ℕ → ℕ
task_at words = number_end words + run Blank (drop (number_end words) words)

abbrev pub task_end : List ℕ → ℕ
task_end words = number_end words + place_of Kernel (drop (number_end words) words)

abbrev pub task_in : List ℕ → Option Line → Option Span
task_in text None = None
task_in text (Some line) = span line (task_at (said text line)) (task_end (said text line))

abbrev pub kernel_in : List ℕ → Option Line → Option Span
kernel_in text None = None
kernel_in text (Some line) = span line (task_end (said text line) + 1) (length (said text line))

-- the task that hangs: `INFO: task stuck:28 blocked for more than 5 seconds.`
abbrev pub hung_in : List ℕ → Line → Option Span
hung_in text line = span line (front_len (said text line)) (place_of Blocked (said text line))

abbrev pub task_of : List ℕ → Line → Option Span
task_of text telling =
    if is_a text HungTask telling then hung_in text telling else task_in text (own_in text Processor telling)

-- the kernel; a task that hangs has a line of its own for it: `      Not tainted 6.12.0 #1`
abbrev pub own_kernel_in : List ℕ → Option Line → Option Span
own_kernel_in text None = None
own_kernel_in text (Some line) = span line 0 (length (said text line))

abbrev pub kernel_of : List ℕ → Line → Option Span
kernel_of text telling =
    if is_a text HungTask telling then own_kernel_in text (first_in text Own telling)
    else kernel_in text (own_in text Processor telling)

-- ---- the function

-- where the name begins that an offset follows, from a place on: behind the last blank or parenthesis, if one of these
-- stands there. MIPS, PowerPC and s390 print an address before the name
unfoldable pub named_from : ℕ → ℕ → List ℕ → Option ℕ
named_from at start [] = None
named_from at start (b ∷ bs) =
    if begins Offset (b ∷ bs) then Some start
    else named_from (at + 1) (if is_blank b || b == 40 then at + 1 else start) bs

-- without the parenthesis that s390 closes
abbrev pub place_end : List ℕ → ℕ
place_end words = if slice_index words (length words - 1) == 41 then length words - 1 else length words

abbrev pub name_from : List ℕ → Option ℕ
name_from words = named_from (front_len words) (front_len words) (drop (front_len words) words)

-- the function of a line such as `RIP: 0010:name+0x8/0x14`, if it is to blame
abbrev pub blamed_at : List ℕ → Line → Option ℕ → Option Span
blamed_at text line None = None
blamed_at text line (Some at) =
    if is_helper false (drop at (said text line)) then None else span line at (place_end (said text line))

abbrev pub place_in : List ℕ → Option Line → Option Span
place_in text None = None
place_in text (Some line) = blamed_at text line (name_from (said text line))

-- an entry of a trace from its name on, and up to the caller of 32-bit ARM
abbrev pub entry_end : List ℕ → ℕ
entry_end words =
    if slice_index words (name_at words + run Name (unplaced words)) == 43 then length words
    else name_at words + run Name (unplaced words)

abbrev pub entry_in : List ℕ → Option Line → Option Span
entry_in text None = None
entry_in text (Some line) = span line (name_at (said text line)) (entry_end (said text line))

-- the function to blame in the trace
abbrev pub traced_in : List ℕ → Line → Option Span
traced_in text telling = entry_in text (to_blame text (is_a text HungTask telling) (trace_in text telling))

-- whether a name is that of the next function, `name+0x0/0x94`
abbrev pub is_next_at : List ℕ → Span → Bool
is_next_at text s =
    starts_with nat_eq (part text (s.start + run Name (drop s.start text)) (length text)) (codes "+0x0/")

abbrev pub sure : Span → Function
sure s = record { span = s; is_next = false }

abbrev pub by_call : List ℕ → Span → Function
by_call text s = record { span = s; is_next = is_next_at text s }

-- what runs, to where that returns, and what called it
abbrev pub of_place : List ℕ → Line → Option Function
of_place text telling = option_map sure (place_in text (own_in text Place telling))

abbrev pub of_calls : List ℕ → Line → Option Function
of_calls text telling =
    option_map (by_call text)
    (option_or (place_in text (own_in text Link telling)) (traced_in text telling))

-- the place in a panic's report is that of the code that an interrupt stopped
abbrev pub function_in : List ℕ → Line → Option Function
function_in text telling =
    if is_panic (kind text telling)
    then option_or (option_map (by_call text) (traced_in text telling)) (of_place text telling)
    else option_or (of_place text telling) (of_calls text telling)

-- ---- the message

-- the last two lines in which the kernel says something
unfoldable pub last_two : List ℕ → Above → List Line → Above
last_two text found [] = found
last_two text found (line ∷ lines) =
    last_two text
    (if nat_lt 0 (length (said text line)) then record { upper = found.lower; lower = Some line } else found) lines

abbrev pub above : List ℕ → Line → Above
above text line =
    last_two (part text 0 line.start) (record { upper = None; lower = None }) (lines_from (part text 0 line.start) 0)

abbrev pub kind_if : List ℕ → Option Line → Option Mark
kind_if text None = None
kind_if text (Some line) = kind text line

-- a warning's message stands between `cut here` and its head, and that of a bug above both
-- (WARN, CHECK_DATA_CORRUPTION)
abbrev pub message_in : List ℕ → Option Mark → Above → Option Line
message_in text head found =
    if is_mark Warning head && is_mark Cut (kind_if text found.upper) && not (is_mark Cut (kind_if text found.lower))
    then found.lower
    else if is_mark Fault head && is_mark Message (kind_if text found.upper) && is_mark Cut (kind_if text found.lower)
    then found.upper else None

abbrev pub message_of : List ℕ → Line → Option Line
message_of text telling = message_in text (kind text telling) (above text telling)

-- ---- all of it

abbrev pub death_with : List ℕ → Line → Option Line → Option Line → Death
death_with text telling second processor = record {
  telling = telling;
  second = second;
  message = message_of text telling;
  cpu = cpu_of text telling processor;
  task = task_of text telling;
  kernel = kernel_of text telling;
  function = option_map (λ f. f.span) (function_in text telling);
  is_next = option_map_or (λ f. f.is_next) (function_in text telling) false;
}

abbrev pub death_at : List ℕ → Line → Option Line → Death
death_at text telling second = death_with text telling second (own_in text Processor telling)

abbrev pub death_by : List ℕ → Line → Option Line → Death
death_by text line None = death_at text line None
death_by text line (Some cause) = death_at text cause (Some line)

-- why the machine died, as the text tells it
unfoldable pub death_of : List ℕ → Option Death
death_of text = option_map (λ line. death_by text line (cause_of text line)) (telling_line text)

abbrev pub trace_by : List ℕ → Option Death → List Span
trace_by text None = []
trace_by text (Some death) = map (name_in text) (trace_in text death.telling)

-- the functions of the call trace in the telling line's report, the innermost first
unfoldable pub trace_of : List ℕ → List Span
trace_of text = trace_by text (death_of text)
