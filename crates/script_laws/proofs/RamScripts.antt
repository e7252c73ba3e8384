-- Scripts on the ram store as sessions
use Rattle.std.proofs.Common.{◌≡◌, ℕ, ◌+◌, Bool, true, false, cond, nat_lt, List, [], ◌∷◌, ◌++◌, length, slice_get}
use Rattle.std.proofs.Common.{refl, sym, ap, ◌∙◌, subst, Option, Some, None, is_some, Result, Ok, Err}
use Rattle.std.specs.List.{fold}
use Rattle.std.specs.Option.{option_map, option_map_or}
use Rattle.zone_spec.specs.declared.Zone.{Zone}
use Rattle.zone_spec.specs.Layouts.{IsLayout}
use Rattle.zone_spec.specs.Records.{Listed}
use Rattle.machine_spec.specs.States.{Session, Off, Live}
use Rattle.machine_spec.specs.Erasures.{saved_logs}
use Rattle.machine_spec.specs.Operations.{Operation, operated, left_by, session_after, EraseRecord}
use Rattle.machine_spec.specs.Operations.{Cause as SessionCause}
use Rattle.machine_spec.specs.Sound.{IsState}
use Rattle.grammar_spec.specs.declared.line.Line.{Line}
use Rattle.grammar_spec.specs.declared.line.Line.TheVariants.{Blank, Write, Dump, BeginWrite, BeginErase, BeginDump}
use Rattle.grammar_spec.specs.declared.line.Line.TheVariants.{Step, Finish, Stop, Flip, Boot, BootPart}
use Rattle.grammar_spec.specs.declared.line.Line.TheVariants.{List as ListLine, Extract, Erase, KDump, CutAfter, KMsg}
use Rattle.grammar_spec.specs.declared.line.Line.TheVariants.{Crash, Reserve, StoreNext}
use Rattle.grammar_spec.specs.Printed.{AllHaveFields}
use Rattle.script_spec.specs.Scripts.{Kernel, new_kernel, Done, Ran, ran_on, next_line, started, store_line, beside}
use Rattle.script_spec.specs.Scripts.{crashed, log_limit, line_done, done_or_refused, does, put_by, named, extracts_of}
use Rattle.script_spec.specs.Scripts.{erases_of}
use Rattle.script_spec.specs.declared.Cause.{Cause}
use Rattle.script_spec.specs.declared.Cause.TheVariants.{TooLong}
use Rattle.history_spec.specs.Written.{written_by, written, written_in}
use Rattle.history_laws.specs.Laws.{TellsWritten}
use Rattle.history_laws.proofs.WrittenLogs.{operation_tells, fresh_tells, state_reads_written}
use Rattle.history_laws.proofs.NextBoot.{after_append}
use Rattle.script_laws.specs.RamScripts.{operation_of, operations_from, script_operations, RamScriptsAreSessions}
use Rattle.script_laws.specs.RamScripts.{ScriptsReadWritten}
use Rattle.script_laws.proofs.SoundStates.{IsSound, fold_sound, start_sound}

-- a line's operation, where no line before it was refused
abbrev operation_unless : Option Cause → Option Operation → List Operation
operation_unless c o = cond (is_some c) [] (option_map_or (λ (o : Operation). o ∷ []) o [])

-- the state that a line leaves
abbrev line_left : Session → Result Done Cause → Session
line_left session (Ok done) = done.session
line_left session (Err cause) = session

-- an operation's line leaves what the operation leaves
does_left : (layout : List Zone) (session : Session) (kernel : Kernel) (o : Operation)
    → line_left session (beside kernel (does layout session o)) ≡ session_after layout session (o ∷ [])
unfolding session_after
does_left layout session kernel o = by (operated layout session o)
  where
    by : (r : Result Session SessionCause)
        → line_left session (beside kernel (done_or_refused session (put_by layout session o) r)) ≡ left_by session r
    by (Ok next) = refl
    by (Err cause) = refl

none_left : (layout : List Zone) (session : Session) → session ≡ session_after layout session []
unfolding session_after
none_left layout session = refl

-- the state and the operation of each line
line_is : (layout : List Zone) (session : Session) (kernel : Kernel) (line : Line)
    → line_left session (line_done layout session kernel line)
    ≡ session_after layout session (operation_unless None (operation_of layout session kernel line))
unfolding line_done store_line
line_is layout session kernel Blank = none_left layout session
line_is layout session kernel (Write z bytes) = does_left layout session kernel _
line_is layout session kernel (Dump time packed bytes) = does_left layout session kernel _
line_is layout session kernel (BeginWrite z bytes) = does_left layout session kernel _
line_is layout session kernel (BeginErase z) = does_left layout session kernel _
line_is layout session kernel (BeginDump time packed bytes) = does_left layout session kernel _
line_is layout session kernel (Step z k) = does_left layout session kernel _
line_is layout session kernel (Finish z) = does_left layout session kernel _
line_is layout session kernel Stop = does_left layout session new_kernel _
line_is layout session kernel (Flip place mask) = does_left layout session kernel _
line_is layout session kernel Boot = does_left layout session new_kernel _
line_is layout session kernel (BootPart k) = does_left layout session kernel _
line_is layout (Off off) kernel ListLine = none_left layout (Off off)
line_is layout (Live live) kernel ListLine = none_left layout (Live live)
line_is layout (Off off) kernel (Extract name) = none_left layout (Off off)
line_is layout (Live live) kernel (Extract name) = by (named (saved_logs layout live) name)
  where
    by : (o : Option Listed) → line_left (Live live) (beside kernel (extracts_of layout live o))
        ≡ session_after layout (Live live) []
    by None = none_left layout (Live live)
    by (Some r) = none_left layout (Live live)
line_is layout (Off off) kernel (Erase name) = none_left layout (Off off)
line_is layout (Live live) kernel (Erase name) = by (named (saved_logs layout live) name)
  where
    by : (o : Option Listed) → line_left (Live live) (beside kernel (erases_of layout live o))
        ≡ session_after layout (Live live) (operation_unless None (option_map (λ (r : Listed). EraseRecord r.name) o))
    by None = none_left layout (Live live)
    by (Some r) = does_left layout (Live live) kernel (EraseRecord r.name)
line_is layout (Off off) kernel (KMsg text) = none_left layout (Off off)
line_is layout (Live live) kernel (KMsg text) = by (nat_lt log_limit (length text + 1))
  where
    by : (b : Bool) → line_left (Live live) (cond b (Err TooLong) (Ok (record {
      session = Live live;
      kernel = record kernel { printed = kernel.printed ++ text ∷ [] };
      text = [];
    }))) ≡ session_after layout (Live live) []
    by true = none_left layout (Live live)
    by false = none_left layout (Live live)
line_is layout (Off off) kernel (Crash reason time) = none_left layout (Off off)
line_is layout (Live live) kernel (Crash reason time) = does_left layout (Live live) (crashed kernel) _
line_is layout session kernel (KDump secs nanos packed reason bytes) = none_left layout session
line_is layout session kernel (CutAfter k) = none_left layout session
line_is layout session kernel (Reserve bytes) = none_left layout session
line_is layout session kernel (StoreNext ticket k) = none_left layout session

-- one line of a script
next_is : (layout : List Zone) (r : Ran) (line : Line)
    → (next_line layout r line).session
    ≡ session_after layout r.session (operation_unless r.refused (operation_of layout r.session r.kernel line))
next_is layout r line = by r.refused
  where
    on : (d : Result Done Cause) → (ran_on r None d).session ≡ line_left r.session d
    on (Ok done) = refl
    on (Err cause) = refl

    by : (c : Option Cause) → (ran_on r c (line_done layout r.session r.kernel line)).session
        ≡ session_after layout r.session (operation_unless c (operation_of layout r.session r.kernel line))
    by (Some cause) = none_left layout r.session
    by None = on (line_done layout r.session r.kernel line) ∙ line_is layout r.session r.kernel line

-- and all lines
ran_is : (layout : List Zone) (r : Ran) (lines : List Line)
    → (fold (next_line layout) r lines).session ≡ session_after layout r.session (operations_from layout r lines)
unfolding operations_from
ran_is layout r [] = none_left layout r.session
ran_is layout r (line ∷ lines) =
    ran_is layout (next_line layout r line) lines
    ∙ ap (λ s. session_after layout s (operations_from layout (next_line layout r line) lines)) (next_is layout r line)
    ∙ sym (after_append layout r.session _ (operations_from layout (next_line layout r line) lines))

pub ram_scripts_are_sessions : RamScriptsAreSessions
ram_scripts_are_sessions layout image lines = ran_is layout (started layout image) lines

-- ---- what was written

written_append : (layout : List Zone) (i : ℕ) (z : Zone) (w : Option (List ℕ)) (s : Session) (xs ys : List Operation)
    → written layout i z w s (xs ++ ys)
    ≡ written layout i z (written layout i z w s xs) (session_after layout s xs) ys
unfolding written session_after
written_append layout i z w s [] ys = refl
written_append layout i z w s (o ∷ xs) ys =
    let r = operated layout s o in written_append layout i z (written_by layout i z s o r w) (left_by s r) xs ys

module _ (layout : List Zone) (mem : ℕ) (lies : IsLayout layout mem) (i : ℕ) (z : Zone)
    (hz : slice_get layout i ≡ Some z) where
  one_tells : (w : Option (List ℕ)) (s : Session) (c : Option Cause) (o : Option Operation) → IsState layout mem s
      → IsState layout mem (session_after layout s (operation_unless c o)) → TellsWritten i z w s
      → TellsWritten i z (written layout i z w s (operation_unless c o)) (session_after layout s (operation_unless c o))
  unfolding written session_after
  one_tells w s (Some cause) o state next h = h
  one_tells w s None None state next h = h
  one_tells w s None (Some o) state next h = operation_tells layout mem lies i z hz w s o state h next

  none_written : (w : Option (List ℕ)) (s : Session) → w ≡ written layout i z w s []
  unfolding written
  none_written w s = refl

  lines_tell : (w : Option (List ℕ)) (r : Ran) (lines : List Line) → IsSound layout mem r.session r.kernel
      → AllHaveFields lines → TellsWritten i z w r.session
      → TellsWritten i z (written layout i z w r.session (operations_from layout r lines))
      (fold (next_line layout) r lines).session
  unfolding operations_from
  lines_tell w r [] sound fit h = subst (λ v. TellsWritten i z v r.session) (none_written w r.session) h
  lines_tell w r (line ∷ lines) sound fit h =
      let ops : List Operation = operation_unless r.refused (operation_of layout r.session r.kernel line) in
      let next : Ran = next_line layout r line in
      let well : IsSound layout mem next.session next.kernel =
      fold_sound layout mem (line ∷ []) r lies sound (fit.0, tt) in
      let same : next.session ≡ session_after layout r.session ops = next_is layout r line in
      let here : TellsWritten i z (written layout i z w r.session ops) next.session =
      subst (TellsWritten i z (written layout i z w r.session ops)) (sym same)
      (one_tells w r.session r.refused (operation_of layout r.session r.kernel line) sound.state
      (subst (IsState layout mem) same well.state) h) in
      let all : written layout i z (written layout i z w r.session ops) next.session (operations_from layout next lines)
      ≡ written layout i z w r.session (ops ++ operations_from layout next lines) =
      ap (λ s. written layout i z (written layout i z w r.session ops) s (operations_from layout next lines)) same
      ∙ sym (written_append layout i z w r.session ops (operations_from layout next lines)) in
      subst (λ v. TellsWritten i z v (fold (next_line layout) next lines).session) all
      (lines_tell (written layout i z w r.session ops) next lines well fit.1 here)

pub scripts_read_written : ScriptsReadWritten
scripts_read_written layout mem image lines lies size are fit off i z zone bytes e hz hv w =
    let sound = start_sound layout mem image lies size are in
    let tells = lines_tell layout mem lies i z hz None (started layout image) lines sound fit
    (fresh_tells layout image i z hz) in
    let state = (fold_sound layout mem lines (started layout image) lies sound fit).state in
    state_reads_written layout mem off i z zone bytes lies (subst (IsState layout mem) e state)
    (subst (λ v. TellsWritten i z v (Off off)) w
    (subst (TellsWritten i z (written_in layout image (script_operations layout image lines) i z)) e tells)) hz hv
