-- What the next boot lists of a crash
use Rattle.std.specs.Prelude.{◌≡◌, ℕ, true, false, List, [], ◌∷◌, ◌++◌, length, slice_get, Contains, Some, None, Ok}
use Rattle.zone_spec.specs.declared.Zone.{Zone}
use Rattle.zone_spec.specs.declared.Time.{Time}
use Rattle.zone_spec.specs.declared.Kind.TheVariants.{Dump as DumpKind}
use Rattle.zone_spec.specs.declared.Name.TheVariants.{Dump as DumpName}
use Rattle.zone_spec.specs.Parts.{AreBytes}
use Rattle.zone_spec.specs.Layouts.{IsLayout}
use Rattle.zone_spec.specs.TimeLines.{line_text, has_line}
use Rattle.zone_spec.specs.Records.{Listed, listed_of, record_of, is_of}
use Rattle.machine_spec.specs.States.{LiveState, Session, Live}
use Rattle.machine_spec.specs.Sound.{IsState}
use Rattle.machine_spec.specs.Erasures.{saved_logs}
use Rattle.machine_spec.specs.LiveZones.{Target}
use Rattle.grammar_spec.specs.declared.line.Line.{Line}
use Rattle.grammar_spec.specs.declared.line.Line.TheVariants.{Boot, Crash, Stop}
use Rattle.grammar_spec.specs.Printed.{AllHaveFields}
use Rattle.script_spec.specs.Scripts.{Kernel, Done, line_done, ran, dump_target, crash_body}
use Rattle.crash_laws.specs.Standing.{IsTold}
use Rattle.crash_laws.specs.Lines.{spares, AllSpare}

-- what a crash dumps: the time line, and its whole body
abbrev pub crash_dump : List Zone → LiveState → Kernel → ℕ → Time → List ℕ
crash_dump layout live kernel reason time = line_text time false ++ crash_body layout live kernel reason time

-- a crash that is done leaves its zone idle, and told its time line and its whole body
abbrev pub CrashTellsZone : Type 0
CrashTellsZone =
    (layout : List Zone) (live : LiveState) (kernel : Kernel) (reason : ℕ) (time : Time) (done : Done) (t : Target)
    → dump_target layout live ≡ Some t → line_done layout (Live live) kernel (Crash reason time) ≡ Ok done
    → IsTold t.zone t.place (crash_dump layout live kernel reason time) done.session

-- a line that leaves a dump zone alone keeps what it was told, a stop and a boot too
abbrev pub LinesKeepTold : Type 0
LinesKeepTold =
    (layout : List Zone) (mem : ℕ) (session : Session) (kernel : Kernel) (line : Line) (done : Done) (z : Zone)
    (place : ℕ) (told : List ℕ) → IsLayout layout mem → IsState layout mem session → slice_get layout place ≡ Some z
    → is_of DumpKind z.name.kind ≡ true → has_line told ≡ true → spares z session line ≡ true
    → line_done layout session kernel line ≡ Ok done
    → IsTold z place told session → IsTold z place told done.session

-- the record of a crash in this zone
abbrev pub crash_record : Zone → Time → List ℕ → Listed
crash_record z time body = record { name = DumpName z.name.index false; content = body; time = Some time }

-- a live machine lists a record, and finds it by its name
pub record Lists (layout : List Zone) (session : Session) (entry : Listed) : Type 0 where
  pub live : LiveState
  pub is_live : session ≡ Live live
  pub listed : Contains (listed_of (saved_logs layout live)) entry
  pub named : record_of (saved_logs layout live) entry.name ≡ Some entry

-- a crash, lines that leave its zone alone, and a boot: where no line is refused, the crash is listed with its whole
-- body
abbrev pub LaterBootListsCrash : Type 0
LaterBootListsCrash =
    (layout : List Zone) (mem : ℕ) (image : List ℕ) (before between : List Line) (reason : ℕ) (time : Time)
    (live : LiveState) (t : Target) → IsLayout layout mem → length image ≡ mem → AreBytes image
    → AllHaveFields (before ++ Crash reason time ∷ [] ++ between)
    → (ran layout image before).session ≡ Live live → dump_target layout live ≡ Some t
    → AllSpare layout image t.zone (before ++ Crash reason time ∷ []) between
    → (ran layout image (before ++ Crash reason time ∷ [] ++ between ++ Boot ∷ [])).refused ≡ None
    → Lists layout (ran layout image (before ++ Crash reason time ∷ [] ++ between ++ Boot ∷ [])).session
    (crash_record t.zone time (crash_body layout live (ran layout image before).kernel reason time))

-- a crash that is done, a stop and a boot: the crash is listed with its whole body
abbrev pub NextBootListsCrash : Type 0
NextBootListsCrash =
    (layout : List Zone) (mem : ℕ) (image : List ℕ) (before : List Line) (reason : ℕ) (time : Time) (live : LiveState)
    (t : Target) → IsLayout layout mem → length image ≡ mem → AreBytes image
    → AllHaveFields (before ++ Crash reason time ∷ []) → (ran layout image before).session ≡ Live live
    → dump_target layout live ≡ Some t → (ran layout image (before ++ Crash reason time ∷ [])).refused ≡ None
    → Lists layout (ran layout image (before ++ Crash reason time ∷ [] ++ Stop ∷ [] ++ Boot ∷ [])).session
    (crash_record t.zone time (crash_body layout live (ran layout image before).kernel reason time))
