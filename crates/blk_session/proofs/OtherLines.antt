-- Lines that put a text, that wait for a loading, that are of the other store alone, or do nothing
use Rattle.std.specs.Bool.{⊤}
use Rattle.std.specs.Global.{Vec}
use Rattle.std.specs.Prelude.{MatchResult, IsSome}
use Rattle.std.specs.Option.{option_map}
use Rattle.std.proofs.Common.{◌≡◌, ◌≢◌, ℕ, ◌<◌, ◌^◌, Bool, true, List, [], Option, Some, None, Result, Ok, Err, refl}
use Rattle.std.proofs.Common.{sym, ap, ◌∙◌, inr}
use Rattle.zone_spec.specs.declared.ZoneName.{ZoneName}
use Rattle.blk_spec.specs.declared.BlkLayout.{BlkLayout}
use Rattle.blk_spec.specs.declared.BlkName.{BlkName}
use Rattle.blk_spec.specs.declared.BlkRing.{BlkRing}
use Rattle.blk_spec.specs.Answers.{Device}
use Rattle.blk_spec.specs.States.{BlkState, is_listed}
use Rattle.blk_spec.specs.Session.{Session, Extract as ExtractRecord, cause_of, session_after}
use Rattle.grammar_spec.specs.Printed.{HasFields}
use Rattle.grammar_spec.specs.declared.line.Line.{Line}
use Rattle.grammar_spec.specs.declared.line.Line.TheVariants.{Blank, Write, Dump, BeginWrite, BeginErase, BeginDump}
use Rattle.grammar_spec.specs.declared.line.Line.TheVariants.{Step, Finish, Stop, Flip, Boot, BootPart}
use Rattle.grammar_spec.specs.declared.line.Line.TheVariants.{List as ListLine, Extract, Erase, KDump, CutAfter, KMsg}
use Rattle.grammar_spec.specs.declared.line.Line.TheVariants.{Crash, Reserve, StoreNext}
use Rattle.script_spec.specs.BlkScripts.{blk_line_done, operation_of, performs, append_to, ring_for, blk_listing}
use Rattle.script_spec.specs.BlkScripts.{blk_named, blk_extract_text}
use Rattle.script_spec.specs.declared.Cause.{Cause}
use Rattle.script_spec.specs.declared.Cause.TheVariants.{IsOff, NotHere, NoRecord}
use Rattle.blk_session.specs.declared.errors.LineError.{LineError}
use Rattle.blk_session.specs.declared.errors.LineError.TheVariants.{Memory, StoreFault, Refused}
use Rattle.blk_session.specs.Lines.{LineDone, IsWanted, LineFails, IsExtract}
use Rattle.blk_session.proofs.Operations.{as_operation, line_done, line_fails}
use Rattle.blk_session.proofs.RecordNames.{named_listed}

pub blank_done : (layout : BlkLayout) (old : Option BlkState) (store : Device)
    → LineDone layout old Blank old [] store store
unfolding blk_line_done operation_of
blank_done layout old store = record {
  told = λ bytes told. record { after = bytes; holds = told; done = refl };
  asked = refl;
  unread = refl;
}

-- the same of a line that is known to be blank, or to load, and of a text that is known
pub blank_line : (layout : BlkLayout) (old : Option BlkState) (line : Line) (text : List ℕ) (store : Device)
    → line ≡ Blank → text ≡ [] → LineDone layout old line old text store store
blank_line layout old line text store e t = rw (e, t) (blank_done layout old store)

pub boot_line : (layout : BlkLayout) (old new : Option BlkState) (line : Line) (text : List ℕ) (before now : Device)
    → line ≡ Boot → text ≡ [] → LineDone layout old Boot new [] before now
    → LineDone layout old line new text before now
boot_line layout old new line text before now e t h = rw (e, t) h

pub list_done : (b : BlkState) (text : List ℕ) (store : Device) → text ≡ blk_listing b
    → LineDone b.layout (Some b) ListLine (Some b) text store store
unfolding blk_line_done operation_of cause_of session_after
list_done b text store e = record {
  told = λ bytes told. record { after = bytes; holds = told; done = rw e refl };
  asked = refl;
  unread = refl;
}

pub list_memory : (b : BlkState) (store : Device) (faults : ℕ)
    → LineFails Memory b.layout (Some b) ListLine store store faults faults
unfolding blk_line_done operation_of cause_of session_after
list_memory b store faults = (
  (refl, refl),
  tt,
  λ bytes. record {
    wants = record { session = record { store = bytes; blk = Some b }; text = blk_listing b };
    is = refl;
  },
  inr refl,
)

-- ---- the text of a record

extract_is : (old : Option BlkState) (text : List ℕ) (name : Option BlkName) → name ≡ blk_named old text
    → operation_of old (Extract text) ≡ Some (ExtractRecord name)
unfolding operation_of
extract_is old text name e = ap (λ (n : Option BlkName). Some (ExtractRecord n)) (sym e)

extracts : (b : BlkState) (name : BlkName) (bytes : List ℕ) → is_listed b name ≡ true
    → performs b.layout (record { store = bytes; blk = Some b }) (ExtractRecord (Some name))
    ≡ Ok (record { session = record { store = bytes; blk = Some b }; text = blk_extract_text b name })
unfolding cause_of session_after
extracts b name bytes e = rw e refl

pub extract_done : (b : BlkState) (name text : List ℕ) (store : Device)
    → option_map (blk_extract_text b) (blk_named (Some b) name) ≡ Some text
    → LineDone b.layout (Some b) (Extract name) (Some b) text store store
extract_done b name text store h = of-named (blk_named (Some b) name) refl h
  where
    of-named : (found : Option BlkName) → found ≡ blk_named (Some b) name
        → option_map (blk_extract_text b) found ≡ Some text
        → LineDone b.layout (Some b) (Extract name) (Some b) text store store
    of-named None e m = cc
    of-named (Some n) e m =
        let told : blk_extract_text b n ≡ text = cc in
        line_done b.layout (Some b) (Extract name) (ExtractRecord (Some n)) (extract_is (Some b) name (Some n) e)
        (Some b) text store store
        (record {
          told = λ bytes held. record {
            after = bytes;
            holds = held;
            done = extracts b n bytes (named_listed b name n (sym e))
                ∙ ap (λ (t : List ℕ). Ok (record { session = record { store = bytes; blk = Some b }; text = t })) told;
          };
          asked = refl;
          unread = refl;
        })

pub extract_memory : (b : BlkState) (name : List ℕ) (store : Device) (faults : ℕ)
    → IsSome (blk_named (Some b) name) → LineFails Memory b.layout (Some b) (Extract name) store store faults faults
extract_memory b name store faults h =
    ((refl, refl), tt, λ bytes. of-named bytes (blk_named (Some b) name) refl h, inr refl)
  where
    of-named : (bytes : List ℕ) (found : Option BlkName) → found ≡ blk_named (Some b) name → IsSome found
        → IsWanted (blk_line_done b.layout (record { store = bytes; blk = Some b }) (Extract name))
    of-named bytes None e m = cc
    of-named bytes (Some n) e m = record {
      wants = record { session = record { store = bytes; blk = Some b }; text = blk_extract_text b n };
      is = as_operation b.layout (record { store = bytes; blk = Some b }) (Extract name) (ExtractRecord (Some n))
          (extract_is (Some b) name (Some n) e) ∙ extracts b n bytes (named_listed b name n (sym e));
    }

pub extract_refused : (b : BlkState) (name : List ℕ) (cause : Cause) (store : Device) (faults : ℕ)
    → (cause ≡ NoRecord) × (blk_named (Some b) name ≡ None)
    → LineFails (Refused cause) b.layout (Some b) (Extract name) store store faults faults
unfolding cause_of session_after
extract_refused b name cause store faults h =
    line_fails b.layout (Some b) (Extract name) (ExtractRecord None) (extract_is (Some b) name None (sym h.1))
    (Refused cause) store store faults faults (refl, λ bytes. rw h.0 refl)

pub extract_ends : (result : Result (Vec ℕ) LineError) (b : BlkState) (name : List ℕ) (store : Device)
    (faults : ℕ) → IsExtract b name result
    → MatchResult result (λ text. LineDone b.layout (Some b) (Extract name) (Some b) text.items store store)
    (λ e. LineFails e b.layout (Some b) (Extract name) store store faults faults)
extract_ends (Ok text) b name store faults h = extract_done b name text.items store h
extract_ends (Err Memory) b name store faults h = extract_memory b name store faults h
extract_ends (Err StoreFault) b name store faults h = absurd h
extract_ends (Err (Refused cause)) b name store faults h = extract_refused b name cause store faults h

-- ---- lines that are refused

abbrev pub WaitsForLoad : Line → Type 0
WaitsForLoad (Write z b) = ⊤
WaitsForLoad (KDump a n k r b) = ⊤
WaitsForLoad (CutAfter n) = ⊤
WaitsForLoad ListLine = ⊤
WaitsForLoad (Extract b) = ⊤
WaitsForLoad (Erase b) = ⊤
WaitsForLoad other = ⊥

abbrev pub IsElsewhere : Line → Type 0
IsElsewhere (Dump t k b) = ⊤
IsElsewhere (BeginWrite z b) = ⊤
IsElsewhere (BeginErase z) = ⊤
IsElsewhere (BeginDump t k b) = ⊤
IsElsewhere (Step z n) = ⊤
IsElsewhere (Finish z) = ⊤
IsElsewhere Stop = ⊤
IsElsewhere (Flip a m) = ⊤
IsElsewhere (BootPart n) = ⊤
IsElsewhere (KMsg b) = ⊤
IsElsewhere (Crash r t) = ⊤
IsElsewhere (Reserve b) = ⊤
IsElsewhere (StoreNext t n) = ⊤
IsElsewhere other = ⊥

append_waits : (layout : BlkLayout) (bytes payload : List ℕ) (ring : Option BlkRing)
    → performs layout (record { store = bytes; blk = None }) (append_to ring payload) ≡ Err IsOff
unfolding cause_of
append_waits layout bytes payload None = refl
append_waits layout bytes payload (Some ring) = refl

pub waits_line : (layout : BlkLayout) (bytes : List ℕ) (line : Line) → WaitsForLoad line
    → blk_line_done layout (record { store = bytes; blk = None }) line ≡ Err IsOff
unfolding blk_line_done operation_of cause_of
waits_line layout bytes (Write z b) h = append_waits layout bytes b (ring_for z.kind)
waits_line layout bytes (KDump a n k r b) h = refl
waits_line layout bytes (CutAfter n) h = refl
waits_line layout bytes ListLine h = refl
waits_line layout bytes (Extract b) h = refl
waits_line layout bytes (Erase b) h = refl
waits_line layout bytes line h = absurd h

elsewhere_line : (layout : BlkLayout) (session : Session) (line : Line) → IsElsewhere line
    → blk_line_done layout session line ≡ Err NotHere
unfolding blk_line_done operation_of
elsewhere_line layout session Blank h = absurd h
elsewhere_line layout session (Write z b) h = absurd h
elsewhere_line layout session (KDump a n k r b) h = absurd h
elsewhere_line layout session (CutAfter n) h = absurd h
elsewhere_line layout session ListLine h = absurd h
elsewhere_line layout session (Extract b) h = absurd h
elsewhere_line layout session (Erase b) h = absurd h
elsewhere_line layout session Boot h = absurd h
elsewhere_line layout session line h = refl

pub elsewhere : (layout : BlkLayout) (old : Option BlkState) (line : Line) (store : Device) (faults : ℕ)
    → IsElsewhere line → LineFails (Refused NotHere) layout old line store store faults faults
elsewhere layout old line store faults h = (
  refl,
  λ bytes. elsewhere_line layout (record { store = bytes; blk = old })
      line h,
)

-- a line that is none of the block store's
pub is_elsewhere : (line : Line) → line ≢ Blank → ((z : ZoneName) (b : List ℕ) → line ≢ Write z b) → line ≢ Boot
    → line ≢ ListLine → ((b : List ℕ) → line ≢ Extract b) → ((b : List ℕ) → line ≢ Erase b)
    → ((a n : ℕ) (k : Bool) (r : ℕ) (b : List ℕ) → line ≢ KDump a n k r b) → ((n : ℕ) → line ≢ CutAfter n)
    → IsElsewhere line
is_elsewhere Blank p q r s t1 t2 t3 t4 = absurd (p refl)
is_elsewhere (Write z b) p q r s t1 t2 t3 t4 = absurd (q z b refl)
is_elsewhere Boot p q r s t1 t2 t3 t4 = absurd (r refl)
is_elsewhere ListLine p q r s t1 t2 t3 t4 = absurd (s refl)
is_elsewhere (Extract b) p q r s t1 t2 t3 t4 = absurd (t1 b refl)
is_elsewhere (Erase b) p q r s t1 t2 t3 t4 = absurd (t2 b refl)
is_elsewhere (KDump a n k u b) p q r s t1 t2 t3 t4 = absurd (t3 a n k u b refl)
is_elsewhere (CutAfter n) p q r s t1 t2 t3 t4 = absurd (t4 n refl)
is_elsewhere line p q r s t1 t2 t3 t4 = tt

-- ---- a dump's time

pub kdump_fields : (secs nanos : ℕ) (packed : Bool) (reason : ℕ) (bytes : List ℕ)
    → HasFields (KDump secs nanos packed reason bytes) → (secs < 2 ^ 63) × (nanos < 1000000000)
unfolding HasFields
kdump_fields secs nanos packed reason bytes h = (h.0, h.1)
