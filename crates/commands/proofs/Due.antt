-- The last line follows from what the work put before it
use Rattle.std.proofs.Common.{◌≡◌, ℕ, List, [], take, Option, Result, Ok, Err, refl, inl, inr}
use Rattle.std.proofs.KnownBytes.{Appends-nil, Appends-trans}
use Rattle.std.specs.Io.KnownBytes.{Appends}
use Rattle.zone_spec.specs.declared.Zone.{Zone}
use Rattle.grammar_spec.specs.declared.line.Line.{Line}
use Rattle.command_spec.specs.Ends.{End, last_line}
use Rattle.command_spec.specs.Commands.{Plan, OfRam, OfBlk, OfMove}
use Rattle.script_spec.specs.Scripts.{ran}
use Rattle.command_spec.specs.Answers.{Outside}
use Rattle.script_spec.specs.Texts.{front, whole}
use Rattle.command_line.specs.Ends.{LastPut, Finished}
use Rattle.script_spec.specs.Playing.{PutsText, PlayStop}
use Rattle.command_line.specs.Words.{ram_command_seen}
use Rattle.command_line.specs.declared.words.RamCommand.{RamCommand as ReadRamCommand}
use Rattle.commands.specs.Due.{PutsNone, PutsFirst, PutsLines, PutsBefore, PutsByPlan, LineAlone, LineOrText, LineAtEnd}
use Rattle.commands.specs.Due.{LastLine, Puts, PutsLast, PutsTextFirst, PutsByLine, puts_of, PutsAs, LineAs}
use Rattle.command_spec.specs.declared.Stop.{Stop}
use Rattle.command_spec.specs.declared.Stop.TheVariants.{ImageFault, SinkFault}
use Rattle.script_spec.specs.declared.LineStop.{LineStop}
use Rattle.script_spec.specs.declared.LineStop.TheVariants.{Memory as MemoryThere, StoreFault}
use Rattle.script_spec.specs.declared.LineStop.TheVariants.{SinkFault as SinkFaultThere, Refused as RefusedThere}

-- ---- before the last line

pub text_put : (given given' : Option (List ℕ)) (text : List ℕ) → Appends given given' text → PutsText given given'
text_put given given' text put = record { text = text; put = put }

pub no_text : (given : Option (List ℕ)) → PutsText given given
no_text given = text_put given given [] (Appends-nil given)

pub none_put : (e : End) (given given' : Option (List ℕ)) → given' ≡ given → PutsNone given given' e
none_put (Ok u) given given' h = tt
none_put (Err SinkFault) given given' h = tt
none_put (Err s) given given' h = h

pub first_put : (e : End) (given given' : Option (List ℕ)) → given' ≡ given → PutsFirst given given' e
first_put (Err ImageFault) given given' h = rw h (no_text given)
first_put e given given' h = none_put e given given' h

-- the lines that were done before a script stopped
pub lines_put : (stop : LineStop) (layout : List Zone) (image : List ℕ) (lines : List Line) (old new : Option (List ℕ))
    (before now : ℕ) → PlayStop stop layout image lines old new before now → PutsText old new
lines_put MemoryThere layout image lines old new before now h =
    text_put old new (front (ran layout image lines).texts h.count) h.bytes
lines_put SinkFaultThere layout image lines old new before now h =
    text_put old new (take h.1.bytes.count (front (ran layout image lines).texts h.1.count)) h.1.bytes.bytes
lines_put (RefusedThere n cause) layout image lines old new before now h =
    text_put old new (whole (ran layout image lines).texts) h.texts
lines_put StoreFault layout image lines old new before now h = absurd h

-- whatever way the lines ended
pub ended_put : (e : End) (given given' : Option (List ℕ)) → PutsText given given' → PutsLines given given' e
ended_put (Ok u) given given' h = tt
ended_put (Err s) given given' h = h

-- the command, and the plan, that was read
pub arm_put : (c k : ReadRamCommand) (given given' : Option (List ℕ)) (e : End) → c ≡ k
    → PutsBefore (ram_command_seen k) given given' e → PutsBefore (ram_command_seen c) given given' e
arm_put c k given given' e is h = rw is h

pub plan_put : (r : Result Plan Stop) (plan : Plan) (given given' : Option (List ℕ)) (e : End) → r ≡ Ok plan
    → PutsByPlan (Ok plan) given given' e → PutsByPlan r given given' e
plan_put r plan given given' e is h = rw is h

-- nothing was put at all
lines_same : (e : End) (given : Option (List ℕ)) → PutsLines given given e
lines_same (Ok u) given = tt
lines_same (Err s) given = no_text given

puts_same : (p : Puts) (e : End) (given : Option (List ℕ)) → PutsAs p given given e
puts_same PutsLast e given = none_put e given given refl
puts_same PutsTextFirst e given = first_put e given given refl
puts_same PutsByLine e given = lines_same e given

pub plan_same : (r : Result Plan Stop) (e : End) (given : Option (List ℕ)) → PutsByPlan r given given e
plan_same (Ok (OfRam plan)) e given = puts_same (puts_of plan.command) e given
plan_same (Ok (OfBlk layout)) e given = lines_same e given
plan_same (Ok (OfMove plan)) e given = first_put e given given refl
plan_same (Err s) e given = none_put e given given refl

-- ---- the last line

-- the output was given this before the last line, and had failed so often
module _ (a b : Outside) (given : Option (List ℕ)) (faults status : ℕ) where
  line_put : (s : Stop) → LastPut s given b.given faults b.sink_faults status → given ≡ a.given
      → LineAlone a b status
  line_put s last same none seven = elim last.shown [
    | inl k ↦ record { stop = s; is = k.0; put = rw same at k.1 }
    | inr k ↦ absurd (seven k.0)
  ]

  text_line : (s : Stop) → LastPut s given b.given faults b.sink_faults status → PutsText a.given given
      → LineAtEnd a b status
  text_line s last h none seven = elim last.shown [
    | inl k ↦ record {
      stop = s;
      is = k.0;
      before = h.text;
      put = Appends-trans a.given given b.given h.text (last_line s) h.put k.1;
    }
    | inr k ↦ absurd (seven k.0)
  ]

  alone : (e : End) → PutsNone a.given given e
      → Finished e given b.given faults b.sink_faults status → LineAlone a b status
  alone (Ok u) h f none seven = absurd (none f.answer)
  alone (Err SinkFault) h f none seven = absurd (seven f.answer)
  alone (Err s) h f none seven = line_put s f h none seven

  -- an image that failed behind the text
  unsaved : LastPut ImageFault given b.given faults b.sink_faults status → PutsText a.given given
      → LineOrText a b status
  unsaved last h none seven =
      let line = text_line ImageFault last h none seven in
      elim last.shown [
        | inl k ↦ inr (k.0, line)
        | inr k ↦ absurd (seven k.0)
      ]

  first : (e : End) → PutsFirst a.given given e
      → Finished e given b.given faults b.sink_faults status → LineOrText a b status
  first (Err ImageFault) h f none seven = unsaved f h none seven
  first e h f none seven = inl (alone e h f none seven)

  after_lines : (e : End) → PutsLines a.given given e
      → Finished e given b.given faults b.sink_faults status → LineAtEnd a b status
  after_lines (Ok u) h f none seven = absurd (none f.answer)
  after_lines (Err SinkFault) h f none seven = absurd (seven f.answer)
  after_lines (Err s) h f none seven = text_line s f h none seven

  line_as : (p : Puts) (e : End) → PutsAs p a.given given e
      → Finished e given b.given faults b.sink_faults status → LineAs p a b status
  line_as PutsLast e h f = alone e h f
  line_as PutsTextFirst e h f = first e h f
  line_as PutsByLine e h f = after_lines e h f

  pub last_line_put : (r : Result Plan Stop) (e : End) → PutsByPlan r a.given given e
      → Finished e given b.given faults b.sink_faults status → LastLine r a b status
  last_line_put (Ok (OfRam plan)) e h f = line_as (puts_of plan.command) e h f
  last_line_put (Ok (OfBlk layout)) e h f = after_lines e h f
  last_line_put (Ok (OfMove plan)) e h f = first e h f
  last_line_put (Err s) e h f = alone e h f
