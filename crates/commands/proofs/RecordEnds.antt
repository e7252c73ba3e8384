-- How the commands that speak of records end
use Rattle.std.proofs.Common.{◌≡◌, ℕ, Bool, true, false, is_some, ◌&&◌, ◌||◌, List, [], ◌∷◌, map, zip, Option, Some}
use Rattle.std.proofs.Common.{None, Ok, Err, refl, sym, ap, ◌∙◌, true≢false}
use Rattle.std.specs.List.{list_any}
use Rattle.std.specs.Option.{option_map}
use Rattle.std.specs.Io.KnownBytes.{Appends}
use Rattle.outside.specs.Outside.{AppendsFront, Writes, WritesFront}
use Rattle.zone_spec.specs.declared.Zone.{Zone}
use Rattle.zone_spec.specs.Records.{Saved, Listed}
use Rattle.zone_spec.specs.Notices.{content, is_in}
use Rattle.machine_spec.specs.States.{LiveZone, LiveState}
use Rattle.machine_spec.specs.Boot.{booted_zone}
use Rattle.machine_spec.specs.Erasures.{saved_logs, erased}
use Rattle.machine_spec.specs.Stop.{live_image}
use Rattle.prz_read.specs.Saving.{SavedLogs, saved}
use Rattle.ramoops.specs.LiveSeen.{LiveSeen, StandsLive}
use Rattle.grammar_spec.specs.Fields.{Text}
use Rattle.command_spec.specs.Ends.{End}
use Rattle.script_spec.specs.Texts.{listing}
use Rattle.script_spec.specs.Scripts.{named}
use Rattle.command_spec.specs.Commands.{RamCommand, ListRecords, Extract, Erase, RamPlan, reads_image, mem_of}
use Rattle.command_spec.specs.Commands.{after_boot, shows, leaves, unlisted, Wanted, wanted, wanted_of, wanted_extract}
use Rattle.command_spec.specs.Commands.{wanted_erase, class_of}
use Rattle.command_spec.specs.Answers.{Outside, IfHolds, NoScript}
use Rattle.script_spec.specs.declared.Cause.{Cause}
use Rattle.script_spec.specs.declared.Cause.TheVariants.{IsOff, IsLive, NoZone, Busy, Idle, OutOfImage, NoRecord}
use Rattle.script_spec.specs.declared.Cause.TheVariants.{NotHere, TooLong, NoSeat, Crowded, NoRing}
use Rattle.command_spec.specs.declared.Stop.{Stop}
use Rattle.command_spec.specs.declared.Stop.TheVariants.{Memory as MemoryStop, ImageFault, SinkFault}
use Rattle.command_spec.specs.declared.Stop.TheVariants.{Refused as RefusedStop}
use Rattle.command_line.specs.Ended.{Ended, CanEnd, RamReadEnds, RamImageEnds}
use Rattle.image_file.specs.Loading.{LoadStop}
use Rattle.command_line.proofs.Image.{load_can, image_stopped, image_done}
use Rattle.command_line.proofs.Script.{Quiet, quiet_memory, put_nothing}
use Rattle.ram_session.specs.Records.{IsContent}
use Rattle.ram_session.specs.Erasing.{ErasesNamed, IsBusy, EraseFails}
use Rattle.ram_session.specs.declared.machine.LineError.{LineError}
use Rattle.ram_session.specs.declared.machine.LineError.TheVariants.{Memory, Refused}
use Rattle.commands.specs.Stores.{BootedFrom}
use Rattle.commands.specs.Records.{SavedFrom, stop_for}
use Rattle.commands.proofs.PutTexts.{put_all, put_front, wrote_all, wrote_front}

-- ---- a text that is put, and an image that is written

pub put_all_of : (w : Wanted) (a b : Outside) (text : Text) → w ≡ shows (text ∷ []) → b.holds ≡ a.holds
    → Appends a.given b.given text → Ended w a b (Ok tt)
put_all_of w a b text e same put = rw (e, same) (put_all text text a.given b.given a.holds refl put)

pub put_front_of : (w : Wanted) (a b : Outside) (text : Text) → w ≡ shows (text ∷ []) → b.holds ≡ a.holds
    → AppendsFront a.given b.given text → Ended w a b (Err SinkFault)
put_front_of w a b text e same put = rw (e, same) (put_front text text a.given b.given a.holds refl put)

unlisted_ends : (w : Wanted) (a b : Outside) → w ≡ unlisted → Quiet a b → Ended w a b (Err (RefusedStop 2 NoRecord))
unlisted_ends w a b e q = rw e (refl, put_nothing a b q, q.holds)

-- ---- listed

reads : (plan : RamPlan) (a b : Outside) (e : End) → CanEnd plan e → NoScript a b → b.holds ≡ a.holds
    → IfHolds a (λ bytes. Ended (wanted plan bytes []) a b e) → RamReadEnds plan a b e
reads plan a b e can none same whole = record { can = can; whole = whole; script = none; image = same }

leaves_script : (plan : RamPlan) (a b : Outside) (e : End) → CanEnd plan e → NoScript a b
    → IfHolds a (λ bytes. Ended (wanted plan bytes []) a b e) → RamImageEnds plan a b e
leaves_script plan a b e can none whole = record { can = can; whole = whole; script = none }

-- ---- an image that was not read

pub unread : (plan : RamPlan) (c : RamCommand) (a b : Outside) (s : Stop) (f g : ℕ) → plan.command ≡ c
    → reads_image (class_of c) ≡ true → NoScript a b → Quiet a b → LoadStop s (mem_of plan) a.holds f g
    → RamReadEnds plan a b (Err s)
unread plan c a b s f g is image none q h = reads plan a b _ (load_can plan c s (mem_of plan) a.holds f g is image h)
    none q.holds
    (image_stopped plan c a b s f g is image q h)

pub unread_image : (plan : RamPlan) (c : RamCommand) (a b : Outside) (s : Stop) (f g : ℕ) → plan.command ≡ c
    → reads_image (class_of c) ≡ true → NoScript a b → Quiet a b → LoadStop s (mem_of plan) a.holds f g
    → RamImageEnds plan a b (Err s)
unread_image plan c a b s f g is image none q h =
    leaves_script plan a b _ (load_can plan c s (mem_of plan) a.holds f g is image h) none
    (image_stopped plan c a b s f g is image q h)

-- ---- an image that was read

saved_from : {layout : List Zone} {mem : ℕ} {holds : Option (List ℕ)} {live : LiveSeen} {logs : SavedLogs}
    → BootedFrom layout mem holds live logs → SavedFrom layout mem holds logs
saved_from booted = record { image = booted.image; read = booted.read; logs_are = booted.logs_are }

module _ (plan : RamPlan) (a b : Outside) (logs : SavedLogs)
    (read : SavedFrom plan.zones (mem_of plan) a.holds logs) where
  -- what a command wants of the image that was read
  done : (c : RamCommand) (e : End) → plan.command ≡ c → reads_image (class_of c) ≡ true
      → Ended (wanted_of plan.params plan.zones read.image [] c) a b e
      → IfHolds a (λ bytes. Ended (wanted plan bytes []) a b e)
  done c e is reads ended = image_done plan c a b read.image e is reads read.read ended

  pub memory_ends : (c : RamCommand) → plan.command ≡ c → reads_image (class_of c) ≡ true → Quiet a b
      → IfHolds a (λ bytes. Ended (wanted plan bytes []) a b (Err MemoryStop))
  memory_ends c is reads q = done c (Err MemoryStop) is reads
      (quiet_memory (wanted_of plan.params plan.zones read.image [] c) a b q)

  module _ (is : plan.command ≡ ListRecords) (text : Text) (e : text ≡ listing (saved logs))
      (same : b.holds ≡ a.holds) where
    list_wanted : wanted_of plan.params plan.zones read.image [] ListRecords ≡ shows (text ∷ [])
    list_wanted = ap (λ (t : Text). shows (t ∷ [])) (sym (e ∙ ap listing read.logs_are))

    pub list_put : NoScript a b → Appends a.given b.given text → RamReadEnds plan a b (Ok tt)
    list_put none put = reads plan a b _ (rw is refl) none same (done ListRecords (Ok tt) is refl
        (put_all_of (wanted_of plan.params plan.zones read.image [] ListRecords) a b text list_wanted same put))

    pub list_front : NoScript a b → AppendsFront a.given b.given text → RamReadEnds plan a b (Err SinkFault)
    list_front none put = reads plan a b _ (rw is refl) none same (done ListRecords (Err SinkFault) is refl
        (put_front_of (wanted_of plan.params plan.zones read.image [] ListRecords) a b text list_wanted same put))

-- ---- extracted

extract_found : (layout : List Zone) (s : LiveState) (o : Option Listed) (bytes : List ℕ)
    → option_map (content (saved_logs layout s)) o ≡ Some bytes → wanted_extract layout s o ≡ shows (bytes ∷ [])
extract_found layout s None bytes e = absurd (cc)
extract_found layout s (Some r) bytes e = let same : content (saved_logs layout s) r ≡ bytes = cc in
    ap (λ (t : Text). shows (t ∷ [])) same

module _ (plan : RamPlan) (a b : Outside) (logs : SavedLogs) (name : Text) (is : plan.command ≡ Extract name)
    (read : SavedFrom plan.zones (mem_of plan) a.holds logs) where
  module _ (bytes : List ℕ) (found : IsContent (saved logs) name (Ok bytes)) (same : b.holds ≡ a.holds) where
    extract_wanted : wanted_of plan.params plan.zones read.image [] (Extract name) ≡ shows (bytes ∷ [])
    extract_wanted =
        let here : option_map (content (saved_logs plan.zones (after_boot plan.zones read.image)))
        (named (saved_logs plan.zones (after_boot plan.zones read.image)) name) ≡ Some bytes =
        ap (λ (zones : List Saved). option_map (content zones) (named zones name)) (sym read.logs_are) ∙ found in
        extract_found plan.zones (after_boot plan.zones read.image)
        (named (saved_logs plan.zones (after_boot plan.zones read.image)) name) bytes here

    pub extract_put : NoScript a b → Appends a.given b.given bytes → RamReadEnds plan a b (Ok tt)
    extract_put none put = reads plan a b _ (rw is refl) none same
        (image_done plan (Extract name) a b read.image (Ok tt)
        is refl read.read (put_all_of (wanted_of plan.params plan.zones read.image [] (Extract name))
        a b bytes extract_wanted same put))

    pub extract_front : NoScript a b → AppendsFront a.given b.given bytes → RamReadEnds plan a b (Err SinkFault)
    extract_front none put = reads plan a b _ (rw is refl) none same
        (image_done plan (Extract name) a b read.image
        (Err SinkFault)
        is refl read.read (put_front_of (wanted_of plan.params plan.zones read.image [] (Extract name))
        a b bytes extract_wanted same put))

  extract_unlisted : (cause : Cause) → cause ≡ NoRecord → named (saved logs) name ≡ None → Quiet a b
      → IfHolds a (λ bytes. Ended (wanted plan bytes []) a b (Err (RefusedStop 2 cause)))
  extract_unlisted cause why none q =
      let here : named (saved_logs plan.zones (after_boot plan.zones read.image)) name ≡ None =
      ap (λ (zones : List Saved). named zones name) (sym read.logs_are) ∙ none in
      let w : wanted_of plan.params plan.zones read.image [] (Extract name) ≡ unlisted =
      ap (wanted_extract plan.zones (after_boot plan.zones read.image)) here in
      rw why (image_done plan (Extract name) a b read.image (Err (RefusedStop 2 NoRecord)) is refl read.read
      (unlisted_ends (wanted_of plan.params plan.zones read.image [] (Extract name)) a b w q))

  pub extract_stopped : (e : LineError) (s : Stop) → s ≡ stop_for e → IsContent (saved logs) name (Err e)
      → NoScript a b → Quiet a b → RamReadEnds plan a b (Err s)
  extract_stopped Memory s same h none q = rw same (reads plan a b _ (rw is refl) none q.holds
      (memory_ends plan a b logs read (Extract name) is refl q))
  extract_stopped (Refused cause) s same h none q = rw same (reads plan a b _ (rw is refl) none q.holds
      (extract_unlisted cause h.0 h.1 q))

-- ---- erased

idle : (test : Bool) → (test && false) ≡ false
idle true = refl
idle false = refl

no_flights : (image : List ℕ) (layout : List Zone) (test : Zone → Bool)
    → list_any (λ (pair : Zone × LiveZone). test pair.0 && is_some pair.1.flight)
    (zip layout (map (booted_zone image) layout)) ≡ false
no_flights image [] test = refl
no_flights image (z ∷ layout) test = ap (λ (b : Bool). b
    || list_any (λ (pair : Zone × LiveZone). test pair.0 && is_some pair.1.flight)
    (zip layout (map (booted_zone image) layout))) (idle (test z)) ∙ no_flights image layout test

module _ (plan : RamPlan) (a b : Outside) (live : LiveSeen) (logs : SavedLogs) (name : Text)
    (is : plan.command ≡ Erase name) (booted : BootedFrom plan.zones (mem_of plan) a.holds live logs) where
  module _ (w : LiveSeen) (logs' : SavedLogs) (bytes : List ℕ) (erase : ErasesNamed live logs name w logs')
      (left : (layout : List Zone) (mem : ℕ) (s : LiveState) → StandsLive layout mem w s → bytes ≡ live_image s)
      (given : b.given ≡ a.given) where
    erase_wanted : wanted_of plan.params plan.zones booted.image [] (Erase name) ≡ leaves bytes
    erase_wanted =
        let s = after_boot plan.zones booted.image in
        let e = erase plan.zones (mem_of plan) s booted.lies booted.stands booted.logs_are booted.state in
        ap (wanted_erase plan.zones s) e.named ∙ ap (λ (bs : List ℕ). leaves bs)
        (sym (left plan.zones (mem_of plan) (erased plan.zones s e.record_is.name) e.stands))

    pub erase_saved : NoScript a b → Writes a.holds b.holds 0 bytes → RamImageEnds plan a b (Ok tt)
    erase_saved none wrote = leaves_script plan a b _ (rw is refl) none
        (image_done plan (Erase name) a b booted.image (Ok tt)
        is refl booted.read (rw (erase_wanted, given) (wrote_all bytes a.given a.holds b.holds wrote)))

    pub erase_unsaved : NoScript a b → WritesFront a.holds b.holds 0 bytes → RamImageEnds plan a b (Err ImageFault)
    erase_unsaved none wrote = leaves_script plan a b _ (rw is refl) none
        (image_done plan (Erase name) a b booted.image
        (Err ImageFault) is refl booted.read (rw (erase_wanted, given)
        (wrote_front bytes a.given a.holds b.holds wrote)))

  erase_unlisted : named (saved logs) name ≡ None → Quiet a b
      → IfHolds a (λ bytes. Ended (wanted plan bytes []) a b (Err (RefusedStop 2 NoRecord)))
  erase_unlisted none q =
      let here : named (saved_logs plan.zones (after_boot plan.zones booted.image)) name ≡ None =
      ap (λ (zones : List Saved). named zones name) (sym booted.logs_are) ∙ none in
      let w : wanted_of plan.params plan.zones booted.image [] (Erase name) ≡ unlisted =
      ap (wanted_erase plan.zones (after_boot plan.zones booted.image)) here in
      image_done plan (Erase name) a b booted.image (Err (RefusedStop 2 NoRecord)) is refl booted.read
      (unlisted_ends (wanted_of plan.params plan.zones booted.image [] (Erase name)) a b w q)

  -- behind a boot no flight is in the way
  not_busy : IsBusy live logs name → ⊥
  not_busy busy =
      let b = busy plan.zones (mem_of plan) (after_boot plan.zones booted.image) booted.stands booted.logs_are in
      true≢false (sym b.2 ∙ no_flights booted.image plan.zones (λ z. is_in b.0.name z))

  refused : (e : LineError) → EraseFails live logs name e → Quiet a b
      → IfHolds a (λ bytes. Ended (wanted plan bytes []) a b (Err (stop_for e)))
  refused Memory h q = absurd h
  refused (Refused NoRecord) h q = erase_unlisted h q
  refused (Refused Busy) h q = absurd (not_busy h)
  refused (Refused IsOff) h q = absurd h
  refused (Refused IsLive) h q = absurd h
  refused (Refused NoZone) h q = absurd h
  refused (Refused Idle) h q = absurd h
  refused (Refused OutOfImage) h q = absurd h
  refused (Refused NotHere) h q = absurd h
  refused (Refused TooLong) h q = absurd h
  refused (Refused NoSeat) h q = absurd h
  refused (Refused Crowded) h q = absurd h
  refused (Refused NoRing) h q = absurd h

  erase_can : (e : LineError) → CanEnd plan (Err (stop_for e))
  erase_can Memory = rw is refl
  erase_can (Refused cause) = rw is refl

  pub erase_stopped : (e : LineError) (s : Stop) → s ≡ stop_for e → EraseFails live logs name e → NoScript a b
      → Quiet a b → RamImageEnds plan a b (Err s)
  erase_stopped e s same h none q = rw same (leaves_script plan a b _ (erase_can e) none (refused e h q))
