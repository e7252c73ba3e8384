-- The headline at the boots of a run
use Rattle.std.proofs.Common.{◌≡◌, ◌≢◌, ℕ, ◌+◌, ◌^◌, ◌<◌, ◌≤◌, ◌⊎◌, inl, inr, Bool, true, false, cond, ◌&&◌, ◌||◌}
use Rattle.std.proofs.Common.{nat_lt, List, [], ◌∷◌, ◌++◌, length, drop, take, map, zip, codes, Option, Some, None}
use Rattle.std.proofs.Common.{Result, Ok, Err, IfSome, refl, sym, ap, ◌∙◌, subst, arith, append_assoc, append-nil}
use Rattle.std.specs.Option.{option_and_then, unwrap_or}
use Rattle.std.specs.List.{list_all}
use Rattle.std.specs.Prelude.{bytes_eq, position}
use Rattle.std.proofs.lemmas.List.Quantifiers.{position-Some}
use Rattle.std.specs.Char.{is_digit}
use Rattle.std.specs.Str.Parse.{digits_value}
use Rattle.std.proofs.lemmas.Bool.{ltb-true}
use Rattle.std.proofs.lemmas.List.{length-take, length-map}
use Rattle.std.proofs.lemmas.Option.{slice_get_within, get_or_from_slice_get}
use Rattle.std.specs.Io.KnownBytes.{Appends}
use Rattle.zone_spec.specs.declared.Zone.{Zone}
use Rattle.zone_spec.specs.declared.params.Params.{Params}
use Rattle.zone_spec.specs.declared.params.LayoutFault.{LayoutFault}
use Rattle.zone_spec.specs.Layout.{layout_of}
use Rattle.zone_spec.specs.Layouts.{IsLayout}
use Rattle.zone_spec.specs.Parts.{AreBytes}
use Rattle.zone_spec.specs.Reading.{ZoneReading, zone_reading}
use Rattle.machine_spec.specs.Zones.{zone_bytes}
use Rattle.machine_spec.specs.States.{OffZone, OffState, Off, Live}
use Rattle.machine_spec.specs.Boot.{booted}
use Rattle.machine_spec.specs.Erasures.{saved_logs}
use Rattle.machine_spec.specs.Report.{ZoneReport, zone_report, report}
use Rattle.machine_spec.specs.Headline.{EachOffZone}
use Rattle.machine_laws.specs.ZoneReads.{ReadsZone}
use Rattle.machine_laws.proofs.ZoneReads.{sound_state_reads_zones}
use Rattle.grammar_spec.specs.Numbers.{digits_number, number_of, begins}
use Rattle.grammar_spec.specs.Words.{given, text_place, value_text, value_of, ok_unless}
use Rattle.grammar_spec.specs.ZoneWords.{keys, first_fault, params_of}
use Rattle.grammar_spec.specs.BlkWords.{first_fault as blk_first_fault, params_of as blk_params_of}
use Rattle.blk_spec.specs.declared.BlkLayout.{BlkLayout}
use Rattle.blk_spec.specs.Layout.{layout_of as blk_layout_of}
use Rattle.grammar_spec.specs.declared.faults.ParamFault.{ParamFault}
use Rattle.ramoops_layout.proofs.WholeLayout.{whole_layout}
use Rattle.prz_region.proofs.Chains.{AreBytes-take}
use Rattle.prz_read.proofs.Saves.{zip-at, zip-length}
use Rattle.ramoops.proofs.Lists.{get-of-map}
use Rattle.grammar_spec.specs.Fields.{Text}
use Rattle.grammar_spec.specs.Lines.{script_of}
use Rattle.grammar_spec.specs.declared.line.Line.{Line}
use Rattle.grammar_spec.specs.declared.line.Line.TheVariants.{Boot, Crash}
use Rattle.grammar_spec.specs.Printed.{AllHaveFields}
use Rattle.script.proofs.FieldTable.{read_fields}
use Rattle.script_spec.specs.Texts.{boot_text, front, whole}
use Rattle.script_spec.specs.Scripts.{Kernel, new_kernel, ran, store_line, line_done}
use Rattle.command_spec.specs.Commands.{Asked, RamCommand, Run, Command, OnRam, BlkRun, Move, RamPlan, MovePlan, Laid}
use Rattle.command_spec.specs.Commands.{Plan, OfRam, OfBlk, OfMove, Wanted, planned, laid_out, with_params, with_layout}
use Rattle.command_spec.specs.Commands.{with_blk_params, with_blk_layout, with_first_params, with_second_params}
use Rattle.command_spec.specs.Commands.{with_first_layout, with_second_layout, mem_of, wanted, wanted_run, wanted_lines}
use Rattle.command_spec.specs.Commands.{script_limit, script_end, stops, lacks_zone, class_of}
use Rattle.command_spec.specs.Ends.{End, status_of, last_line}
use Rattle.command_spec.specs.Answers.{Outside, IsFree, Answers}
use Rattle.command_spec.specs.PlanAnswers.{ToolAnswers, ClassAnswers, RunAnswers}
use Rattle.script_spec.specs.declared.Cause.{Cause}
use Rattle.command_spec.specs.declared.Stop.{Stop}
use Rattle.command_spec.specs.declared.Stop.TheVariants.{TooLong, NoSharedZone}
use Rattle.script_laws.proofs.Play.{text_at}
use Rattle.commands.proofs.ScriptEnds.{run_wanted}
use Rattle.script_laws.proofs.SoundStates.{states_sound, take_fit}
use Rattle.script_laws.specs.RamScripts.{ScriptReadsWritten}
use Rattle.script_laws.proofs.RamScripts.{scripts_read_written}
use Rattle.crash_laws.specs.Listings.{LaterBootListsCrash}
use Rattle.crash_laws.proofs.Scripts.{left_fields}
use Rattle.commands.proofs.MoveReads.{IsLaidMove, move_reads}
use Rattle.commands.specs.Headline.{BootsRead, ShowsBoot, CrashesListed, BootsShown, done_lines, RunReads}
use Rattle.commands.proofs.DoneLines.{done_are, front_take}
use Rattle.commands.proofs.SharedReads.{shared_reads}

-- ---- numbers of parameters are small

value_small : (v n : ℕ) (t : Bool) → nat_lt v (2 ^ 32) ≡ t → cond t (Some v) None ≡ Some n → n < 2 ^ 32
value_small v n true e h = let same : v ≡ n = cc in omega (arith, same, ltb-true v (2 ^ 32) e)
value_small v n false e h = absurd (cc)

digits_small : (base : ℕ) (digits : List ℕ) (n : ℕ) → digits_number base digits ≡ Some n → n < 2 ^ 32
digits_small base digits n h = by (nat_lt 0 (length digits)) (list_all (λ c. is_digit c base) digits) h
  where
    by : (x y : Bool) → cond (x && y && nat_lt (digits_value base digits) (2 ^ 32)) (Some (digits_value base digits))
        None ≡ Some n → n < 2 ^ 32
    by true true h = value_small (digits_value base digits) n (nat_lt (digits_value base digits) (2 ^ 32)) refl h
    by true false h = absurd (cc)
    by false y h = absurd (cc)

number_small : (text : List ℕ) (n : ℕ) → number_of text ≡ Some n → n < 2 ^ 32
unfolding number_of
number_small text n h = by (begins (codes "0x") text || begins (codes "0X") text)
    (begins (codes "0") text && nat_lt 1 (length text)) h
  where
    by : (x y : Bool) → cond x (digits_number 16 (drop 2 text))
        (cond y (digits_number 8 (drop 1 text)) (digits_number 10 text)) ≡ Some n → n < 2 ^ 32
    by true y h = digits_small 16 (drop 2 text) n h
    by false true h = digits_small 8 (drop 1 text) n h
    by false false h = digits_small 10 text n h

or_zero : (o : Option ℕ) → ((n : ℕ) → o ≡ Some n → n < 2 ^ 32) → unwrap_or o 0 < 2 ^ 32
or_zero None h = omega arith
or_zero (Some n) h = h n refl

given_small : (words : List Text) (key : Text) → unwrap_or (given keys words key) 0 < 2 ^ 32
unfolding given
given_small words key = by (value_text keys words key)
  where
    one : (b d : Bool) (text : List ℕ)
        → unwrap_or (cond b (text_place keys.first text) (cond d (text_place keys.second text) (number_of text))) 0
        < 2 ^ 32
    one true d text = or_zero (text_place keys.first text)
        (λ n e. omega (arith, (position-Some (λ (own : List ℕ). bytes_eq own text) keys.first.texts n text e).0))
    one false true text = or_zero (text_place keys.second text)
        (λ n e. omega (arith, (position-Some (λ (own : List ℕ). bytes_eq own text) keys.second.texts n text e).0))
    one false false text = or_zero (number_of text) (number_small text)

    by : (o : Option (List ℕ)) → unwrap_or (option_and_then (value_of keys key) o) 0 < 2 ^ 32
    by None = omega arith
    by (Some text) = one (bytes_eq key keys.first.key) (bytes_eq key keys.second.key) text

-- ---- the zones of a plan are a layout

laid : (command : RamCommand) (params : Params) (plan : RamPlan) (o : Result (List Zone) LayoutFault)
    → layout_of params ≡ o → with_layout command params o ≡ Ok (OfRam plan) → params.ftrace_sig < 2 ^ 32
    → IsLayout plan.zones (mem_of plan)
laid command params plan (Ok zones) e h small = by (lacks_zone command params) h
  where
    by : (b : Bool) → cond b (Err NoSharedZone)
        (Ok (OfRam (record { command = command; params = params; zones = zones })))
        ≡ Ok (OfRam plan) → IsLayout plan.zones (mem_of plan)
    by true h = absurd (cc)
    by false h =
        let same : record { command = command; params = params; zones = zones } ≡ plan = cc in
        subst (λ (p : RamPlan). IsLayout p.zones (mem_of p)) same (whole_layout params zones small e)
laid command params plan (Err fault) e h small = absurd (cc)

read : (command : RamCommand) (before : ℕ) (words : List Text) (plan : RamPlan) (o : Option ParamFault)
    → with_params command before (ok_unless o (params_of words)) ≡ Ok (OfRam plan) → IsLayout plan.zones (mem_of plan)
read command before words plan None h = laid command (params_of words) plan (layout_of (params_of words)) refl h
    (given_small words (codes "ftrace_sig"))
read command before words plan (Some fault) h = absurd (cc)

-- a block store's plan is none of an image
blk_laid : (plan : RamPlan) (o : Result BlkLayout LayoutFault) → with_blk_layout o ≡ Ok (OfRam plan) → ⊥
blk_laid plan (Ok layout) h = absurd (cc)
blk_laid plan (Err fault) h = absurd (cc)

blk_read : (before : ℕ) (words : List Text) (plan : RamPlan) (o : Option ParamFault)
    → with_blk_params before (ok_unless o (blk_params_of words)) ≡ Ok (OfRam plan) → ⊥
blk_read before words plan None h = blk_laid plan (blk_layout_of (blk_params_of words)) h
blk_read before words plan (Some fault) h = absurd (cc)

-- nor is a move's
second_laid : (plan : RamPlan) (from : Laid) (to : Params) (o : Result (List Zone) LayoutFault)
    → with_second_layout from to o ≡ Ok (OfRam plan) → ⊥
second_laid plan from to (Ok zones) h = cc
second_laid plan from to (Err fault) h = cc

first_laid : (plan : RamPlan) (from to : Params) (o : Result (List Zone) LayoutFault)
    → with_first_layout from to o ≡ Ok (OfRam plan) → ⊥
first_laid plan from to (Ok zones) h = second_laid plan (record { params = from; zones = zones }) to (layout_of to) h
first_laid plan from to (Err fault) h = cc

second_read : (plan : RamPlan) (from : Params) (before : ℕ) (words : List Text) (o : Option ParamFault)
    → with_second_params from before (ok_unless o (params_of words)) ≡ Ok (OfRam plan) → ⊥
second_read plan from before words None h = first_laid plan from (params_of words) (layout_of from) h
second_read plan from before words (Some fault) h = cc

first_read : (plan : RamPlan) (second before : ℕ) (to words : List Text) (o : Option ParamFault)
    → with_first_params second to before (ok_unless o (params_of words)) ≡ Ok (OfRam plan) → ⊥
first_read plan second before to words None h =
    second_read plan (params_of words) second to (first_fault [] to) h
first_read plan second before to words (Some fault) h = cc

command_whole : (c : Command) (before : ℕ) (words : List Text) (plan : RamPlan)
    → laid_out c before words ≡ Ok (OfRam plan) → IsLayout plan.zones (mem_of plan)
command_whole (OnRam command) before words plan h = read command before words plan (first_fault [] words) h
command_whole BlkRun before words plan h = absurd (blk_read before words plan (blk_first_fault [] words) h)
command_whole (Move to) before words plan h =
    absurd (first_read plan (before + length words + 1) before to words (first_fault [] words) h)

planned_whole : (o : Option Asked) (plan : RamPlan) → planned o ≡ Ok (OfRam plan) → IsLayout plan.zones (mem_of plan)
planned_whole None plan h = absurd (cc)
planned_whole (Some a) plan h = command_whole a.command a.before a.params plan h

-- a plan on an image has its parameters' layout, and a zone to share where its command wants one
abbrev IsPlanned : RamPlan → Type 0
IsPlanned plan = (layout_of plan.params ≡ Ok plan.zones) × (lacks_zone plan.command plan.params ≡ false)

of_layout : (command : RamCommand) (params : Params) (plan : RamPlan) (o : Result (List Zone) LayoutFault)
    → layout_of params ≡ o → with_layout command params o ≡ Ok (OfRam plan) → IsPlanned plan
of_layout command params plan (Ok zones) e h = by (lacks_zone command params) refl h
  where
    by : (b : Bool) → lacks_zone command params ≡ b → cond b (Err NoSharedZone)
        (Ok (OfRam (record { command = command; params = params; zones = zones })))
        ≡ Ok (OfRam plan) → IsPlanned plan
    by true f h = absurd (cc)
    by false f h =
        let same : record { command = command; params = params; zones = zones } ≡ plan = cc in
        subst IsPlanned same (e, f)
of_layout command params plan (Err fault) e h = absurd (cc)

of_params : (command : RamCommand) (before : ℕ) (words : List Text) (plan : RamPlan) (o : Option ParamFault)
    → with_params command before (ok_unless o (params_of words)) ≡ Ok (OfRam plan) → IsPlanned plan
of_params command before words plan None h =
    of_layout command (params_of words) plan (layout_of (params_of words)) refl h
of_params command before words plan (Some fault) h = absurd (cc)

of_command : (c : Command) (before : ℕ) (words : List Text) (plan : RamPlan)
    → laid_out c before words ≡ Ok (OfRam plan) → IsPlanned plan
of_command (OnRam command) before words plan h = of_params command before words plan (first_fault [] words) h
of_command BlkRun before words plan h = absurd (blk_read before words plan (blk_first_fault [] words) h)
of_command (Move to) before words plan h =
    absurd (first_read plan (before + length words + 1) before to words (first_fault [] words) h)

planned_is : (o : Option Asked) (plan : RamPlan) → planned o ≡ Ok (OfRam plan) → IsPlanned plan
planned_is None plan h = absurd (cc)
planned_is (Some a) plan h = of_command a.command a.before a.params plan h

-- ---- the headline

front_size : (mem : ℕ) (bytes : List ℕ) → mem ≤ length bytes → length (take mem bytes) ≡ mem
front_size mem bytes h = omega (arith, h, length-take mem bytes)

-- the text of a boot is of the zones' readings and reports
shows_boot : (layout : List Zone) (image : List ℕ) (before : List Line) (off : OffState)
    → (ran layout image before).session ≡ Off off → EachOffZone layout off ReadsZone
    → ScriptReadsWritten layout image before
    → ShowsBoot layout image before off
    (boot_text (saved_logs layout (booted layout off)) (report layout off))
shows_boot layout image before off session reads written =
    let saves : Zone → Option ZoneReading = λ z. Some (zone_reading z (zone_bytes z off.image)) in
    let reports : Zone × OffZone → ZoneReport = λ pair. zone_report pair.0 pair.1 (zone_bytes pair.0 off.image) in
    record {
      logs = saved_logs layout (booted layout off);
      reports = report layout off;
      is = refl;
      counts = (
        omega (
          arith,
          zip-length layout (map saves layout) (omega (arith, length-map layout saves)),
          length-map layout saves,
        ),
        omega (
          arith,
          length-map (zip layout off.zones) reports,
          zip-length layout off.zones (omega (arith, reads.0)),
          reads.0,
        ),
      );
      zones = λ i z zone at here. (
        zip-at layout (map saves layout) i z (saves z) at (get-of-map saves layout i z at),
        get-of-map reports (zip layout off.zones) i (z, zone) (zip-at layout off.zones i z zone at here),
        reads.1 i z zone at here,
        λ bytes w. written off i z zone bytes session at here w,
      );
    }

-- what a line `boot` does
boot_done : (layout : List Zone) (off : OffState) (kernel : Kernel) → line_done layout (Off off) kernel Boot
    ≡ Ok (record {
      session = Live (booted layout off);
      kernel = new_kernel;
      text = boot_text (saved_logs layout (booted layout off)) (report layout off);
    })
unfolding line_done store_line
boot_done layout off kernel = refl

-- what the boots of lines that were all done put, with anything put after them
boots_put : (layout : List Zone) (image : List ℕ) (lines : List Line) (last : Text) (old new : Option (List ℕ))
    → (ran layout image lines).refused ≡ None
    → Appends old new (whole (ran layout image lines).texts ++ last)
    → BootsRead layout image lines → ((k : ℕ) → ScriptReadsWritten layout image (take k lines))
    → BootsShown layout image lines old new
boots_put layout image lines last old new none put reads written k off at session =
    let r = ran layout image lines in
    let text = boot_text (saved_logs layout (booted layout off)) (report layout off) in
    let before = ran layout image (take k lines) in
    let done : line_done layout before.session before.kernel Boot
    ≡ Ok (record { session = Live (booted layout off); kernel = new_kernel; text = text }) =
    rw session (boot_done layout off before.kernel) in
    let t = text_at layout image lines k Boot (record {
      session = Live (booted layout off);
      kernel = new_kernel;
      text = text;
    })
    (slice_get_within lines k Boot at) (sym (get_or_from_slice_get lines k Boot Boot at)) none done in
    let all : whole r.texts ++ last ≡ front r.texts k ++ text ++ (t.more ++ last) =
    ap (λ (xs : Text). xs ++ last) t.is ∙ append_assoc (front r.texts k ++ text) t.more last in
    record {
      text = text;
      shows = shows_boot layout image (take k lines) off session (reads k off session) (written k);
      rest = t.more ++ last;
      put = rw all at put;
    }

-- a script is too long, or is done line by line
long_by : (layout : List Zone) (image script : List ℕ) → nat_lt script_limit (length script) ≡ true
    → wanted_run layout image script ≡ stops TooLong
long_by layout image script e = rw e refl

lines_by : (layout : List Zone) (image script : List ℕ) (lines : List Line)
    → nat_lt script_limit (length script) ≡ false → script_of script ≡ Ok lines
    → wanted_run layout image script ≡ wanted_lines (ran layout image lines)
lines_by layout image script lines e good = rw (e, good) refl

-- a script that is too long has status 8
too_long : (w : Wanted) (n : ℕ) → w ≡ stops TooLong → status_of w.end ≡ n → n ≢ 8 → ⊥
too_long w n e h other = other (sym h ∙ ap (λ (x : Wanted). status_of x.end) e)

-- ---- what a run puts at its boots

-- the end of a run with a status
ten : (e : End) → status_of e ≡ 10 → (s : Stop) × (e ≡ Err s)
ten (Ok u) h = absurd (omega (arith, h))
ten (Err s) h = (s, refl)

not_free : (a b : Outside) (status : ℕ) → status ≡ 10 → IsFree a b status → ⊥
not_free a b status is (inl h) = omega (arith, is, h)
not_free a b status is (inr (inl h)) = omega (arith, is, h.0)
not_free a b status is (inr (inr (inl h))) = omega (arith, is, h.0)
not_free a b status is (inr (inr (inr h))) = omega (arith, is, h.0)

wanted_status : (a b : Outside) (status : ℕ) (w : Wanted) → status ≡ 10
    → (status ≡ status_of w.end) ⊎ IsFree a b status → status_of w.end ≡ 10
wanted_status a b status w is (inl h) = sym h ∙ is
wanted_status a b status w is (inr h) = absurd (not_free a b status is h)

module _ (plan : RamPlan) (bytes script : List ℕ) (lines : List Line) (is : plan.command ≡ Run)
    (long : mem_of plan ≤ length bytes) (good : script_of script ≡ Ok lines) where
  abbrev image : List ℕ
  image = take (mem_of plan) bytes

  -- the script was not too long
  lines_wanted : (t : Bool) (n : ℕ) → nat_lt script_limit (length script) ≡ t
      → status_of (wanted plan bytes script).end ≡ n → n ≢ 8
      → wanted plan bytes script ≡ wanted_lines (ran plan.zones image lines)
  lines_wanted true n e h other = absurd (too_long (wanted plan bytes script) n
      (run_wanted plan bytes script is long ∙ long_by plan.zones image script e) h other)
  lines_wanted false n e h other =
      run_wanted plan bytes script is long ∙ lines_by plan.zones image script lines e good

  none_refused : (c : Option Cause) (n : ℕ) → script_end n c ≡ Ok tt → c ≡ None
  none_refused None n h = refl
  none_refused (Some cause) n h = absurd (cc)

  boots_shown : (a b : Outside) → (wanted plan bytes script).end ≡ Ok tt
      → Appends a.given b.given (whole (wanted plan bytes script).texts) → BootsRead plan.zones image lines
      → ((k : ℕ) → ScriptReadsWritten plan.zones image (take k lines))
      → BootsShown plan.zones image lines a.given b.given
  boots_shown a b end put reads written =
      let w = lines_wanted (nat_lt script_limit (length script)) 0 refl (ap status_of end) (λ e. omega (arith, e)) in
      let r = ran plan.zones image lines in
      let ended : script_end (length r.texts) r.refused ≡ Ok tt = rw w at end in
      let all : Appends a.given b.given (whole r.texts) = rw w at put in
      boots_put plan.zones image lines [] a.given b.given (none_refused r.refused (length r.texts) ended)
      (rw (append-nil (whole r.texts)) all) reads written

  -- the same before a refused line
  boots_shown_before : (a b : Outside) (status : ℕ) → status ≡ 10 → Answers (wanted plan bytes script) a b status
      → BootsRead plan.zones image lines → ((k : ℕ) → ScriptReadsWritten plan.zones image (take k lines))
      → BootsShown plan.zones image (done_lines plan.zones image lines) a.given b.given
  boots_shown_before a b status ten_is answers reads written =
      let ends = wanted_status a b status (wanted plan bytes script) ten_is answers.exact in
      let w = lines_wanted (nat_lt script_limit (length script)) 10 refl ends (λ e. omega (arith, e)) in
      let stop = ten (wanted plan bytes script).end ends in
      let put = answers.refused stop.0 stop.1 (not_free a b status ten_is) in
      let r = ran plan.zones image lines in
      let n : ℕ = length r.texts in
      let d = done_are plan.zones image lines in
      let all : Appends a.given b.given (whole r.texts ++ last_line stop.0) =
      subst (λ (t : List Text). Appends a.given b.given (whole t ++ last_line stop.0)) (ap (λ (x : Wanted). x.texts) w)
      put in
      boots_put plan.zones image (done_lines plan.zones image lines) (last_line stop.0) a.given b.given d.none
      (rw d.texts all)
      (λ k off at. (let f = front_take k n lines in reads f.0 off (rw f.1 at at)))
      (λ k. (let f = front_take k n lines in
      subst (ScriptReadsWritten plan.zones image) (sym f.1) (written f.0)))

-- the crashes of a script, by their law
crashes_listed : LaterBootListsCrash → (layout : List Zone) (mem : ℕ) (image : List ℕ) (lines : List Line)
    → IsLayout layout mem → length image ≡ mem → AreBytes image → AllHaveFields lines
    → CrashesListed layout image lines
crashes_listed law layout mem image lines lies size bytes fit before between rest reason time live t is at
    to spare none =
    let front = before ++ Crash reason time ∷ [] ++ between in
    let fields : AllHaveFields (front ++ Boot ∷ [] ++ rest) = subst (λ (ls : List Line). AllHaveFields ls) is fit in
    law layout mem image before between reason time live t lies size bytes
    (left_fields front (Boot ∷ []) (left_fields (front ++ Boot ∷ []) rest fields)) at to spare none

-- ---- the zones of a move's plan are two layouts

second_move : (plan : MovePlan) (from : Laid) (to : Params) (o : Result (List Zone) LayoutFault) → layout_of to ≡ o
    → layout_of from.params ≡ Ok from.zones → to.ftrace_sig < 2 ^ 32 → with_second_layout from to o ≡ Ok (OfMove plan)
    → IsLaidMove plan
second_move plan from to (Ok zones) e first small h =
    let same : record { from = from; to = record { params = to; zones = zones } } ≡ plan = cc in
    subst IsLaidMove same (record { from = first; to = e; small = small })
second_move plan from to (Err fault) e first small h = absurd (cc)

first_move : (plan : MovePlan) (from to : Params) (o : Result (List Zone) LayoutFault) → layout_of from ≡ o
    → to.ftrace_sig < 2 ^ 32 → with_first_layout from to o ≡ Ok (OfMove plan) → IsLaidMove plan
first_move plan from to (Ok zones) e small h =
    second_move plan (record { params = from; zones = zones }) to (layout_of to) refl e small h
first_move plan from to (Err fault) e small h = absurd (cc)

second_words : (plan : MovePlan) (from : Params) (before : ℕ) (words : List Text) (o : Option ParamFault)
    → with_second_params from before (ok_unless o (params_of words)) ≡ Ok (OfMove plan) → IsLaidMove plan
second_words plan from before words None h = first_move plan from (params_of words) (layout_of from) refl
    (given_small words (codes "ftrace_sig")) h
second_words plan from before words (Some fault) h = absurd (cc)

first_words : (plan : MovePlan) (second before : ℕ) (to words : List Text) (o : Option ParamFault)
    → with_first_params second to before (ok_unless o (params_of words)) ≡ Ok (OfMove plan) → IsLaidMove plan
first_words plan second before to words None h =
    second_words plan (params_of words) second to (first_fault [] to) h
first_words plan second before to words (Some fault) h = absurd (cc)

-- a command on an image is no move, and no script on the block store is
ram_laid : (command : RamCommand) (params : Params) (plan : MovePlan) (o : Result (List Zone) LayoutFault)
    → with_layout command params o ≡ Ok (OfMove plan) → ⊥
ram_laid command params plan (Ok zones) h = by (lacks_zone command params) h
  where
    by : (lacks : Bool) → cond lacks (Err NoSharedZone)
        (Ok (OfRam (record { command = command; params = params; zones = zones }))) ≡ Ok (OfMove plan) → ⊥
    by true h = absurd (cc)
    by false h = absurd (cc)
ram_laid command params plan (Err fault) h = absurd (cc)

ram_words : (command : RamCommand) (before : ℕ) (words : List Text) (plan : MovePlan) (o : Option ParamFault)
    → with_params command before (ok_unless o (params_of words)) ≡ Ok (OfMove plan) → ⊥
ram_words command before words plan None h = ram_laid command (params_of words) plan (layout_of (params_of words)) h
ram_words command before words plan (Some fault) h = absurd (cc)

blk_move : (plan : MovePlan) (o : Result BlkLayout LayoutFault) → with_blk_layout o ≡ Ok (OfMove plan) → ⊥
blk_move plan (Ok layout) h = absurd (cc)
blk_move plan (Err fault) h = absurd (cc)

blk_words : (before : ℕ) (words : List Text) (plan : MovePlan) (o : Option ParamFault)
    → with_blk_params before (ok_unless o (blk_params_of words)) ≡ Ok (OfMove plan) → ⊥
blk_words before words plan None h = blk_move plan (blk_layout_of (blk_params_of words)) h
blk_words before words plan (Some fault) h = absurd (cc)

move_laid : (c : Command) (before : ℕ) (words : List Text) (plan : MovePlan)
    → laid_out c before words ≡ Ok (OfMove plan) → IsLaidMove plan
move_laid (OnRam command) before words plan h = absurd (ram_words command before words plan (first_fault [] words) h)
move_laid BlkRun before words plan h = absurd (blk_words before words plan (blk_first_fault [] words) h)
move_laid (Move to) before words plan h =
    first_words plan (before + length words + 1) before to words (first_fault [] words) h

planned_move : (o : Option Asked) (plan : MovePlan) → planned o ≡ Ok (OfMove plan) → IsLaidMove plan
planned_move None plan h = absurd (cc)
planned_move (Some a) plan h = move_laid a.command a.before a.params plan h

-- ---- the run

pub run_reads : LaterBootListsCrash → (o : Option Asked) (r : Result Plan Stop) (a b : Outside) (status : ℕ)
    → planned o ≡ r → IfSome a.holds AreBytes → ToolAnswers r a b status → RunReads r a b status
run_reads law o (Err s) a b status e held answers = tt
run_reads law o (Ok (OfBlk layout)) a b status e held answers = tt
run_reads law o (Ok (OfMove plan)) a b status e held answers =
    move_reads plan a b status (planned_move o plan e) held answers
run_reads law o (Ok (OfRam plan)) a b status e held answers = (
  λ is. record {
    told = λ bytes script holds left lines long good.
        let lies = planned_whole o plan e in
        let all : AreBytes bytes = rw holds at held in
        let size = front_size (mem_of plan) bytes long in
        let front : AreBytes (take (mem_of plan) bytes) = AreBytes-take (mem_of plan) bytes all in
        let sound = states_sound plan.zones (mem_of plan) (take (mem_of plan) bytes) lines lies size front
        (read_fields script lines good) in
        let reads : BootsRead plan.zones (take (mem_of plan) bytes) lines =
        λ k off at. sound_state_reads_zones plan.zones (mem_of plan) off lies (rw at at (sound k)) in
        let written : (k : ℕ) → ScriptReadsWritten plan.zones (take (mem_of plan) bytes) (take k lines) =
        λ k. scripts_read_written plan.zones (mem_of plan) (take (mem_of plan) bytes) (take k lines) lies size front
        (take_fit k lines (read_fields script lines good)) in
        let run : RunAnswers plan a b status =
        subst (λ (c : RamCommand). ClassAnswers (class_of c) plan a b status) is answers in
        record {
          read = reads;
          written = written;
          crashes = crashes_listed law plan.zones (mem_of plan) (take (mem_of plan) bytes) lines lies size front
              (read_fields script lines good);
          shown = λ zero. let d = (run.whole.told bytes script holds left).done zero in
              boots_shown plan bytes script lines is long good a b d.0 d.1 reads written;
          shown_before = λ ten_is. boots_shown_before plan bytes script lines is long good a b status ten_is
              (run.whole.told bytes script holds left) reads written;
        };
  },
  λ is zero. record {
    told = λ bytes script holds left lines long good.
        let all : AreBytes bytes = rw holds at held in
        let run : RunAnswers plan a b status =
        subst (λ (c : RamCommand). ClassAnswers (class_of c) plan a b status) is answers in
        let d = (run.whole.told bytes script holds left).done zero in
        let p = planned_is o plan e in
        shared_reads plan is bytes script lines long good p.0
        (subst (λ (c : RamCommand). lacks_zone c plan.params ≡ false) is p.1) (planned_whole o plan e)
        (front_size (mem_of plan) bytes long) (AreBytes-take (mem_of plan) bytes all) a b d.0 d.2;
  },
)
