-- The foreign parts of a page
use Rattle.std.proofs.Common.{◌≡◌, ℕ, zero, suc, ◌+◌, ◌<◌, ◌≤◌, ◌==◌, ◌&&◌, Bool, true, false, cond, nat_lt, List, [], ◌∷◌}
use Rattle.std.proofs.Common.{◌++◌, length, slice_get, map, take, drop, ◌-◌, ◌*◌, ◌/◌, All, Option, Some, None, codes}
use Rattle.std.proofs.Common.{if◌then◌else◌, append_assoc, refl, sym, ap, ap₂, ◌∙◌, subst, append-nil, get_or, inl, inr, arith}
use Rattle.std.specs.Prelude.{⊤, filter, flat_map}
use Rattle.std.specs.List.{fold, list_any, zip, prefix_len}
use Rattle.std.specs.Char.{is_ascii_whitespace}
use Rattle.std.specs.Option.{option_map, is_some}
use Rattle.std.proofs.lemmas.Bool.{cases_order}
use Rattle.std.proofs.lemmas.List.Elements.{All-cons, All-nil}
use Rattle.std.proofs.lemmas.List.Concat.{flat_map-append}
use Rattle.std.proofs.lemmas.Option.{get_or_from_slice_get, slice_get_within}
use Rattle.zone_spec.specs.declared.Name.{Name}
use Rattle.zone_spec.specs.declared.Name.TheVariants.{Dump, Console, Pmsg, Ftrace}
use Rattle.zone_spec.specs.declared.Time.{Time}
use Rattle.zone_spec.specs.declared.Zone.{Zone}
use Rattle.report_spec.specs.declared.Division.{Division}
use Rattle.report_spec.specs.declared.Division.TheVariants.{Region, Storage}
use Rattle.zone_spec.specs.Parts.{AreBytes}
use Rattle.zone_spec.specs.Records.{Saved}
use Rattle.zone_spec.specs.declared.PartState.{PartState}
use Rattle.zone_spec.specs.declared.PartState.TheVariants.{Read, Bad}
use Rattle.report_spec.specs.Escaped.{escaped, IsText}
use Rattle.zone_spec.specs.PartStates.{PartStates}
use Rattle.report_spec.specs.declared.Mended.{Mended}
use Rattle.report_spec.specs.declared.Packing.{Packing}
use Rattle.report_spec.specs.declared.Packing.TheVariants.{Plain, Whole, Part as PartOfText}
use Rattle.report_spec.specs.Packed.{RecordShown, readable}
use Rattle.report_spec.specs.Newest.{newest, console_of}
use Rattle.report_spec.specs.Deaths.{DeathTold, death_told, death_time}
use Rattle.report_spec.specs.Doubts.{doubts_between}
use Rattle.report_spec.specs.Ends.{EndTold, end_told}
use Rattle.report_spec.specs.Facts.{MachineTold, trimmed, uptime_of, machine_of, machine_ended, signature_told}
use Rattle.zone_spec.specs.Reading.{ZoneReading}
use Rattle.death_spec.specs.declared.Line.{Line}
use Rattle.death_spec.specs.declared.Span.{Span}
use Rattle.death_spec.specs.declared.Death.{Death}
use Rattle.death_spec.specs.Lines.{lines_from, part}
use Rattle.death_spec.specs.Reports.{death_of}
use Rattle.prz_read.specs.Saving.{saved}
use Rattle.prz_region.proofs.Chains.{AreBytes-take, AreBytes-drop}
use Rattle.region_report.specs.Reports.{ReportHeld}
use Rattle.report_html.specs.Pieces.{Part, Words, Bytes, Named, Link, parts_text}
use Rattle.report_html.specs.declared.spots.Stretch.{Stretch}
use Rattle.report_html.specs.declared.spots.Stretch.TheVariants.{Header, Blocks}
use Rattle.report_html.specs.declared.spots.Spot.{Spot}
use Rattle.report_html.specs.Spots.{stretch_parts, verdict_parts, spot_parts}
use Rattle.report_html.specs.Spots.{spots_of, spots_opening, spots_parts}
use Rattle.report_html.specs.Regions.{picture}
use Rattle.report_html.specs.Pictures.{numbers_parts}
use Rattle.report_html.specs.Pictures.{fitting_parts, label_parts, place_parts, zone_name, frame_parts, map_parts}
use Rattle.report_html.specs.Pictures.{corrected_parts, header_parts, blocks_parts, run_parts, runs}
use Rattle.report_html.specs.Pictures.{unused_parts, parity_parts, strip_parts, width_of, region_opening, drawn_of, map_of}
use Rattle.report_html.specs.ZoneRows.{ZoneRow, is_joined, next_row, up_to, read_cells, name_parts, place_cells, zone_parts}
use Rattle.report_html.specs.ZoneRows.{held_parts, done_parts, rows_after}
use Rattle.report_html.specs.Before.{told_before, time_after, line_below, named_below, context_below, before_parts}
use Rattle.report_html.specs.Before.{before_bytes}
use Rattle.report_html.specs.Facts.{when_parts, up_parts, bytes_parts, machine_parts, some_bytes, named_bytes, machine_bytes}
use Rattle.report_html.specs.Ended.{end_facts, end_parts as ending_parts, end_bytes}
use Rattle.report_html.specs.Died.{second_parts, said_parts, why_parts, fact_parts}
use Rattle.report_spec.specs.Excerpts.{place_above, below}
use Rattle.report_html.specs.Died.{context_parts, rest_parts, rest_end, excerpt_parts, folded_parts, shown_opening}
use Rattle.report_html.specs.Died.{before_folded, after_folded, around_parts}
use Rattle.report_html.specs.Died.{console_words, mended_parts, teller_parts, death_parts, died_parts, second_bytes}
use Rattle.report_html.specs.Died.{said_bytes, why_bytes, context_bytes, rest_bytes, excerpt_bytes, around_bytes, death_bytes}
use Rattle.report_html.specs.Died.{died_bytes}
use Rattle.report_html.specs.Listed.{below_parts, telling_parts, above_parts, say_parts, first_parts, head_parts, unfolded}
use Rattle.report_html.specs.Listed.{teller_name, is_teller, is_unfolded, mark_parts, first_bytes, head_bytes}
use Rattle.report_html.specs.Listed.{fold_parts, below_bytes, telling_bytes, above_bytes, content_bytes, record_bytes}
use Rattle.report_html.specs.Causes.{CrashShown, crash_of, is_dump, crashes_of, with_first, firsts_of, rows_of}
use Rattle.report_html.specs.Causes.{has_line_of, time_cell, newest_cells, row_parts as dumps_parts}
use Rattle.report_html.specs.Causes.{line_part, cause_parts, others_parts, table_parts, table_of}
use Rattle.report_html.specs.Causes.{causes_parts, line_bytes, lines_of, causes_bytes}
use Rattle.report_html.specs.Parameters.{parameters_parts}
use Rattle.report_html.specs.declared.style.TheConstants.{STYLE}
use Rattle.report_html.specs.declared.words.TheConstants.{HEAD, NAVIGATION, END, KEY, ZONES, STRIP, READ, TOLD}
use Rattle.report_html.specs.Groups.{are_grouped, group_in, is_same, end_parts, newest_words, older_parts, begin_parts}
use Rattle.report_html.specs.Groups.{edge_parts}
use Rattle.report_html.specs.Pages.{time_parts, packing_parts, content_parts, summary_parts, record_parts, listed_parts}
use Rattle.report_html.specs.Pages.{records_after, list_parts, records_opening, named_parts, name_bytes}
use Rattle.report_html.specs.Pages.{heading_parts, page_with, page_parts}
use Rattle.report_html.specs.Reads.{counted_parts, number_parts, clean_parts, read_parts}
use Rattle.report_spec.specs.declared.Warning.{Warning}
use Rattle.report_spec.specs.declared.Warning.TheVariants.{ConsoleTells, BadTeller, BadHeaders, NoLog, ManyBad}
use Rattle.region_report.specs.Warned.{warnings_by}
use Rattle.report_html.specs.Warnings.{warning_parts, better_parts, warnings_parts}
use Rattle.report_html.specs.Escaping.{foreign_in, foreign_of, HoldBytes, TellsBytes, EndsBytes, AreMachineBytes}
use Rattle.report_html.specs.Escaping.{AreDeathBytes, AllTellBytes, foreign_by, IsWithoutMarkup}
use Rattle.report_html.specs.Order.{newest_first}
use Rattle.report_html.proofs.Texts.{is-text}
use Rattle.report_html.proofs.NewestFirst.{held-in-order}

both : (a b : List Part) → foreign_of (a ++ b) ≡ foreign_of a ++ foreign_of b
both a b = flat_map-append foreign_in a b

and-of : (a b : List Part) (x y : List (List ℕ)) → foreign_of a ≡ x → foreign_of b ≡ y → foreign_of (a ++ b) ≡ x ++ y
and-of a b x y e f = both a b ∙ ap₂ (λ (u v : List (List ℕ)). u ++ v) e f

and-none : (a b : List Part) (x : List (List ℕ)) → foreign_of a ≡ x → foreign_of b ≡ [] → foreign_of (a ++ b) ≡ x
and-none a b x e f = and-of a b x [] e f ∙ append-nil x

none-of : {X : Type 0} (f : X → List Part) → ((x : X) → foreign_of (f x) ≡ []) → (xs : List X)
    → foreign_of (flat_map f xs) ≡ []
none-of f each [] = refl
none-of f each (x ∷ xs) = both (f x) (flat_map f xs) ∙ rw (each x) (none-of f each xs)

of-choice : (t : Bool) (a b : List Part) → foreign_of a ≡ [] → foreign_of b ≡ [] → foreign_of (cond t a b) ≡ []
of-choice true a b e f = e
of-choice false a b e f = f

-- ---- the picture has none

of-corrected : (s : Option PartState) → foreign_of (corrected_parts s) ≡ []
of-corrected None = refl
of-corrected (Some Bad) = refl
of-corrected (Some (Read n)) = of-choice (n == 0) [] _ refl refl

of-header : (s : Option PartState) → foreign_of (header_parts s) ≡ []
of-header s = simp (both, of-corrected)

of-numbers : (from to : ℕ) → foreign_of (numbers_parts from to) ≡ []
of-numbers from to = of-choice (to - from == 1) _ _ refl refl

of-blocks : (z : Zone) (from to : ℕ) (s : Option PartState) → foreign_of (blocks_parts z from to s) ≡ []
of-blocks z from to s = simp (both, of-numbers, of-corrected)

of-runs : (z : Zone) (blocks : List PartState) → foreign_of (flat_map (run_parts z) (runs 0 blocks)) ≡ []
of-runs z blocks = none-of (run_parts z) (λ r. of-blocks z r.from r.to (Some r.state)) (runs 0 blocks)

of-unused : (z : Zone) (used : ℕ) → foreign_of (unused_parts z used) ≡ []
of-unused z used = of-choice (nat_lt used z.blocks) _ [] (of-blocks z used z.blocks None) refl

of-parity : (z : Zone) → foreign_of (parity_parts z) ≡ []
of-parity z = of-choice (nat_lt (12 + z.cap) z.size) _ [] refl refl

of-strip : (z : Zone) (p : PartStates) → foreign_of (strip_parts z p) ≡ []
of-strip z p = simp (both, of-header, of-runs, of-unused, of-parity)

of-up-to : (from to : ℕ) → foreign_of (up_to from to) ≡ []
of-up-to from to = of-choice (from == to) [] _ refl refl

of-cells : (r : Option ZoneReading) → foreign_of (read_cells r) ≡ []
of-cells None = refl
of-cells (Some r) = refl

of-zone : (w : ZoneRow) → foreign_of (zone_parts w) ≡ []
of-zone w =
    let z : Zone = w.first.0.0 in
    let named : List Part = name_parts z w.last in
    let placed : List Part = place_cells z w.last w.first.0.1 in
    let cells : List Part = read_cells w.first.0.1 in
    let strip : List Part = strip_parts z w.first.1 in
    let begin : List Part = Words STRIP.now ∷ [] in
    and-none (named ++ placed ++ cells ++ begin ++ strip) (Words (codes "</td></tr>\n") ∷ []) []
    (and-none (named ++ placed ++ cells ++ begin) strip []
    (and-none (named ++ placed ++ cells) begin []
    (and-none (named ++ placed) cells []
    (and-none named placed []
    (of-up-to z.name.index w.last.name.index) refl) (of-cells w.first.0.1)) refl) (of-strip z w.first.1)) refl

of-held : (held : Option ZoneRow) → foreign_of (held_parts held) ≡ []
of-held None = refl
of-held (Some w) = of-zone w

of-rows-after : (held : Option ZoneRow) (ds : List (Saved × PartStates)) → foreign_of (rows_after held ds) ≡ []
unfolding rows_after
of-rows-after held [] = of-held held
of-rows-after held (d ∷ ds) =
    and-none (done_parts held d) (rows_after (Some (next_row held d)) ds) []
    (of-choice (is_joined held d) [] (held_parts held) refl (of-held held)) (of-rows-after (Some (next_row held d)) ds)

of-label : (z : Zone) (whole : ℕ) → foreign_of (label_parts z whole) ≡ []
of-label z whole = of-choice (nat_lt (16 * z.size) whole) [] (fitting_parts z whole) refl refl

of-map : (whole : ℕ) (d : Saved × PartStates) → foreign_of (map_parts whole d) ≡ []
of-map whole d =
    let front : List Part = place_parts whole d.0.0 ++ zone_name d.0.0 ++ frame_parts d.0.1 in
    and-none (front ++ strip_parts d.0.0 d.1 ++ label_parts d.0.0 whole) (Words (codes "</svg>\n") ∷ []) []
    (and-none (front ++ strip_parts d.0.0 d.1) (label_parts d.0.0 whole) []
    (and-none front (strip_parts d.0.0 d.1) [] refl (of-strip d.0.0 d.1)) (of-label d.0.0 whole)) refl

of-all : (zones : List Zone) (report : ReportHeld) → foreign_of (map_of zones report) ≡ []
of-all zones report = none-of (map_parts (width_of zones)) (of-map (width_of zones)) (drawn_of zones report)

of-stretch : (stretch : Stretch) → foreign_of (stretch_parts stretch) ≡ []
of-stretch Header = refl
of-stretch (Blocks from to) = of-numbers from to

of-verdict : (stretch : Stretch) (state : PartState) → foreign_of (verdict_parts stretch state) ≡ []
of-verdict stretch (Read n) = refl
of-verdict stretch Bad = refl

of-spot : (s : Spot) → foreign_of (spot_parts s) ≡ []
of-spot s = simp (both, of-stretch, of-verdict)

of-rows : (ss : List Spot) → foreign_of (flat_map spot_parts ss) ≡ []
of-rows ss = none-of spot_parts of-spot ss

of-spots : (ss : List Spot) → foreign_of (spots_parts ss) ≡ []
of-spots [] = refl
of-spots (s ∷ ss) =
    both (spots_opening (length (s ∷ ss)) ++ flat_map spot_parts (s ∷ ss))
    (Words (codes "</table></div>\n</details>\n") ∷ [])
    ∙ rw (of-rows (s ∷ ss)) refl

of-picture : (zones : List Zone) (report : ReportHeld) → foreign_of (picture zones report) ≡ []
of-picture zones report =
    let opening : List Part = region_opening (width_of zones) (length zones) in
    let spots : List Part = spots_parts (spots_of zones report.parts) in
    let drawn : List Part = map_of zones report in
    let rows : List Part = rows_after None (drawn_of zones report) in
    let key : List Part = Words KEY.now ∷ [] in
    let head : List Part = Words ZONES.now ∷ [] in
    and-none (opening ++ drawn ++ key ++ spots ++ head ++ rows) (Words (codes "</table></div>\n") ∷ []) []
    (and-none (opening ++ drawn ++ key ++ spots ++ head) rows []
    (and-none (opening ++ drawn ++ key ++ spots) head []
    (and-none (opening ++ drawn ++ key) spots []
    (and-none (opening ++ drawn) key []
    (and-none opening drawn [] refl (of-all zones report)) refl) (of-spots (spots_of zones report.parts))) refl)
    (of-rows-after None (drawn_of zones report))) refl

-- ---- a record has what people read of it

of-below : (text : List ℕ) (span : Option Span) → foreign_of (below_parts text span) ≡ below_bytes text span
of-below text None = refl
of-below text (Some span) = refl

of-telling : (text : List ℕ) (d : Option Death) → foreign_of (telling_parts text d) ≡ telling_bytes text d
of-telling text None = refl
of-telling text (Some d) =
    ap (λ (bs : List (List ℕ)). part text d.telling.text d.telling.end ∷ bs) (of-below text d.function)

of-above : (name : Name) (text : List ℕ) → foreign_of (above_parts name text) ≡ above_bytes name text
of-above (Dump index packed) text = of-telling text (death_of text)
of-above Console text = of-telling text (death_of text)
of-above Pmsg text = refl
of-above Ftrace text = refl

of-say : (name : Name) (text : List ℕ) → foreign_of (say_parts name text) ≡ above_bytes name text
of-say name text = simp (both, of-above, append-nil)

of-first : (text : List ℕ) (lines : List Line) → foreign_of (first_parts text lines) ≡ first_bytes text lines
of-first text [] = refl
of-first text (line ∷ lines) = refl

of-head : (name : Name) (text : List ℕ) → foreign_of (head_parts name text) ≡ head_bytes name text
of-head (Dump index packed) text = of-first text (lines_from text 0)
of-head Console text = refl
of-head Pmsg text = refl
of-head Ftrace text = refl

of-mark : (tells : Bool) → foreign_of (mark_parts tells) ≡ []
of-mark true = refl
of-mark false = refl

of-content : (tells : Bool) (name : Name) (doubts : List Bool) (text : List ℕ)
    → foreign_of (content_parts tells name doubts text) ≡ content_bytes tells text
of-content true name doubts text = refl
of-content false name doubts text = refl

of-fold : (is_open : Bool) → foreign_of (fold_parts is_open) ≡ []
of-fold true = refl
of-fold false = refl

of-time : (time : Option Time) → foreign_of (time_parts time) ≡ []
of-time None = refl
of-time (Some time) = refl

of-packing : (packing : Packing (List ℕ)) → foreign_of (packing_parts packing) ≡ []
of-packing Plain = refl
of-packing (Whole taken) = refl
of-packing (PartOfText fault text) = refl

of-number : (words : List ℕ) (n : ℕ) → foreign_of (number_parts words n) ≡ []
of-number words n = of-choice (nat_lt 0 n) (counted_parts words n) [] refl refl

of-clean : (bad corrected : ℕ) → foreign_of (clean_parts bad corrected) ≡ []
of-clean bad corrected = of-choice ((bad == 0) && (corrected == 0)) _ [] refl refl

of-read : (zones : List Saved) (name : Name) → foreign_of (read_parts zones name) ≡ []
of-read zones name = simp (both, of-clean, of-number)

of-summary : (zones : List Saved) (tells : Bool) (r : RecordShown)
    → foreign_of (summary_parts zones tells r) ≡ above_bytes r.name (readable r) ++ head_bytes r.name (readable r)
of-summary zones tells r =
    simp (both, of-say, of-head, of-mark, of-time, of-packing, of-clean, of-number, append-nil)

of-record : (zones : List Saved) (is_open : Bool) (teller : Option Name) (r : RecordShown)
    → foreign_of (record_parts zones is_open (is_teller teller r.name) r) ≡ record_bytes teller r
of-record zones is_open teller r =
    let tells : Bool = is_teller teller r.name in
    let said : List (List ℕ) = above_bytes r.name (readable r) ++ head_bytes r.name (readable r) in
    and-of (fold_parts is_open ++ summary_parts zones tells r) (content_parts tells r.name r.doubts (readable r)) said
    (content_bytes tells (readable r))
    (and-of (fold_parts is_open) (summary_parts zones tells r) [] said (of-fold is_open) (of-summary zones tells r))
    (of-content tells r.name r.doubts (readable r))

of-end : (group : Option ℕ) → foreign_of (end_parts group) ≡ []
of-end None = refl
of-end (Some g) = refl

of-begin : (is_open : Bool) (group : Option ℕ) → foreign_of (begin_parts is_open group) ≡ []
of-begin is_open None = refl
of-begin is_open (Some g) = of-choice (g == 0) (Words (newest_words is_open) ∷ []) (older_parts g) refl refl

of-edge : (is_open : Bool) (before after : Option ℕ) → foreign_of (edge_parts is_open before after) ≡ []
of-edge is_open before after =
    of-choice (is_same before after) [] (end_parts before ++ begin_parts is_open after) refl
    (simp (both, of-end, of-begin))

of-records : (zones : List Saved) (grouped : Bool) (number : Option ℕ) (teller : Option Name) (place : ℕ)
    (before : Option ℕ) (rs : List RecordShown)
    → foreign_of (records_after zones grouped number teller place before rs) ≡ flat_map (record_bytes teller) rs
unfolding records_after
of-records zones grouped number teller place before [] = of-edge (is_some number) before None
of-records zones grouped number teller place before (r ∷ rs) =
    let here : Option ℕ = group_in grouped place r.name in
    let edge : List Part = edge_parts (is_some number) before here in
    let own : List Part = listed_parts zones number teller r in
    let rest : List Part = records_after zones grouped number teller (place + 1) here rs in
    and-of (edge ++ own) rest (record_bytes teller r) (flat_map (record_bytes teller) rs)
    (and-of edge own [] (record_bytes teller r) (of-edge (is_some number) before here)
    (of-record zones (is_unfolded number r.name) teller r))
    (of-records zones grouped number teller (place + 1) here rs)

-- ---- why the machine died has parts of the text that tells it

of-second : (text line : List ℕ) (second : Option Line)
    → foreign_of (Words (codes "<pre class=\"why\">") ∷ Bytes line ∷ second_parts text second
    ++ Words (codes "</pre>\n") ∷ []) ≡ line ∷ second_bytes text second
of-second text line None = refl
of-second text line (Some second) = refl

of-said : (text : List ℕ) (d : Death) → foreign_of (said_parts text d) ≡ said_bytes text d
of-said text d = of-second text (part text d.telling.text d.telling.end) d.second

of-why : (records : List RecordShown) (told : Option DeathTold)
    → foreign_of (why_parts records told) ≡ why_bytes told
of-why records None = refl
of-why records (Some t) = of-said (readable t.teller) t.death

of-when : (time : Option Time) → foreign_of (when_parts time) ≡ []
of-when None = refl
of-when (Some time) = refl

of-up : (uptime : List ℕ) → foreign_of (up_parts uptime) ≡ some_bytes uptime
of-up [] = refl
of-up (b ∷ bs) = refl

of-bytes : (label bytes : List ℕ) → foreign_of (bytes_parts label bytes) ≡ some_bytes bytes
of-bytes label [] = refl
of-bytes label (b ∷ bs) = refl

of-machine : (m : MachineTold) → foreign_of (machine_parts m) ≡ machine_bytes m
of-machine m = simp (both, of-bytes)

of-fact : (label missing text : List ℕ) (span : Option Span)
    → foreign_of (fact_parts label missing text span) ≡ named_bytes text span
of-fact label missing text None = refl
of-fact label missing text (Some span) = refl

of-context : (text : List ℕ) (d : Death) → foreign_of (context_parts text d) ≡ context_bytes text d
of-context text d = simp (both, of-fact)

of-rest : (doubts : List Bool) (text : List ℕ) (at : ℕ) (second : Option Line)
    → foreign_of (rest_parts doubts text at second) ≡ rest_bytes text at second
of-rest doubts text at None = refl
of-rest doubts text at (Some line) = refl

of-excerpt : (doubts : List Bool) (text : List ℕ) (d : Death)
    → foreign_of (excerpt_parts doubts text d) ≡ excerpt_bytes text d
of-excerpt doubts text d =
    let above : List ℕ = part text (place_above text d.telling.start 8) d.telling.start in
    let line : List ℕ = part text d.telling.start d.telling.next in
    ap (λ (bs : List (List ℕ)). above ∷ line ∷ bs) (of-rest doubts text d.telling.next d.second)

of-folded : (words : List ℕ) (doubts : List Bool) (bytes : List ℕ)
    → foreign_of (folded_parts words doubts bytes) ≡ some_bytes bytes
of-folded words doubts [] = refl
of-folded words doubts (b ∷ bs) = refl

of-around : (name : Name) (doubts : List Bool) (text : List ℕ) (d : Death)
    → foreign_of (around_parts name doubts text d) ≡ around_bytes text d
of-around name doubts text d =
    let from : ℕ = place_above text d.telling.start 8 in
    let to : ℕ = rest_end text d.telling.next d.second in
    let front : List ℕ = part text 0 from in
    let back : List ℕ = part text to (length text) in
    let before : List Part = before_folded doubts text from in
    let shown : List Part = excerpt_parts doubts text d in
    let own : List (List ℕ) = excerpt_bytes text d in
    and-of (before ++ shown_opening name ++ shown ++ Words (codes "</pre>\n") ∷ [])
    (after_folded doubts text to) (some_bytes front ++ own) (some_bytes back)
    (and-none (before ++ shown_opening name ++ shown) (Words (codes "</pre>\n") ∷ []) (some_bytes front ++ own)
    (and-of (before ++ shown_opening name) shown (some_bytes front) own
    (and-none before (shown_opening name) (some_bytes front) (of-folded (codes "Lines before") (doubts_between doubts 0 from) front) refl)
    (of-excerpt doubts text d)) refl)
    (of-folded (codes "Lines after") (doubts_between doubts to (length text)) back)

of-after : (time : Option Time) → foreign_of (time_after time) ≡ []
of-after None = refl
of-after (Some time) = refl

of-named-below : (words text : List ℕ) (span : Option Span)
    → foreign_of (named_below words text span) ≡ named_bytes text span
of-named-below words text None = refl
of-named-below words text (Some span) = refl

of-context-below : (text : List ℕ) (d : Death) → foreign_of (context_below text d)
    ≡ named_bytes text d.cpu ++ named_bytes text d.function ++ named_bytes text d.task
of-context-below text d =
    let cpu : List Part = named_below (codes "\nCPU ") text d.cpu in
    let function : List Part = named_below (codes "\nFunction ") text d.function in
    let task : List Part = named_below (codes "\nTask ") text d.task in
    let b : Option Span → List (List ℕ) = named_bytes text in
    and-of (cpu ++ function) task (b d.cpu ++ b d.function) (b d.task)
    (and-of cpu function (b d.cpu) (b d.function) (of-named-below (codes "\nCPU ") text d.cpu)
    (of-named-below (codes "\nFunction ") text d.function)) (of-named-below (codes "\nTask ") text d.task)

of-before : (before : Option DeathTold) → foreign_of (before_parts before) ≡ before_bytes before
of-before None = refl
of-before (Some t) =
    let text : List ℕ = readable t.teller in
    let head : List Part = Words (codes "<tr><th scope=\"row\">Before it</th><td>") ∷ Link t.teller.name ∷ [] in
    let time : List Part = time_after t.teller.time in
    let line : List Part = line_below text t.death.telling in
    let context : List Part = context_below text t.death in
    let said : List (List ℕ) = part text t.death.telling.text t.death.telling.end ∷ [] in
    let named : List (List ℕ) =
    named_bytes text t.death.cpu ++ named_bytes text t.death.function ++ named_bytes text t.death.task in
    and-none (head ++ time ++ line ++ context) (Words (codes "</td></tr>\n") ∷ []) (before_bytes (Some t))
    (and-of (head ++ time ++ line) context said named
    (and-of (head ++ time) line [] said (and-none head time [] refl (of-after t.teller.time)) refl)
    (of-context-below text t.death)) refl

of-mended : (mended : Option (Mended (List ℕ))) → foreign_of (mended_parts mended) ≡ []
of-mended None = refl
of-mended (Some mended) = refl

of-teller : (zones : List Saved) (name : Name) (mended : Option (Mended (List ℕ))) (words : List ℕ)
    → foreign_of (teller_parts zones name mended words) ≡ []
of-teller zones name mended words =
    let front : List Part = Words (codes "<tr><th scope=\"row\">Told by</th><td>") ∷ Link name ∷ [] in
    let more : List Part = Words words ∷ Words READ.now ∷ [] in
    let back : List Part = Words TOLD.now ∷ Named name ∷ Words (codes "</h2>\n") ∷ [] in
    and-none (front ++ mended_parts mended ++ more ++ read_parts zones name) back []
    (and-none (front ++ mended_parts mended ++ more) (read_parts zones name) []
    (and-none (front ++ mended_parts mended) more [] (and-none front (mended_parts mended) [] refl (of-mended mended))
    refl) (of-read zones name)) refl

of-death : (signature : List ℕ) (zones : List Saved) (records : List RecordShown) (t : DeathTold)
    → foreign_of (death_parts signature zones records t) ≡ death_bytes signature records t
of-death signature zones records t =
    let text : List ℕ = readable t.teller in
    let name : Name = t.teller.name in
    let words : List ℕ = console_words t (console_of records) in
    let facts : List Part = when_parts (death_time t (newest records)) ++ up_parts (uptime_of text t.death.telling)
    ++ context_parts text t.death ++ bytes_parts (codes "Signature") signature
    ++ machine_parts (machine_of t (console_of records)) ++ before_parts (told_before name records) in
    let own : List (List ℕ) = some_bytes (uptime_of text t.death.telling) ++ context_bytes text t.death
    ++ some_bytes signature ++ machine_bytes (machine_of t (console_of records))
    ++ before_bytes (told_before name records) in
    let first : foreign_of facts ≡ own = simp (both, of-when, of-up, of-fact, of-bytes, of-before, append-nil) in
    let teller : List Part = teller_parts zones name t.teller.mended words in
    and-of (facts ++ teller) (around_parts name t.teller.doubts text t.death) own (around_bytes text t.death)
    (and-none facts teller own first (of-teller zones name t.teller.mended words))
    (of-around name t.teller.doubts text t.death)

of-ending : (zones : List Saved) (t : Option EndTold) → foreign_of (ending_parts zones t) ≡ end_bytes t
of-ending zones None = refl
of-ending zones (Some t) = simp (both, of-when, of-up, of-bytes, of-clean, of-number, append-nil)

of-died : (signature : List ℕ) (zones : List Saved) (records : List RecordShown) (t : Option DeathTold)
    → foreign_of (died_parts signature zones records t) ≡ died_bytes signature records t
of-died signature zones records None = of-ending zones (end_told records)
of-died signature zones records (Some t) = of-death signature zones records t

-- ---- warnings have none

of-warning : (warning : Warning) → foreign_of (warning_parts warning) ≡ []
of-warning (ConsoleTells dump) = refl
of-warning (BadTeller bad) = refl
of-warning (BadHeaders count) = refl
of-warning NoLog = refl
of-warning (ManyBad bad) = refl

of-warnings : (report : ReportHeld) (told : Option DeathTold) → foreign_of (warnings_parts report told) ≡ []
of-warnings report told = none-of warning_parts of-warning (warnings_by report told)

of-better : (better : List ℕ) → foreign_of (better_parts better) ≡ some_bytes better
of-better [] = refl
of-better (b ∷ bs) = refl

-- ---- the table of dumps has telling lines

of-cell : (time : Option Time) → foreign_of (time_cell time) ≡ []
of-cell None = refl
of-cell (Some time) = refl

of-newest : (newest : Option RecordShown) → foreign_of (newest_cells newest) ≡ []
of-newest None = refl
of-newest (Some r) = simp of-cell

of-dumps : (line : Part) (crashes : List CrashShown) → foreign_of (dumps_parts line crashes) ≡ foreign_in line
of-dumps line crashes = simp (both, of-newest, append-nil)

of-line : (line : Option (List ℕ)) → foreign_in (line_part line) ≡ line_bytes line
of-line None = refl
of-line (Some line) = refl

of-causes-rows : (crashes rows : List CrashShown)
    → foreign_of (flat_map (cause_parts crashes) rows) ≡ flat_map (λ (c : CrashShown). line_bytes c.line) rows
of-causes-rows crashes [] = refl
of-causes-rows crashes (row ∷ rows) =
    both (cause_parts crashes row) (flat_map (cause_parts crashes) rows)
    ∙ ap₂ (λ (u v : List (List ℕ)). u ++ v)
    (of-dumps (line_part row.line) (filter (has_line_of row) crashes) ∙ of-line row.line)
    (of-causes-rows crashes rows)

of-others : (others : List CrashShown) → foreign_of (others_parts others) ≡ []
of-others [] = refl
of-others (c ∷ cs) = of-dumps (Words (codes "other telling lines")) (c ∷ cs)

of-table : (crashes : List CrashShown)
    → foreign_of (table_parts crashes) ≡ flat_map (λ (c : CrashShown). line_bytes c.line) (rows_of crashes)
of-table crashes = simp (both, of-causes-rows, of-others, append-nil)

of-causes : (crashes : List CrashShown) → foreign_of (table_of crashes) ≡ lines_of crashes
of-causes crashes = by (nat_lt 1 (length crashes))
  where
    by : (t : Bool) → foreign_of (cond t (table_parts crashes) [])
        ≡ cond t (flat_map (λ (c : CrashShown). line_bytes c.line) (rows_of crashes)) []
    by true = of-table crashes
    by false = refl

-- ---- the page has its name and title, those parts, and what people read of its records

of-parameters : (d : Division) → foreign_of (parameters_parts d) ≡ []
of-parameters (Region p) = refl
of-parameters (Storage s) = refl

of-named : (signature : List ℕ) (records : List RecordShown) (told : Option DeathTold)
    → foreign_of (named_parts signature records told) ≡ name_bytes signature told
of-named signature records None = refl
of-named signature records (Some t) = refl

-- the name of the page and its heading, and why the machine died
of-opening : (title signature : List ℕ) (records : List RecordShown) (told : Option DeathTold)
    → foreign_of (heading_parts title (named_parts signature records told) ++ why_parts records told)
    ≡ title ∷ name_bytes signature told ++ title ∷ why_bytes told
of-opening title signature records told =
    let front : List Part = Words HEAD.now ∷ Bytes title ∷ Words (codes ": ") ∷ named_parts signature records told in
    let back : List Part = Words (codes "</title>\n<style>\n") ∷ Words STYLE.now
    ∷ Words (codes "</style>\n</head>\n<body>\n<header>\n<h1>Why this machine died: ") ∷ Bytes title
    ∷ Words NAVIGATION.now ∷ [] in
    let n : List (List ℕ) = title ∷ name_bytes signature told in
    and-of (front ++ back) (why_parts records told) (n ++ title ∷ []) (why_bytes told)
    (and-of front back n (title ∷ [])
    (ap (λ (bs : List (List ℕ)). title ∷ bs) (of-named signature records told)) refl)
    (of-why records told)
    ∙ append_assoc n (title ∷ []) (why_bytes told)

of-page : (title : List ℕ) (p : Division) (zones : List Zone) (report : ReportHeld) (better signature : List ℕ)
    (told : Option DeathTold) → foreign_of (page_with title p zones report better signature told)
    ≡ foreign_by title better signature report.records told
of-page title p zones report better signature told =
    let opening : List Part = heading_parts title (named_parts signature report.records told)
    ++ why_parts report.records told in
    let warned : List Part = warnings_parts report told in
    let betters : List Part = better_parts better in
    let b : List (List ℕ) = some_bytes better in
    let died : List Part = died_parts signature (saved report.logs) report.records told in
    let opened : List Part = records_opening (length report.records) in
    let causes : List Part = causes_parts report.records in
    let records : List Part = list_parts report told in
    let ordered : List RecordShown = newest_first report.records in
    let drawn : List Part = picture zones report in
    let w : List (List ℕ) = title ∷ name_bytes signature told ++ title ∷ why_bytes told in
    let d : List (List ℕ) = died_bytes signature report.records told in
    let l : List (List ℕ) = causes_bytes report.records in
    let teller : Option Name = teller_name told in
    let m : List (List ℕ) = flat_map (record_bytes teller) ordered in
    let number : Option ℕ = unfolded (newest report.records) told in
    and-none (opening ++ warned ++ betters ++ died ++ opened ++ causes ++ records ++ drawn ++ parameters_parts p)
    (Words END.now ∷ []) (w ++ b ++ d ++ l ++ m)
    (and-none (opening ++ warned ++ betters ++ died ++ opened ++ causes ++ records ++ drawn) (parameters_parts p)
    (w ++ b ++ d ++ l ++ m)
    (and-none (opening ++ warned ++ betters ++ died ++ opened ++ causes ++ records) drawn (w ++ b ++ d ++ l ++ m)
    (and-of (opening ++ warned ++ betters ++ died ++ opened ++ causes) records (w ++ b ++ d ++ l) m
    (and-of (opening ++ warned ++ betters ++ died ++ opened) causes (w ++ b ++ d) l
    (and-none (opening ++ warned ++ betters ++ died) opened (w ++ b ++ d)
    (and-of (opening ++ warned ++ betters) died (w ++ b) d
    (and-of (opening ++ warned) betters w b
    (and-none opening warned w (of-opening title signature report.records told)
    (of-warnings report told)) (of-better better)) (of-died signature (saved report.logs) report.records told)) refl) (of-causes (crashes_of report.records)))
    (of-records (saved report.logs) (are_grouped ordered) number teller 0 None ordered)) (of-picture zones report))
    (of-parameters p)) refl

-- ---- each of them is escaped to text

abbrev EscapeToTexts : List (List ℕ) → Type 0
EscapeToTexts all = All (λ (bytes : List ℕ). IsText (escaped bytes)) all

part-text : (text : List ℕ) (from to : ℕ) → AreBytes text → IsText (escaped (part text from to))
part-text text from to h =
    is-text (part text from to) (AreBytes-take (to - from) (drop from text) (AreBytes-drop from text h))

-- before texts
onto : (bytes : List ℕ) (more : List (List ℕ)) → IsText (escaped bytes) → EscapeToTexts more
    → EscapeToTexts (bytes ∷ more)
onto bytes more h all = All-cons (λ (bytes : List ℕ). IsText (escaped bytes)) bytes more h all

-- texts that stand before others
abbrev Joins : List (List ℕ) → Type 0
Joins all = (more : List (List ℕ)) → EscapeToTexts more → EscapeToTexts (all ++ more)

joins-none : Joins []
joins-none more all = all

joins-with : (text : List ℕ) (from to : ℕ) (bs : List (List ℕ)) → AreBytes text → Joins bs
    → Joins (part text from to ∷ bs)
joins-with text from to bs h f more all =
    onto (part text from to) (bs ++ more) (part-text text from to h) (f more all)

joins-and : (a b : List (List ℕ)) → Joins a → Joins b → Joins (a ++ b)
joins-and a b f g more all = subst EscapeToTexts (sym (append_assoc a b more)) (f (b ++ more) (g more all))

joins-second : (text : List ℕ) (second : Option Line) → AreBytes text → Joins (second_bytes text second)
joins-second text None h = joins-none
joins-second text (Some line) h = joins-with text line.text line.end [] h joins-none

joins-named : (text : List ℕ) (span : Option Span) → AreBytes text → Joins (named_bytes text span)
joins-named text None h = joins-none
joins-named text (Some span) h = joins-with text span.start span.end [] h joins-none

joins-rest : (text : List ℕ) (at : ℕ) (second : Option Line) → AreBytes text → Joins (rest_bytes text at second)
joins-rest text at None h = joins-with text at (below text at 16) [] h joins-none
joins-rest text at (Some line) h =
    let last : List ℕ = part text line.next (below text line.next 16) in
    joins-with text at line.start (part text line.start line.next ∷ last ∷ []) h
    (joins-with text line.start line.next (last ∷ []) h
    (joins-with text line.next (below text line.next 16) [] h joins-none))

joins-context : (text : List ℕ) (d : Death) → AreBytes text → Joins (context_bytes text d)
joins-context text d h =
    let b : Option Span → List (List ℕ) = named_bytes text in
    let j : (span : Option Span) → Joins (named_bytes text span) = λ span. joins-named text span h in
    joins-and (b d.cpu ++ b d.task ++ b d.kernel) (b d.function)
    (joins-and (b d.cpu ++ b d.task) (b d.kernel) (joins-and (b d.cpu) (b d.task) (j d.cpu) (j d.task)) (j d.kernel))
    (j d.function)

joins-some : (bytes : List ℕ) → AreBytes bytes → Joins (some_bytes bytes)
joins-some [] h more all = all
joins-some (b ∷ bs) h more all = onto (b ∷ bs) more (is-text (b ∷ bs) h) all

-- the stamp of a line is a part of its text
stamp-bytes : (text : List ℕ) (line : Line) → AreBytes text → AreBytes (uptime_of text line)
stamp-bytes text line h = by (nat_lt line.stamp line.caller)
  where
    from : ℕ
    from = line.stamp + 1

    inner : List ℕ
    inner = part text from (line.caller - 1)

    by : (t : Bool) → AreBytes (if t then trimmed inner else [])
    by true =
        AreBytes-drop (prefix_len is_ascii_whitespace inner) inner
        (AreBytes-take (line.caller - 1 - from) (drop from text) (AreBytes-drop from text h))
    by false = λ i. omega arith

joins-machine : (m : MachineTold) → AreMachineBytes m → Joins (machine_bytes m)
joins-machine m h =
    joins-and (some_bytes m.hardware ++ some_bytes m.modules ++ some_bytes m.version ++ some_bytes m.offset)
    (some_bytes m.cmdline)
    (joins-and (some_bytes m.hardware ++ some_bytes m.modules ++ some_bytes m.version) (some_bytes m.offset)
    (joins-and (some_bytes m.hardware ++ some_bytes m.modules) (some_bytes m.version)
    (joins-and (some_bytes m.hardware) (some_bytes m.modules) (joins-some m.hardware h.hardware)
    (joins-some m.modules h.modules)) (joins-some m.version h.version)) (joins-some m.offset h.offset))
    (joins-some m.cmdline h.cmdline)

joins-before : (before : Option DeathTold) → TellsBytes before → Joins (before_bytes before)
joins-before None h = joins-none
joins-before (Some t) h =
    let text : List ℕ = readable t.teller in
    let b : Option Span → List (List ℕ) = named_bytes text in
    let j : (span : Option Span) → Joins (named_bytes text span) = λ span. joins-named text span h in
    let l : List (List ℕ) = part text t.death.telling.text t.death.telling.end ∷ [] in
    joins-and (l ++ b t.death.cpu ++ b t.death.function) (b t.death.task)
    (joins-and (l ++ b t.death.cpu) (b t.death.function)
    (joins-and l (b t.death.cpu) (joins-with text t.death.telling.text t.death.telling.end [] h joins-none)
    (j t.death.cpu)) (j t.death.function)) (j t.death.task)

joins-excerpt : (text : List ℕ) (d : Death) → AreBytes text → Joins (excerpt_bytes text d)
joins-excerpt text d h =
    let rest : List (List ℕ) = rest_bytes text d.telling.next d.second in
    joins-with text (place_above text d.telling.start 8) d.telling.start
    (part text d.telling.start d.telling.next ∷ rest) h
    (joins-with text d.telling.start d.telling.next rest h (joins-rest text d.telling.next d.second h))

joins-part : (text : List ℕ) (from to : ℕ) → AreBytes text → Joins (some_bytes (part text from to))
joins-part text from to h =
    joins-some (part text from to) (AreBytes-take (to - from) (drop from text) (AreBytes-drop from text h))

joins-around : (text : List ℕ) (d : Death) → AreBytes text → Joins (around_bytes text d)
joins-around text d h =
    let from : ℕ = place_above text d.telling.start 8 in
    let to : ℕ = rest_end text d.telling.next d.second in
    joins-and (some_bytes (part text 0 from) ++ excerpt_bytes text d) (some_bytes (part text to (length text)))
    (joins-and (some_bytes (part text 0 from)) (excerpt_bytes text d) (joins-part text 0 from h) (joins-excerpt text d h))
    (joins-part text to (length text) h)

joins-death : (signature : List ℕ) (records : List RecordShown) (t : DeathTold) → AreDeathBytes signature records t
    → Joins (death_bytes signature records t)
joins-death signature records t h =
    let text : List ℕ = readable t.teller in
    let u : List (List ℕ) = some_bytes (uptime_of text t.death.telling) in
    let c : List (List ℕ) = context_bytes text t.death in
    let s : List (List ℕ) = some_bytes signature in
    let m : List (List ℕ) = machine_bytes (machine_of t (console_of records)) in
    let b : List (List ℕ) = before_bytes (told_before t.teller.name records) in
    joins-and (u ++ c ++ s ++ m ++ b) (around_bytes text t.death)
    (joins-and (u ++ c ++ s ++ m) b
    (joins-and (u ++ c ++ s) m
    (joins-and (u ++ c) s
    (joins-and u c (joins-some (uptime_of text t.death.telling) (stamp-bytes text t.death.telling h.text))
    (joins-context text t.death h.text)) (joins-some signature h.signed))
    (joins-machine (machine_of t (console_of records)) h.machine))
    (joins-before (told_before t.teller.name records) h.before)) (joins-around text t.death h.text)

joins-ending : (t : Option EndTold) → EndsBytes t → Joins (end_bytes t)
joins-ending None h = joins-none
joins-ending (Some t) h =
    let text : List ℕ = readable t.teller in
    let u : List (List ℕ) = some_bytes (uptime_of text t.ended.line) in
    let l : List (List ℕ) = part text t.ended.line.text t.ended.line.end ∷ [] in
    joins-and (u ++ l) (machine_bytes (machine_ended t))
    (joins-and u l (joins-some (uptime_of text t.ended.line) (stamp-bytes text t.ended.line h.text))
    (joins-with text t.ended.line.text t.ended.line.end [] h.text joins-none))
    (joins-machine (machine_ended t) h.machine)

joins-why : (signature : List ℕ) (records : List RecordShown) (t : Option DeathTold)
    → AllTellBytes signature records t → Joins (why_bytes t)
joins-why signature records None h = joins-none
joins-why signature records (Some t) h =
    let text : List ℕ = readable t.teller in
    joins-with text t.death.telling.text t.death.telling.end (second_bytes text t.death.second) h.text
    (joins-second text t.death.second h.text)

joins-died : (signature : List ℕ) (records : List RecordShown) (t : Option DeathTold)
    → AllTellBytes signature records t → Joins (died_bytes signature records t)
joins-died signature records None h = joins-ending (end_told records) h
joins-died signature records (Some t) h = joins-death signature records t h

joins-onto : (bytes : List ℕ) (all : List (List ℕ)) → AreBytes bytes → Joins all → Joins (bytes ∷ all)
joins-onto bytes all h f more rest = onto bytes (all ++ more) (is-text bytes h) (f more rest)

joins-name : (signature : List ℕ) (records : List RecordShown) (t : Option DeathTold)
    → AllTellBytes signature records t → Joins (name_bytes signature t)
joins-name signature records None h = joins-none
joins-name signature records (Some t) h = joins-onto signature [] h.signed joins-none

joins-whole : (text : List ℕ) → AreBytes text → Joins (text ∷ [])
joins-whole text h more all = onto text more (is-text text h) all

joins-below : (text : List ℕ) (span : Option Span) → AreBytes text → Joins (below_bytes text span)
joins-below text None h = joins-none
joins-below text (Some span) h = joins-with text span.start span.end [] h joins-none

joins-telling : (text : List ℕ) (d : Option Death) → AreBytes text → Joins (telling_bytes text d)
joins-telling text None h = joins-none
joins-telling text (Some d) h =
    joins-with text d.telling.text d.telling.end (below_bytes text d.function) h (joins-below text d.function h)

joins-above : (name : Name) (text : List ℕ) → AreBytes text → Joins (above_bytes name text)
joins-above (Dump index packed) text h = joins-telling text (death_of text) h
joins-above Console text h = joins-telling text (death_of text) h
joins-above Pmsg text h = joins-none
joins-above Ftrace text h = joins-none

joins-first : (text : List ℕ) (lines : List Line) → AreBytes text → Joins (first_bytes text lines)
joins-first text [] h = joins-none
joins-first text (line ∷ lines) h = joins-with text line.start line.end [] h joins-none

joins-head : (name : Name) (text : List ℕ) → AreBytes text → Joins (head_bytes name text)
joins-head (Dump index packed) text h = joins-first text (lines_from text 0) h
joins-head Console text h = joins-none
joins-head Pmsg text h = joins-none
joins-head Ftrace text h = joins-none

joins-content : (tells : Bool) (text : List ℕ) → AreBytes text → Joins (content_bytes tells text)
joins-content true text h = joins-none
joins-content false text h = joins-whole text h

joins-record : (teller : Option Name) (r : RecordShown) → AreBytes (readable r) → Joins (record_bytes teller r)
joins-record teller r h =
    let text : List ℕ = readable r in
    joins-and (above_bytes r.name text ++ head_bytes r.name text) (content_bytes (is_teller teller r.name) text)
    (joins-and (above_bytes r.name text) (head_bytes r.name text) (joins-above r.name text h) (joins-head r.name text h))
    (joins-content (is_teller teller r.name) text h)

texts-of : (teller : Option Name) (rs : List RecordShown) → HoldBytes rs
    → EscapeToTexts (flat_map (record_bytes teller) rs)
texts-of teller [] h = All-nil (λ (bytes : List ℕ). IsText (escaped bytes))
texts-of teller (r ∷ rs) h =
    joins-record teller r (h 0 r refl) (flat_map (record_bytes teller) rs) (texts-of teller rs (λ k q e. h (suc k) q e))

-- ---- telling lines are bytes

abbrev IsLine : Option (List ℕ) → Type 0
IsLine None = ⊤
IsLine (Some line) = AreBytes line

abbrev HaveLines : List CrashShown → Type 0
HaveLines [] = ⊤
HaveLines (c ∷ cs) = IsLine c.line × HaveLines cs

line-told : (text : List ℕ) (d : Option Death) → AreBytes text
    → IsLine (option_map (λ (death : Death). part text death.telling.text death.telling.end) d)
line-told text None h = tt
line-told text (Some d) h =
    AreBytes-take (d.telling.end - d.telling.text) (drop d.telling.text text) (AreBytes-drop d.telling.text text h)

lines-first : (r : RecordShown) (rs : List RecordShown) (t : Bool) → AreBytes (readable r)
    → HaveLines (map crash_of rs) → HaveLines (map crash_of (cond t (r ∷ rs) rs))
lines-first r rs true h more = (line-told (readable r) (death_of (readable r)) h, more)
lines-first r rs false h more = more

lines-told : (rs : List RecordShown) → HoldBytes rs → HaveLines (crashes_of rs)
lines-told [] h = tt
lines-told (r ∷ rs) h =
    lines-first r (filter is_dump rs) (is_dump r) (h 0 r refl) (lines-told rs (λ k q e. h (suc k) q e))

lines-on : (cs : List CrashShown) (c : CrashShown) → HaveLines cs → IsLine c.line → HaveLines (cs ++ c ∷ [])
lines-on [] c all h = (h, tt)
lines-on (d ∷ ds) c all h = (all.0, lines-on ds c all.1 h)

lines-kept : (cs : List CrashShown) (c : CrashShown) (t : Bool) → HaveLines cs → IsLine c.line
    → HaveLines (cond t cs (cs ++ c ∷ []))
lines-kept cs c true all h = all
lines-kept cs c false all h = lines-on cs c all h

lines-firsts : (cs firsts : List CrashShown) → HaveLines firsts → HaveLines cs
    → HaveLines (fold with_first firsts cs)
lines-firsts [] firsts all h = all
lines-firsts (c ∷ cs) firsts all h =
    lines-firsts cs (with_first firsts c) (lines-kept firsts c (list_any (has_line_of c) firsts) all h.0) h.1

lines-take : (n : ℕ) (cs : List CrashShown) → HaveLines cs → HaveLines (take n cs)
lines-take zero cs all = tt
lines-take (suc n) [] all = tt
lines-take (suc n) (c ∷ cs) all = (all.0, lines-take n cs all.1)

joins-line : (line : Option (List ℕ)) → IsLine line → Joins (line_bytes line)
joins-line None h = joins-none
joins-line (Some line) h = joins-whole line h

joins-lines : (cs : List CrashShown) → HaveLines cs → Joins (flat_map (λ (c : CrashShown). line_bytes c.line) cs)
joins-lines [] all = joins-none
joins-lines (c ∷ cs) all =
    joins-and (line_bytes c.line) (flat_map (λ (d : CrashShown). line_bytes d.line) cs) (joins-line c.line all.0)
    (joins-lines cs all.1)

joins-causes : (records : List RecordShown) → HoldBytes records → Joins (causes_bytes records)
joins-causes records h = by (nat_lt 1 (length (crashes_of records)))
  where
    rows : List CrashShown
    rows = rows_of (crashes_of records)

    by : (t : Bool) → Joins (cond t (flat_map (λ (c : CrashShown). line_bytes c.line) rows) [])
    by true =
        joins-lines rows
        (lines-take 15 (firsts_of (crashes_of records)) (lines-firsts (crashes_of records) [] tt (lines-told records h)))
    by false = joins-none

pub without_markup : (title : List ℕ) (p : Division) (zones : List Zone) (report : ReportHeld) (better page : List ℕ)
    → AreBytes title → AreBytes better → HoldBytes report.records
    → AllTellBytes (signature_told (death_told report.records)) report.records (death_told report.records)
    → page ≡ parts_text report.origin (page_parts title p zones report better)
    → IsWithoutMarkup title better report.records page
without_markup title p zones report better page bytes words hold tells is =
    let told : Option DeathTold = death_told report.records in
    let signature : List ℕ = signature_told told in
    let n : List (List ℕ) = title ∷ name_bytes signature told in
    let w : List (List ℕ) = title ∷ why_bytes told in
    let d : List (List ℕ) = died_bytes signature report.records told in
    let l : List (List ℕ) = causes_bytes report.records in
    let b : List (List ℕ) = some_bytes better in
    let foreign = of-page title p zones report better signature told in
    record {
      origin = report.origin;
      parts = page_parts title p zones report better;
      page_is = is;
      foreign = foreign;
      texts = subst EscapeToTexts (sym foreign)
          (joins-and (n ++ w ++ b ++ d) l
          (joins-and (n ++ w ++ b) d
          (joins-and (n ++ w) b
          (joins-and n w
          (joins-onto title (name_bytes signature told) bytes (joins-name signature report.records told tells))
          (joins-onto title (why_bytes told) bytes (joins-why signature report.records told tells)))
          (joins-some better words))
          (joins-died signature report.records told tells)) (joins-causes report.records hold)
          (flat_map (record_bytes (teller_name told)) (newest_first report.records))
          (texts-of (teller_name told) (newest_first report.records) (held-in-order report.records hold)));
    }

-- ---- what people read of records are bytes

-- one record more
pub held_next : (rs : List RecordShown) (i : ℕ) (held : RecordShown) → held ≡ get_or rs i held
    → ((k : ℕ) (r : RecordShown) → k < i → slice_get rs k ≡ Some r → AreBytes (readable r)) → AreBytes (readable held)
    → (k : ℕ) (r : RecordShown) → k < i + 1 → slice_get rs k ≡ Some r → AreBytes (readable r)
held_next rs i held is before bytes k r below at = elim (cases_order k i) [
  | inl same ↦
      let r_is : get_or rs i held ≡ r =
      get_or_from_slice_get rs i r held (subst (λ (n : ℕ). slice_get rs n ≡ Some r) same at) in
      subst (λ (q : RecordShown). AreBytes (readable q)) (is ∙ r_is) bytes
  | inr (inl low) ↦ before k r low at
  | inr (inr high) ↦ absurd (omega (arith, below, high))
]

pub held_all : (rs : List RecordShown) (i : ℕ) → length rs ≤ i
    → ((k : ℕ) (r : RecordShown) → k < i → slice_get rs k ≡ Some r → AreBytes (readable r)) → HoldBytes rs
held_all rs i past before k r at =
    let below : k < length rs = slice_get_within rs k r at in before k r (omega (arith, below, past)) at
