-- A part's spans hold the log of its zone, and so the parts make the records that are listed. For `parts_are_records`.
use Rattle.std.proofs.Common.{◌≡◌, ℕ, ◌+◌, ◌-◌, ◌<◌, ◌≤◌, ◌⊎◌, inl, inr, refl, sym, ap, ◌∙◌, arith, Bool, true, false}
use Rattle.std.proofs.Common.{List, [], ◌∷◌, ◌++◌, take, drop, map, append-nil, drop-drop, take-take}
use Rattle.std.specs.Prelude.{Some, None, slice_range, filter, flat_map, cond, nat_lt, ◌==◌, not, ◌&&◌, ◌||◌}
use Rattle.std.specs.Prelude.{if◌then◌else◌}
use Rattle.std.proofs.lemmas.List.{drop-take, map-append}
use Rattle.std.proofs.lemmas.Bool.{cases_lt}
use Rattle.std.proofs.lemmas.Bool.Decides.{nat_tests}
use Rattle.psz_spec.specs.declared.Kind.{Kind}
use Rattle.psz_spec.specs.declared.Kind.TheVariants.{Pmsg, Console, Ftrace, Dump}
use Rattle.psz_spec.specs.declared.Zone.{Zone}
use Rattle.psz_spec.specs.declared.Words.{Words}
use Rattle.psz_spec.specs.declared.Machine.{Machine}
use Rattle.psz_spec.specs.declared.Machine.TheVariants.{Aligned, X86, BigEndian}
use Rattle.psz_spec.specs.declared.Part.{Part}
use Rattle.psz_spec.specs.declared.State.{State}
use Rattle.psz_spec.specs.declared.State.TheVariants.{Unsigned, Overtop, NoDump, Erased, Broken, Found}
use Rattle.psz_spec.specs.declared.Name.{Name}
use Rattle.psz_spec.specs.declared.Name.TheVariants.{Pmsg as PmsgName, Console as ConsoleName}
use Rattle.psz_spec.specs.Headers.{words_of, sig_of, cap_of, dump_magic, header_len, dump_header}
use Rattle.psz_spec.specs.States.{zone_bytes, data_of, ring_state, dump_state, signed_state, state_of, log_of, body_of}
use Rattle.psz_spec.specs.Records.{Listed, made_by, is_of, is_found, gives, records_of, traces_of, listed_in}
use Rattle.psz_spec.specs.Records.{ftrace_listed}
use Rattle.psz_spec.specs.Records.{plain_listed, dump_content}
use Rattle.psz_spec.specs.Parts.{ring_log, dump_log, part_with, part_if, part_of, as_list, of_kind, parts_of}
use Rattle.psz_spec.specs.Parts.{span_bytes}
use Rattle.psz_spec.specs.Parts.{log_bytes, name_by, part_content, part_record, records_from}

-- ---- ranges

range_within : (xs : List ℕ) (at size i j : ℕ) → j ≤ size
    → slice_range (slice_range xs at (at + size)) i j ≡ slice_range xs (at + i) (at + j)
range_within xs at size i j h = by (cases_lt size i)
  where
    last : take (j - i) (drop (at + i) xs) ≡ slice_range xs (at + i) (at + j)
    last = ap (λ (n : ℕ). take n (drop (at + i) xs)) (let e : j - i ≡ at + j - (at + i) = omega arith in e)

    first : slice_range (slice_range xs at (at + size)) i j ≡ take (j - i) (drop i (take size (drop at xs)))
    first = ap (λ (n : ℕ). take (j - i) (drop i (take n (drop at xs))))
        (let e : at + size - at ≡ size = omega arith in e)

    by : (size < i) ⊎ (i ≤ size) → slice_range (slice_range xs at (at + size)) i j ≡ slice_range xs (at + i) (at + j)
    by (inl past) = first
        ∙ ap (λ (n : ℕ). take n (drop i (take size (drop at xs)))) (let e : j - i ≡ 0 = omega (arith, h, past) in e)
        ∙ ap (λ (n : ℕ). take n (drop (at + i) xs)) (let e : 0 ≡ j - i = omega (arith, h, past) in e) ∙ last
    by (inr inside) = first
        ∙ ap (λ (n : ℕ). take (j - i) (drop i (take n (drop at xs))))
        (let e : size ≡ i + (size - i) = omega (arith, inside) in e)
        ∙ ap (take (j - i)) (drop-take i (size - i) (drop at xs))
        ∙ take-take (j - i) (size - i) (drop i (drop at xs)) (omega (arith, h))
        ∙ ap (take (j - i)) (drop-drop i at xs) ∙ last

-- what stands in a zone's data from one place to another, by the storage
data_range : (z : Zone) (image : List ℕ) (i j : ℕ) → i ≤ j → 12 + j ≤ z.size
    → span_bytes image (record { at = z.at + (12 + i); len = j - i }) ≡ slice_range (zone_bytes z image) (12 + i)
    (12 + j)
data_range z image i j le h =
    ap (λ (n : ℕ). slice_range image (z.at + (12 + i)) n)
    (let e : z.at + (12 + i) + (j - i) ≡ z.at + (12 + j) = omega (arith, le) in e)
    ∙ sym (range_within image z.at z.size (12 + i) (12 + j) h)

front_range : (z : Zone) (image : List ℕ) (n : ℕ) → 12 + n ≤ z.size
    → span_bytes image (record { at = z.at + 12; len = n }) ≡ take n (drop 12 (zone_bytes z image))
front_range z image n h =
    ap (λ (m : ℕ). slice_range image (z.at + 12) m) (let e : z.at + 12 + n ≡ z.at + (12 + n) = omega arith in e)
    ∙ sym (range_within image z.at z.size 12 (12 + n) h)
    ∙ ap (λ (m : ℕ). take m (drop 12 (zone_bytes z image))) (let e : 12 + n - 12 ≡ n = omega arith in e)

no_range : (image : List ℕ) (at : ℕ) → span_bytes image (record { at = at; len = 0 }) ≡ []
no_range image at = ap (λ (m : ℕ). take m (drop at image)) (let e : at + 0 - at ≡ 0 = omega arith in e)

-- ---- what a zone that was found keeps

record Inside (z : Zone) (least len : ℕ) : Type 0 where
  ordered : least ≤ len
  room : 12 + len ≤ z.size

ring_chain : (a b c : Bool) → (if a then Overtop else (if b then Erased else (if c then Broken else Found))) ≡ Found
    → (a ≡ false) × (b ≡ false) × (c ≡ false)
ring_chain true b c h = cc
ring_chain false true c h = cc
ring_chain false false true h = cc
ring_chain false false false h = (refl, refl, refl)

ring_tests : (size len start : ℕ) → (nat_lt (size - 12) len || nat_lt (size - 12) start) ≡ false → (len == 0) ≡ false
    → nat_lt len start ≡ false → (start ≤ len) × (12 + len ≤ size)
ring_tests size len start a b c =
    let p : len ≤ size - 12 = grind (arith, nat_tests) in
    let q : 0 < len = grind (arith, nat_tests) in
    let r : start ≤ len = grind (arith, nat_tests) in
    (r, omega (arith, p, q))

ring_inside : (z : Zone) (words : Words) → ring_state z words ≡ Found → Inside z words.start words.len
ring_inside z words h =
    let t : ((nat_lt (cap_of z) words.len || nat_lt (cap_of z) words.start) ≡ false) × ((words.len == 0) ≡ false)
    × (nat_lt words.len words.start ≡ false) =
    ring_chain (nat_lt (cap_of z) words.len || nat_lt (cap_of z) words.start) (words.len == 0)
    (nat_lt words.len words.start) h in
    let p : (words.start ≤ words.len) × (12 + words.len ≤ z.size) =
    ring_tests z.size words.len words.start t.0 t.1 t.2 in
    record { ordered = p.0; room = p.1 }

dump_chain : (a b c d : Bool)
    → (if a then Overtop else (if b then NoDump else (if c then Erased else (if d then Broken else Found)))) ≡ Found
    → (a ≡ false) × (d ≡ false)
dump_chain true b c d h = cc
dump_chain false true c d h = cc
dump_chain false false true d h = cc
dump_chain false false false true h = cc
dump_chain false false false false h = (refl, refl)

dump_tests : (size len least : ℕ) → 0 < least → nat_lt (size - 12) len ≡ false → nat_lt len least ≡ false
    → (least ≤ len) × (12 + len ≤ size)
dump_tests size len least some a b =
    let p : len ≤ size - 12 = grind (arith, nat_tests) in
    let q : least ≤ len = grind (arith, nat_tests) in
    (q, omega (arith, p, q, some))

some_header : (machine : Machine) → 0 < header_len machine
some_header Aligned = omega arith
some_header X86 = omega arith
some_header BigEndian = omega arith

dump_inside : (machine : Machine) (z : Zone) (words : Words) (kept : List ℕ)
    → dump_state machine z words kept ≡ Found → Inside z (header_len machine) words.len
dump_inside machine z words kept h =
    let t : (nat_lt (cap_of z) words.len ≡ false) × (nat_lt words.len (header_len machine) ≡ false) =
    dump_chain (nat_lt (cap_of z) words.len) (not ((dump_header machine kept).magic == dump_magic)) (words.len == 0)
    (nat_lt words.len (header_len machine)) h in
    let p : (header_len machine ≤ words.len) × (12 + words.len ≤ z.size) =
    dump_tests z.size words.len (header_len machine) (some_header machine) t.0 t.1 in
    record { ordered = p.0; room = p.1 }

signed_chain : (a : Bool) (s : State) → (if a then Unsigned else s) ≡ Found → s ≡ Found
signed_chain true s h = cc
signed_chain false s h = h

signed_found : (machine : Machine) (z : Zone) (bytes : List ℕ) → state_of machine z bytes ≡ Found
    → signed_state machine z z.kind bytes ≡ Found
unfolding state_of
signed_found machine z bytes h =
    signed_chain (not ((words_of machine bytes).sig == sig_of z.kind)) (signed_state machine z z.kind bytes) h

-- ---- logs

ring_bytes : (machine : Machine) (z : Zone) (image : List ℕ) (words : Words)
    → words ≡ words_of machine (zone_bytes z image)
    → ring_state z words ≡ Found → log_bytes image (ring_log z words) ≡ log_of machine (zone_bytes z image)
ring_bytes machine z image words e h =
    let i : Inside z words.start words.len = ring_inside z words h in
    let bytes : List ℕ = zone_bytes z image in
    let a : span_bytes image (record { at = z.at + (12 + words.start); len = words.len - words.start })
    ≡ slice_range bytes (12 + words.start) (12 + words.len) =
    data_range z image words.start words.len i.ordered i.room in
    let b : slice_range bytes (12 + words.start) (12 + words.len) ≡ slice_range (drop 12 bytes) words.start words.len =
    ap (λ (n : ℕ). take n (drop (12 + words.start) bytes))
    (let f : 12 + words.len - (12 + words.start) ≡ words.len - words.start = omega arith in f)
    ∙ ap (take (words.len - words.start)) (sym (drop-drop words.start 12 bytes)) in
    let c : span_bytes image (record { at = z.at + 12; len = words.start }) ≡ take words.start (drop 12 bytes) =
    front_range z image words.start (omega (arith, i.ordered, i.room)) in
    ap (λ (xs : List ℕ). xs ++ span_bytes image (record { at = z.at + 12; len = words.start })) (a ∙ b)
    ∙ ap (λ (xs : List ℕ). slice_range (drop 12 bytes) words.start words.len ++ xs) c
    ∙ ap (λ (w : Words). slice_range (drop 12 bytes) w.start w.len ++ take w.start (drop 12 bytes)) e

dump_bytes : (machine : Machine) (z : Zone) (image : List ℕ) (words : Words) (kept : List ℕ)
    → words ≡ words_of machine (zone_bytes z image) → dump_state machine z words kept ≡ Found
    → log_bytes image (dump_log machine z words) ≡ body_of machine (zone_bytes z image)
dump_bytes machine z image words kept e h =
    let i : Inside z (header_len machine) words.len = dump_inside machine z words kept h in
    let log : List ℕ = slice_range (zone_bytes z image) (12 + header_len machine) (12 + words.len) in
    ap (λ (xs : List ℕ). xs ++ span_bytes image (record { at = z.at + 12; len = 0 }))
    (data_range z image (header_len machine) words.len i.ordered i.room)
    ∙ ap (λ (xs : List ℕ). log ++ xs) (no_range image (z.at + 12)) ∙ append-nil log
    ∙ ap (λ (w : Words). slice_range (zone_bytes z image) (12 + header_len machine) (12 + w.len)) e

-- ---- one zone

abbrev named : Name → List ℕ → Listed
named name log = plain_listed name log

dump_case : (machine : Machine) (image : List ℕ) (z : Zone) (kind : Kind) (state : State) → z.kind ≡ kind
    → (state ≡ Found → signed_state machine z kind (zone_bytes z image) ≡ Found)
    → (if is_of Dump kind && is_found state then made_by machine z Dump (zone_bytes z image) else [])
    ≡ cond (is_of Dump kind)
    (map (part_record image) (as_list (part_if state (part_with machine z kind (zone_bytes z image))))) []
dump_case machine image z Pmsg state e s = refl
dump_case machine image z Console state e s = refl
dump_case machine image z Ftrace state e s = refl
dump_case machine image z Dump Unsigned e s = refl
dump_case machine image z Dump Overtop e s = refl
dump_case machine image z Dump NoDump e s = refl
dump_case machine image z Dump Erased e s = refl
dump_case machine image z Dump Broken e s = refl
dump_case machine image z Dump Found e s =
    let bytes : List ℕ = zone_bytes z image in
    ap (λ (log : List ℕ). record {
      name = name_by Dump z.index (Some (dump_header machine (data_of bytes)));
      logs = dump_content (dump_header machine (data_of bytes)) log ∷ [];
      header = Some (dump_header machine (data_of bytes));
    } ∷ []) (sym (dump_bytes machine z image (words_of machine bytes) (data_of bytes) refl (s refl)))
    ∙ ap (λ (k : Kind). record {
      name = name_by k z.index (Some (dump_header machine (data_of bytes)));
      logs = dump_content (dump_header machine (data_of bytes)) (log_bytes image (dump_log machine z (words_of machine
          bytes))) ∷ [];
      header = Some (dump_header machine (data_of bytes));
    } ∷ []) (sym e)

pmsg_case : (machine : Machine) (image : List ℕ) (z : Zone) (kind : Kind) (state : State) → z.kind ≡ kind
    → (state ≡ Found → signed_state machine z kind (zone_bytes z image) ≡ Found)
    → (if is_of Pmsg kind && is_found state then made_by machine z Pmsg (zone_bytes z image) else [])
    ≡ cond (is_of Pmsg kind)
    (map (part_record image) (as_list (part_if state (part_with machine z kind (zone_bytes z image))))) []
pmsg_case machine image z Dump state e s = refl
pmsg_case machine image z Console state e s = refl
pmsg_case machine image z Ftrace state e s = refl
pmsg_case machine image z Pmsg Unsigned e s = refl
pmsg_case machine image z Pmsg Overtop e s = refl
pmsg_case machine image z Pmsg NoDump e s = refl
pmsg_case machine image z Pmsg Erased e s = refl
pmsg_case machine image z Pmsg Broken e s = refl
pmsg_case machine image z Pmsg Found e s =
    ap (λ (log : List ℕ). named PmsgName log ∷ [])
    (sym (ring_bytes machine z image (words_of machine (zone_bytes z image)) refl (s refl)))
    ∙ ap (λ (k : Kind). named (name_by k z.index None) (log_bytes image (ring_log z (words_of machine (zone_bytes
    z image)))) ∷ [])
    (sym e)

console_case : (machine : Machine) (image : List ℕ) (z : Zone) (kind : Kind) (state : State) → z.kind ≡ kind
    → (state ≡ Found → signed_state machine z kind (zone_bytes z image) ≡ Found)
    → (if is_of Console kind && is_found state then made_by machine z Console (zone_bytes z image) else [])
    ≡ cond (is_of Console kind)
    (map (part_record image) (as_list (part_if state (part_with machine z kind (zone_bytes z image))))) []
console_case machine image z Dump state e s = refl
console_case machine image z Pmsg state e s = refl
console_case machine image z Ftrace state e s = refl
console_case machine image z Console Unsigned e s = refl
console_case machine image z Console Overtop e s = refl
console_case machine image z Console NoDump e s = refl
console_case machine image z Console Erased e s = refl
console_case machine image z Console Broken e s = refl
console_case machine image z Console Found e s =
    ap (λ (log : List ℕ). named ConsoleName log ∷ [])
    (sym (ring_bytes machine z image (words_of machine (zone_bytes z image)) refl (s refl)))
    ∙ ap (λ (k : Kind). named (name_by k z.index None) (log_bytes image (ring_log z (words_of machine (zone_bytes
    z image)))) ∷ [])
    (sym e)

trace_case : (machine : Machine) (image : List ℕ) (z : Zone) (kind : Kind) (state : State)
    → (state ≡ Found → signed_state machine z kind (zone_bytes z image) ≡ Found)
    → (if is_of Ftrace kind && is_found state then log_of machine (zone_bytes z image) ∷ [] else [])
    ≡ cond (is_of Ftrace kind)
    (map (part_content image) (as_list (part_if state (part_with machine z kind (zone_bytes z image))))) []
trace_case machine image z Dump state s = refl
trace_case machine image z Pmsg state s = refl
trace_case machine image z Console state s = refl
trace_case machine image z Ftrace Unsigned s = refl
trace_case machine image z Ftrace Overtop s = refl
trace_case machine image z Ftrace NoDump s = refl
trace_case machine image z Ftrace Erased s = refl
trace_case machine image z Ftrace Broken s = refl
trace_case machine image z Ftrace Found s =
    ap (λ (log : List ℕ). log ∷ [])
    (sym (ring_bytes machine z image (words_of machine (zone_bytes z image)) refl (s refl)))

-- ---- all zones

joint : {A : Type 0} (t : Bool) (f : Zone → List Part) (g : Part → A) (z : Zone) (rest : List Zone)
    → cond t (map g (f z)) [] ++ map g (flat_map f rest) ≡ map g (flat_map f (cond t (z ∷ rest) rest))
joint true f g z rest = sym (map-append g (f z) (flat_map f rest))
joint false f g z rest = refl

by_zone : {A : Type 0} (p : Zone → Bool) (f : Zone → List Part) (g : Part → A) (h : Zone → List A)
    → ((z : Zone) → h z ≡ cond (p z) (map g (f z)) [])
    → (zones : List Zone) → flat_map h zones ≡ map g (flat_map f (filter p zones))
by_zone p f g h each [] = refl
by_zone p f g h each (z ∷ zones) =
    ap (λ (xs : List _). xs ++ flat_map h zones) (each z)
    ∙ ap (λ (xs : List _). cond (p z) (map g (f z)) [] ++ xs) (by_zone p f g h each zones)
    ∙ joint (p z) f g z (filter p zones)

pub dumps_are : (machine : Machine) (zones : List Zone) (image : List ℕ)
    → records_of machine image Dump zones ≡ map (part_record image) (parts_of machine (of_kind Dump zones) image)
unfolding parts_of part_of
dumps_are machine zones image = by_zone (λ (z : Zone). is_of Dump z.kind)
    (λ (z : Zone). as_list (part_of machine z (zone_bytes z image))) (part_record image)
    (λ (z : Zone). if gives machine image Dump z then made_by machine z Dump (zone_bytes z image) else [])
    (λ z. dump_case machine image z z.kind (state_of machine z (zone_bytes z image)) refl
    (signed_found machine z (zone_bytes z image))) zones

pub pmsg_are : (machine : Machine) (zones : List Zone) (image : List ℕ)
    → records_of machine image Pmsg zones ≡ map (part_record image) (parts_of machine (of_kind Pmsg zones) image)
unfolding parts_of part_of
pmsg_are machine zones image = by_zone (λ (z : Zone). is_of Pmsg z.kind)
    (λ (z : Zone). as_list (part_of machine z (zone_bytes z image))) (part_record image)
    (λ (z : Zone). if gives machine image Pmsg z then made_by machine z Pmsg (zone_bytes z image) else [])
    (λ z. pmsg_case machine image z z.kind (state_of machine z (zone_bytes z image)) refl
    (signed_found machine z (zone_bytes z image))) zones

pub consoles_are : (machine : Machine) (zones : List Zone) (image : List ℕ)
    → records_of machine image Console zones
    ≡ map (part_record image) (parts_of machine (of_kind Console zones) image)
unfolding parts_of part_of
consoles_are machine zones image = by_zone (λ (z : Zone). is_of Console z.kind)
    (λ (z : Zone). as_list (part_of machine z (zone_bytes z image))) (part_record image)
    (λ (z : Zone). if gives machine image Console z then made_by machine z Console (zone_bytes z image) else [])
    (λ z. console_case machine image z z.kind (state_of machine z (zone_bytes z image)) refl
    (signed_found machine z (zone_bytes z image))) zones

pub traces_are : (machine : Machine) (zones : List Zone) (image : List ℕ)
    → traces_of machine image zones ≡ map (part_content image) (parts_of machine (of_kind Ftrace zones) image)
unfolding parts_of part_of
traces_are machine zones image = by_zone (λ (z : Zone). is_of Ftrace z.kind)
    (λ (z : Zone). as_list (part_of machine z (zone_bytes z image))) (part_content image)
    (λ (z : Zone). if gives machine image Ftrace z then log_of machine (zone_bytes z image) ∷ [] else [])
    (λ z. trace_case machine image z z.kind (state_of machine z (zone_bytes z image))
    (signed_found machine z (zone_bytes z image))) zones

pub together : (a b c : List Listed) (t : List (List ℕ)) (d e f : List Listed) (u : List (List ℕ)) → a ≡ d → t ≡ u
    → b ≡ e → c ≡ f → a ++ ftrace_listed t ++ b ++ c ≡ d ++ ftrace_listed u ++ e ++ f
together a b c t d e f u p q r s = rw (p, q, r, s) refl

pub parts_are : (machine : Machine) (zones : List Zone) (image : List ℕ)
    → listed_in machine zones image
    ≡ records_from image (parts_of machine (of_kind Dump zones) image)
    (parts_of machine (of_kind Ftrace zones) image) (parts_of machine (of_kind Pmsg zones) image)
    (parts_of machine (of_kind Console zones) image)
unfolding listed_in
parts_are machine zones image =
    together (records_of machine image Dump zones) (records_of machine image Pmsg zones)
    (records_of machine image Console zones) (traces_of machine image zones)
    (map (part_record image) (parts_of machine (of_kind Dump zones) image))
    (map (part_record image) (parts_of machine (of_kind Pmsg zones) image))
    (map (part_record image) (parts_of machine (of_kind Console zones) image))
    (map (part_content image) (parts_of machine (of_kind Ftrace zones) image))
    (dumps_are machine zones image) (traces_are machine zones image) (pmsg_are machine zones image)
    (consoles_are machine zones image)
