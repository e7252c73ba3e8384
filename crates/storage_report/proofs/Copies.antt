-- A copy of an image that was filled where its report needs it. For `fill`, `fill_log`, `fill_zone`, `fill_zones` and
-- `copy_of`.
use Rattle.std.proofs.Common.{◌≡◌, ◌∙◌, ◌⊎◌, inl, inr, ℕ, ◌+◌, ◌-◌, ◌<◌, ◌≤◌, sym, ap, ap₂, subst}
use Rattle.std.proofs.Common.{arith}
use Rattle.std.proofs.Common.{List, [], ◌∷◌, ◌++◌, length, take, drop, get_or, min}
use Rattle.std.specs.Prelude.{Option, Some, None, IfSome, slice_index}
use Rattle.std.specs.List.{AllByRecursion}
use Rattle.std.proofs.lemmas.List.{ext_get_or, get_or-take, get_or-drop, get_or_past, get_or_append_left}
use Rattle.std.proofs.lemmas.List.{get_or-append_right, length-take, length-drop, length-take-le, take-take, take_all}
use Rattle.std.proofs.lemmas.List.{take_more}
use Rattle.std.proofs.lemmas.Bool.{cases_lt}
use borrow.Rule.Slice.PartMut.{put_mid}
use Rattle.psz_spec.specs.declared.Machine.{Machine}
use Rattle.psz_spec.specs.declared.Zone.{Zone}
use Rattle.psz_spec.specs.declared.Span.{Span}
use Rattle.psz_spec.specs.declared.Part.{Part}
use Rattle.psz_spec.specs.States.{zone_bytes}
use Rattle.psz_spec.specs.Parts.{part_of, log_bytes, span_bytes}
use Rattle.psz_read.specs.Laws.{ReadsTheSame}
use Rattle.psz_read.proofs.Fronts.{front_same, part_same}
use Rattle.storage_report.specs.Copies.{HasRange, Keeps, HasSpan, IsFilled, front_of, HasLog, IsLogFilled, HasZone}
use Rattle.storage_report.specs.Copies.{HasZones}
use Rattle.psz_spec.specs.Layouts.{zones_of}
use Rattle.storage_spec.specs.declared.Storage.{Storage}
use Rattle.storage_zones.specs.Laws.{ReadTheSame}

-- ---- one read

pub none_filled : (image copy : List ℕ) (span : Span) → length image ≡ length copy
    → (length copy ≤ span.at) ⊎ (span.len ≡ 0) → IsFilled image span copy copy
none_filled image copy span len (inl past) = record {
  keeps = λ i h. h;
  has = λ i from to.
      get_or_past copy i 0 (omega (arith, past, from)) ∙ sym (get_or_past image i 0 (omega (arith, len, past, from)));
}
none_filled image copy span len (inr none) = record {
  keeps = λ i h. h;
  has = λ i from to. absurd (omega (arith, none, from, to));
}

before : (a k i : ℕ) (xs ys : List ℕ) → a + k ≤ length xs → i < a
    → slice_index (put_mid a k xs ys) i ≡ slice_index xs i
before a k i xs ys fits h =
    get_or_append_left (take a xs) (ys ++ drop k (drop a xs)) 0 i
    (let e : length (take a xs) ≡ a = length-take-le a xs (omega (arith, fits)) in omega (arith, e, h))
    ∙ get_or-take a xs i 0 h

within : (a k i : ℕ) (xs ys : List ℕ) → a + k ≤ length xs → length ys ≡ k → a ≤ i → i < a + k
    → slice_index (put_mid a k xs ys) i ≡ slice_index ys (i - a)
within a k i xs ys fits len from to =
    get_or-append_right (take a xs) (ys ++ drop k (drop a xs)) a i 0 (length-take-le a xs (omega (arith, fits))) from
    ∙ get_or_append_left ys (drop k (drop a xs)) 0 (i - a) (omega (arith, len, from, to))

after : (a k i : ℕ) (xs ys : List ℕ) → a + k ≤ length xs → length ys ≡ k → a + k ≤ i
    → slice_index (put_mid a k xs ys) i ≡ slice_index xs i
after a k i xs ys fits len past =
    get_or-append_right (take a xs) (ys ++ drop k (drop a xs)) a i 0 (length-take-le a xs (omega (arith, fits)))
    (omega (arith, past))
    ∙ get_or-append_right ys (drop k (drop a xs)) k (i - a) 0 len (omega (arith, past))
    ∙ get_or-drop k (drop a xs) (i - a - k) 0 ∙ get_or-drop a xs (k + (i - a - k)) 0
    ∙ ap (λ (n : ℕ). slice_index xs n) (let e : a + (k + (i - a - k)) ≡ i = omega (arith, past) in e)

-- the bytes that were read, at a place within them
read_at : (a k i : ℕ) (image ys : List ℕ) → ys ≡ take k (drop a image) → a ≤ i → i < a + k
    → slice_index ys (i - a) ≡ slice_index image i
read_at a k i image ys e from to =
    ap (λ (xs : List ℕ). slice_index xs (i - a)) e
    ∙ get_or-take k (drop a image) (i - a) 0 (omega (arith, from, to)) ∙ get_or-drop a image (i - a) 0
    ∙ ap (λ (n : ℕ). slice_index image n) (let e : a + (i - a) ≡ i = omega (arith, from) in e)

-- a place of the front of an image
in_front : (n i : ℕ) (image : List ℕ) → i < n → slice_index image i ≡ slice_index (take n image) i
in_front n i image h = sym (get_or-take n image i 0 h)

module _ (a k : ℕ) (image copy ys : List ℕ) (inside : a + k ≤ length copy) (len : length ys ≡ k)
    (there : (i : ℕ) → a ≤ i → i < a + k → slice_index (put_mid a k copy ys) i ≡ slice_index image i) where
  keeps_past : (i : ℕ) → a ≤ i → (i < a + k) ⊎ (a + k ≤ i) → slice_index copy i ≡ slice_index image i
      → slice_index (put_mid a k copy ys) i ≡ slice_index image i
  keeps_past i from (inl to) h = there i from to
  keeps_past i from (inr past) h = after a k i copy ys inside len past ∙ h

  keeps_at : (i : ℕ) → (i < a) ⊎ (a ≤ i) → slice_index copy i ≡ slice_index image i
      → slice_index (put_mid a k copy ys) i ≡ slice_index image i
  keeps_at i (inl less) h = before a k i copy ys inside less ∙ h
  keeps_at i (inr from) h = keeps_past i from (cases_lt i (a + k)) h

  reach_at : (i n : ℕ) → length image ≡ length copy → (k ≡ n) ⊎ (a + k ≡ length copy) → a ≤ i → i < a + n
      → (i < a + k) ⊎ (a + k ≤ i) → slice_index (put_mid a k copy ys) i ≡ slice_index image i
  reach_at i n same most from to (inl near) = there i from near
  reach_at i n same (inl all) from to (inr past) = absurd (omega (arith, all, to, past))
  reach_at i n same (inr end) from to (inr past) =
      after a k i copy ys inside len past ∙ get_or_past copy i 0 (omega (arith, end, past))
      ∙ sym (get_or_past image i 0 (omega (arith, same, end, past)))

most_at : (k n len at : ℕ) → k ≡ min n (len - at) → at < len → (n < len - at) ⊎ (len - at ≤ n)
    → (k ≡ n) ⊎ (at + k ≡ len)
most_at k n len at least start (inl less) = inl (omega (arith, least, less))
most_at k n len at least start (inr more) = inr (omega (arith, least, start, more))

pub piece_filled : (image copy ys : List ℕ) (span : Span) (k : ℕ) → length copy ≤ length image → length ys ≡ k
    → span.at + k ≤ length copy → (k ≡ span.len) ⊎ (span.at + k ≡ length copy) → ys ≡ take k (drop span.at image)
    → IsFilled (take (length copy) image) span copy (put_mid span.at k copy ys)
piece_filled image copy ys span k fits len inside most e =
    let a = span.at in
    let n = length copy in
    let front : List ℕ = take n image in
    let there : (i : ℕ) → a ≤ i → i < a + k → slice_index (put_mid a k copy ys) i ≡ slice_index front i =
    λ i from to. within a k i copy ys inside len from to ∙ read_at a k i image ys e from to
    ∙ in_front n i image (omega (arith, inside, to)) in
    record {
      keeps = λ i h. keeps_at a k front copy ys inside len there i (cases_lt i a) h;
      has = λ i from to. reach_at a k front copy ys inside len there i span.len (length-take-le n image fits) most
          from to
          (cases_lt i (a + k));
    }

-- what `read_at` reads into a part of the copy
pub filled_at : (holds : Option (List ℕ)) (copy into : List ℕ) (span : Span) (k n : ℕ)
    → k ≡ min span.len (length copy - span.at) → span.at < length copy → n ≡ k → length into ≡ k
    → IfSome holds (λ image. length copy ≤ length image) → IfSome holds (λ image. into ≡ take n (drop span.at image))
    → IfSome holds (λ image. IsFilled (take (length copy) image) span copy (put_mid span.at k copy into))
filled_at None copy into span k n least start same len fits read = tt
filled_at (Some image) copy into span k n least start same len fits read =
    piece_filled image copy into span k fits len (omega (arith, least, start)) (most_at k span.len (length copy) span.at
    least start (cases_lt span.len (length copy - span.at)))
    (read ∙ ap (λ (m : ℕ). take m (drop span.at image)) same)

-- ---- one zone

log_keeps : (image old new : List ℕ) (part : Part) → Keeps image old new → HasLog image old part → HasLog image new part
log_keeps image old new part keeps has = record {
  first = λ i from to. keeps i (has.first i from to);
  second = λ i from to. keeps i (has.second i from to);
}

some_keeps : (image old new : List ℕ) (part : Option Part) → Keeps image old new → IfSome part (HasLog image old)
    → IfSome part (HasLog image new)
some_keeps image old new None keeps has = tt
some_keeps image old new (Some part) keeps has = log_keeps image old new part keeps has

zone_keeps : (machine : Machine) (image old new : List ℕ) (z : Zone) → Keeps image old new
    → HasZone machine image old z → HasZone machine image new z
zone_keeps machine image old new z keeps has = record {
  front = λ i from to. keeps i (has.front i from to);
  log = some_keeps image old new (part_of machine z (zone_bytes z image)) keeps has.log;
}

zones_keep : (machine : Machine) (image old new : List ℕ) (zones : List Zone) → Keeps image old new
    → HasZones machine zones image old → HasZones machine zones image new
zones_keep machine image old new [] keeps has = tt
zones_keep machine image old new (z ∷ zones) keeps has =
    (zone_keeps machine image old new z keeps has.0, zones_keep machine image old new zones keeps has.1)

-- ---- ranges as lists

range_same : (image copy : List ℕ) (at n : ℕ) → length copy ≡ length image → HasRange image at (at + n) copy
    → take n (drop at image) ≡ take n (drop at copy)
range_same image copy at n len has =
    ext_get_or 0 (take n (drop at image)) (take n (drop at copy))
    (length-take n (drop at image) ∙ ap (λ (k : ℕ). min n k) (length-drop at image)
    ∙ ap (λ (k : ℕ). min n (k - at)) (sym len) ∙ sym (length-take n (drop at copy) ∙ ap (λ (k : ℕ). min n k)
    (length-drop at copy)))
    (λ i h.
    let l : length (take n (drop at image)) ≡ min n (length (drop at image)) = length-take n (drop at image) in
    let near : i < n = omega (arith, l, h) in
    get_or-take n (drop at image) i 0 near ∙ get_or-drop at image i 0
    ∙ sym (has (at + i) (omega arith) (omega (arith, near)))
    ∙ sym (get_or-take n (drop at copy) i 0 near ∙ get_or-drop at copy i 0))

span_same : (image copy : List ℕ) (span : Span) → length copy ≡ length image → HasSpan image span copy
    → span_bytes image span ≡ span_bytes copy span
span_same image copy span len has =
    let n : (span.at + span.len) - span.at ≡ span.len = omega arith in
    ap (λ (k : ℕ). take k (drop span.at image)) n ∙ range_same image copy span.at span.len len has
    ∙ sym (ap (λ (k : ℕ). take k (drop span.at copy)) n)

take_less : (n m : ℕ) (xs : List ℕ) → (m < n) ⊎ (n ≤ m) → take n (take m xs) ≡ take (min m n) xs
take_less n m xs (inl less) =
    take_all n (take m xs) (let l : length (take m xs) ≡ min m (length xs) = length-take m xs in omega (arith, l, less))
    ∙ ap (λ (k : ℕ). take k xs) (let e : m ≡ min m n = omega (arith, less) in e)
take_less n m xs (inr most) =
    take-take n m xs most ∙ ap (λ (k : ℕ). take k xs) (let e : n ≡ min m n = omega (arith, most) in e)

-- the front of a zone as `front_is_enough` takes it
front_is : (z : Zone) (image : List ℕ) → take 52 (zone_bytes z image) ≡ take (min z.size 52) (drop z.at image)
front_is z image =
    ap (λ (k : ℕ). take 52 (take k (drop z.at image))) (let e : (z.at + z.size) - z.at ≡ z.size = omega arith in e)
    ∙ take_less 52 z.size (drop z.at image) (cases_lt z.size 52)

front_at : (image copy : List ℕ) (z : Zone) → length copy ≡ length image → HasSpan image (front_of z) copy
    → take 52 (zone_bytes z image) ≡ take 52 (zone_bytes z copy)
front_at image copy z len has =
    front_is z image ∙ range_same image copy z.at (min z.size 52) len has ∙ sym (front_is z copy)

part_at : (machine : Machine) (image copy : List ℕ) (z : Zone) → length copy ≡ length image
    → HasSpan image (front_of z) copy → part_of machine z (zone_bytes z copy) ≡ part_of machine z (zone_bytes z image)
part_at machine image copy z len has =
    sym (part_same machine z (take 52 (zone_bytes z copy)) (zone_bytes z copy)
    (front_same machine 52 (zone_bytes z copy) (omega arith)))
    ∙ ap (part_of machine z) (sym (front_at image copy z len has))
    ∙ part_same machine z (take 52 (zone_bytes z image)) (zone_bytes z image)
    (front_same machine 52 (zone_bytes z image) (omega arith))

-- a zone that was filled
pub zone_filled : (machine : Machine) (image old between new : List ℕ) (z : Zone) (part : Option Part)
    → length between ≡ length image → part ≡ part_of machine z (zone_bytes z between)
    → IsFilled image (front_of z) old between → IsLogFilled image part between new → HasZone machine image new z
zone_filled machine image old between new z part len e front log = record {
  front = λ i from to. log.keeps i (front.has i from to);
  log = subst (λ (p : Option Part). IfSome p (HasLog image new)) (e ∙ part_at machine image between z len front.has)
      log.has;
}

front_len : (n : ℕ) (image : List ℕ) → n ≤ length image → n ≡ length (take n image)
front_len n image h = sym (length-take-le n image h)

pub zone_at : (holds then : Option (List ℕ)) (machine : Machine) (z : Zone) (front : Span) (old between new : List ℕ)
    (part : Option Part) → then ≡ holds → front ≡ front_of z → length between ≡ length old
    → IfSome holds (λ image. length old ≤ length image) → part ≡ part_of machine z (zone_bytes z between)
    → IfSome holds (λ image. IsFilled (take (length old) image) front old between)
    → IfSome then (λ image. IsLogFilled (take (length between) image) part between new)
    → IfSome holds (λ image. HasZone machine (take (length old) image) new z)
zone_at None then machine z front old between new part same is len fits e filled log = tt
zone_at (Some image) None machine z front old between new part same is len fits e filled log = cc
zone_at (Some image) (Some other) machine z front old between new part same is len fits e filled log =
    let n = length old in
    let one : other ≡ image = cc in
    let bytes : take (length between) other ≡ take n image =
    ap (λ (k : ℕ). take k other) len ∙ ap (λ (xs : List ℕ). take n xs) one in
    zone_filled machine (take n image) old between new z part (len ∙ front_len n image fits) e
    (subst (λ (s : Span). IsFilled (take n image) s old between) is filled)
    (subst (λ (xs : List ℕ). IsLogFilled xs part between new) bytes log)

-- ---- all zones

log_same : (image copy : List ℕ) (o : Option Part) (part : Part) → length copy ≡ length image
    → IfSome o (HasLog image copy) → o ≡ Some part → log_bytes image part.log ≡ log_bytes copy part.log
log_same image copy None part len has e = cc
log_same image copy (Some p) part len has e =
    let is : p ≡ part = cc in
    let of : HasLog image copy part = subst (HasLog image copy) is has in
    ap₂ (λ (xs ys : List ℕ). xs ++ ys) (span_same image copy part.log.first len of.first)
    (span_same image copy part.log.second len of.second)

zone_reads : (machine : Machine) (image copy : List ℕ) (z : Zone) → length copy ≡ length image
    → HasZone machine image copy z → ReadsTheSame machine z image copy
zone_reads machine image copy z len has = record {
  front = front_at image copy z len has.front;
  log = λ part e. log_same image copy (part_of machine z (zone_bytes z image)) part len has.log e;
}

pub zones_read : (machine : Machine) (image copy : List ℕ) (zones : List Zone) → length copy ≡ length image
    → HasZones machine zones image copy → AllByRecursion (λ (z : Zone). ReadsTheSame machine z image copy) zones
zones_read machine image copy [] len has = tt
zones_read machine image copy (z ∷ zones) len has =
    (zone_reads machine image copy z len has.0, zones_read machine image copy zones len has.1)

all_push : (P : Zone → Type 0) (zones : List Zone) (z : Zone) → AllByRecursion P zones → P z
    → AllByRecursion P (zones ++ z ∷ [])
all_push P [] z all h = (h, tt)
all_push P (y ∷ zones) z all h = (all.0, all_push P zones z all.1 h)

-- one zone more
pub zones_more : (machine : Machine) (image old new : List ℕ) (zones : List Zone) (i : ℕ) (d : Zone)
    → i < length zones → Keeps image old new → HasZones machine (take i zones) image old
    → HasZone machine image new (get_or zones i d) → HasZones machine (take (i + 1) zones) image new
zones_more machine image old new zones i d lt keeps has h =
    subst (λ (zs : List Zone). HasZones machine zs image new) (sym (take_more zones i d lt))
    (all_push (HasZone machine image new) (take i zones) (get_or zones i d)
    (zones_keep machine image old new (take i zones) keeps has) h)

pub zones_at : (holds then : Option (List ℕ)) (machine : Machine) (zones : List Zone) (i n : ℕ) (d : Zone)
    (old new : List ℕ) → then ≡ holds → length old ≡ n → i < length zones
    → IfSome then (λ image. Keeps (take (length old) image) old new)
    → IfSome then (λ image. HasZone machine (take (length old) image) new (get_or zones i d))
    → IfSome holds (λ image. HasZones machine (take i zones) (take n image) old)
    → IfSome holds (λ image. HasZones machine (take (i + 1) zones) (take n image) new)
zones_at None then machine zones i n d old new same len lt keeps one has = tt
zones_at (Some image) None machine zones i n d old new same len lt keeps one has = cc
zones_at (Some image) (Some other) machine zones i n d old new same len lt keeps one has =
    let is : other ≡ image = cc in
    let bytes : take (length old) other ≡ take n image =
    ap (λ (k : ℕ). take k other) len ∙ ap (λ (xs : List ℕ). take n xs) is in
    zones_more machine (take n image) old new zones i d lt (subst (λ (xs : List ℕ). Keeps xs old new) bytes keeps) has
    (subst (λ (xs : List ℕ). HasZone machine xs new (get_or zones i d)) bytes one)

pub copy_reads : (holds : Option (List ℕ)) (s : Storage) (total : ℕ) (zones : List Zone) (copy : List ℕ)
    → zones ≡ zones_of s.sizes → length copy ≡ total → IfSome holds (λ image. total ≤ length image)
    → IfSome holds (λ image. HasZones s.machine zones (take total image) copy)
    → IfSome holds (λ image. ReadTheSame s (take total image) copy)
copy_reads None s total zones copy e len fits has = tt
copy_reads (Some image) s total zones copy e len fits has =
    zones_read s.machine (take total image) copy (zones_of s.sizes) (len ∙ front_len total image fits)
    (subst (λ (zs : List Zone). HasZones s.machine zs (take total image) copy) e has)
