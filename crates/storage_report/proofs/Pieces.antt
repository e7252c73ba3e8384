-- Pieces of an image. For `block` and `scan`.
use Rattle.std.proofs.Common.{◌≡◌, ◌∙◌, ℕ, ◌+◌, ◌-◌, ◌*◌, ◌/◌, ◌<◌, ◌≤◌, List, [], ◌++◌, length, take, drop, ap, sym}
use Rattle.std.proofs.Common.{subst, arith, true}
use Rattle.std.specs.Prelude.{Option, Some, None, IfSome}
use Rattle.std.proofs.lemmas.List.{length-take-le}
use Rattle.psz_spec.specs.Marks.{as_marks, order_in, marks_in}
use Rattle.storage_spec.specs.Found.{machine_of}
use Rattle.storage_report.specs.declared.scanning.Piece.{Piece}
use Rattle.storage_report.specs.declared.scanning.Seen.{Seen}
use Rattle.storage_report.specs.Scans.{order_more, mark_more, machine_more, machine_by, is_decided}
use Rattle.storage_report.specs.Pieces.{IsPieceOf, HasBlock}
use Rattle.storage_report.proofs.HeadersSeen.{SeenTo, seen_none, seen_as, seen_more, seen_all, seen_enough, marks_all}
use Rattle.storage_report.proofs.HeadersSeen.{front_block, piece_block}

pub block_of : (p : Piece) (at : ℕ) (block : List ℕ) (holds : Option (List ℕ))
    → block ≡ take 512 (drop (at - p.from) p.bytes.items) → HasBlock at p → IsPieceOf holds p
    → IfSome holds (λ image. block ≡ take 512 (drop at image))
block_of p at block None e has is = tt
block_of p at block (Some image) e has is =
    e ∙ piece_block p.len p.from at p.bytes.items image is.bytes has.from has.inside

no_bytes : (holds : Option (List ℕ)) (p : Piece) → p.len ≡ 0
    → IfSome holds (λ image. take p.len p.bytes.items ≡ take p.len (drop p.from image))
no_bytes None p none = tt
no_bytes (Some image) p none =
    ap (λ (n : ℕ). take n p.bytes.items) none ∙ sym (ap (λ (n : ℕ). take n (drop p.from image)) none)

pub none_piece : (holds : Option (List ℕ)) (p : Piece) → p.len ≡ 0 → length p.bytes.items ≡ 65536 → IsPieceOf holds p
none_piece holds p none room = record {
  room = room;
  few = omega (arith, none);
  bytes = no_bytes holds p none;
}

-- ---- the headers of an image that tells its bytes

abbrev pub IsSeenTo : Option (List ℕ) → ℕ → ℕ → Seen → Type 0
IsSeenTo holds total i s = IfSome holds (λ image. SeenTo (take total image) i s.order s.shown s.marks.items)

pub start : (holds : Option (List ℕ)) (total : ℕ) (s : Seen) → s.order ≡ None → s.shown ≡ None → s.marks.items ≡ []
    → IsSeenTo holds total 0 s
start None total s o m k = tt
start (Some image) total s o m k = seen_as (take total image) 0 None s.order None s.shown [] s.marks.items o m k
    (seen_none (take total image))

front_len : (total : ℕ) (image : List ℕ) → total ≤ length image → total ≡ length (take total image)
front_len total image h = sym (length-take-le total image h)

pub more : (holds : Option (List ℕ)) (total i : ℕ) (block : List ℕ) (s t : Seen) → i < total / 512
    → IfSome holds (λ image. total ≤ length image) → IfSome holds (λ image. block ≡ take 512 (drop (i * 512) image))
    → t.order ≡ order_more s.order total (i * 512) block
    → t.shown ≡ machine_more s.shown (mark_more t.order total (i * 512) block) block
    → t.marks.items ≡ s.marks.items ++ as_marks (mark_more t.order total (i * 512) block) → IsSeenTo holds total i s
    → IsSeenTo holds total (i + 1) t
more None total i block s t lt fits e eo em es is = tt
more (Some image) total i block s t lt fits e eo em es is =
    let len : total ≡ length (take total image) = front_len total image fits in
    let within : i * 512 + 512 ≤ total = omega (arith, lt) in
    seen_more (take total image) i total s.order t.order s.shown t.shown s.marks.items t.marks.items block
    (let h : i < length (take total image) / 512 = subst (λ (n : ℕ). i < n / 512) len lt in h) len
    (e ∙ sym (front_block total (i * 512) image within)) eo em es is

pub all : (holds : Option (List ℕ)) (total i : ℕ) (s : Seen) → total / 512 ≤ i
    → IfSome holds (λ image. total ≤ length image) → IsSeenTo holds total i s
    → IfSome holds (λ image. machine_by s.order s.shown ≡ machine_of (take total image))
all None total i s past fits is = tt
all (Some image) total i s past fits is =
    seen_all (take total image) i s.order s.shown s.marks.items
    (subst (λ (n : ℕ). n / 512 ≤ i) (front_len total image fits) past) is

pub all_marks : (holds : Option (List ℕ)) (total i : ℕ) (s : Seen) → total / 512 ≤ i
    → IfSome holds (λ image. total ≤ length image) → IsSeenTo holds total i s
    → IfSome holds (λ image. s.marks.items ≡ marks_in (order_in (take total image)) (take total image))
all_marks None total i s past fits is = tt
all_marks (Some image) total i s past fits is =
    marks_all (take total image) i s.order s.shown s.marks.items
    (subst (λ (n : ℕ). n / 512 ≤ i) (front_len total image fits) past) is

pub enough : (holds : Option (List ℕ)) (total i : ℕ) (s : Seen) → is_decided s.order s.shown ≡ true
    → IsSeenTo holds total i s → IfSome holds (λ image. machine_by s.order s.shown ≡ machine_of (take total image))
enough None total i s t is = tt
enough (Some image) total i s t is = seen_enough (take total image) i s.order s.shown s.marks.items t is
