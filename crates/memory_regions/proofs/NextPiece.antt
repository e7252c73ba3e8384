-- The marked pages of what was read, with those of the next piece. For `add_piece` and `marked_pages`.
use Rattle.std.proofs.Common.{◌≡◌, ◌∙◌, ℕ, ◌+◌, ◌*◌, ◌/◌, ◌%◌, ◌≤◌, List, [], ◌++◌, length, map, take, drop, refl, sym}
use Rattle.std.proofs.Common.{ap, subst, arith, take_all, Option, Some, None, IfSome}
use Rattle.std.proofs.Math.Seq.{take-add}
use Rattle.std.proofs.lemmas.List.{length-take-le}
use Rattle.memory_spec.specs.Pages.{marked}
use Rattle.memory_regions.specs.declared.pages.Unread.{Unread}
use Rattle.memory_regions.specs.Faults.{IsUnread}
use Rattle.memory_regions.proofs.PageMarks.{marked-append}

pub pages_read : (holds : Option (List ℕ)) (at count first : ℕ) (piece old new : List ℕ)
    → new ≡ old ++ map (λ page. first + page) (marked piece)
    → IfSome holds (λ bs. piece ≡ take count (drop at bs))
    → IfSome holds (λ bs. new ≡ old ++ map (λ page. first + page) (marked (take count (drop at bs))))
pages_read None at count first piece old new added h = tt
pages_read (Some bs) at count first piece old new added h =
    added ∙ ap (λ xs. old ++ map (λ page. first + page) (marked xs)) h

-- the front that was read has the pages so far
abbrev pub HasPages : Option (List ℕ) → ℕ → ℕ → List ℕ → Type 0
HasPages holds size at pages = IfSome holds (λ bs. (size ≡ length bs) × (pages ≡ marked (take at bs)))

pub none_yet : (holds : Option (List ℕ)) (size : ℕ) → IfSome holds (λ bs. size ≡ length bs) → HasPages holds size 0 []
unfolding marked
none_yet None size h = tt
none_yet (Some bs) size h = (h, refl)

pub piece_fits : (holds : Option (List ℕ)) (size at count : ℕ) (pages : List ℕ) → at + count ≤ size → HasPages holds size at pages
    → IfSome holds (λ bs. at + count ≤ length bs)
piece_fits None size at count pages fits h = tt
piece_fits (Some bs) size at count pages fits h = omega (arith, fits, h.0)

piece_added : (holds : Option (List ℕ)) (size at count : ℕ) (old new : List ℕ) → at + count ≤ size → at % 4096 ≡ 0
    → HasPages holds size at old
    → IfSome holds (λ bs. new ≡ old ++ map (λ page. at / 4096 + page) (marked (take count (drop at bs))))
    → HasPages holds size (at + count) new
piece_added None size at count old new fits whole h added = tt
piece_added (Some bs) size at count old new fits whole h added =
    let k : 4096 * (at / 4096) ≡ at = omega (arith, whole) in
    let inside : at ≤ length bs = omega (arith, fits, h.0) in
    let len : length (take at bs) ≡ 4096 * (at / 4096) = length-take-le at bs inside ∙ sym k in (
      h.0,
      added ∙ ap (λ xs. xs ++ map (λ page. at / 4096 + page) (marked (take count (drop at bs)))) h.1
          ∙ sym (marked-append (take at bs) (take count (drop at bs)) (at / 4096) len)
          ∙ ap marked (sym (take-add at count bs)),
    )

pub next_piece : (holds asked : Option (List ℕ)) (size at count read next : ℕ) (old new : List ℕ) → asked ≡ holds
    → read ≡ count → next ≡ at + count → at + count ≤ size → at % 4096 ≡ 0 → HasPages holds size at old
    → IfSome asked (λ bs. new ≡ old ++ map (λ page. at / 4096 + page) (marked (take read (drop at bs))))
    → HasPages holds size next new
next_piece holds asked size at count read next old new same few on fits whole h added =
    let told = rw (same, few) at added in
    rw on (piece_added holds size at count old new fits whole h told)

pub all_read : (holds : Option (List ℕ)) (size at : ℕ) (pages : List ℕ) → at ≡ size → HasPages holds size at pages
    → IfSome holds (λ bs. pages ≡ marked bs)
all_read None size at pages end h = tt
all_read (Some bs) size at pages end h = h.1 ∙ ap marked (take_all at bs (omega (arith, end, h.0)))

-- no fault before why it was not read
pub unread_since : (e : Unread) (first before now : ℕ) → before ≡ first → IsUnread e before now → IsUnread e first now
unread_since e first before now same h = subst (λ (n : ℕ). IsUnread e n now) same h
