-- The header before and after each part of a cut call
use Rattle.std.specs.Prelude.{ℕ, ◌-◌, if◌then◌else◌, nat_le, List, [], ◌∷◌, ◌++◌, sum_by, Option, Some, None}
use Rattle.zone_spec.specs.declared.Zone.{Zone}
use Rattle.zone_spec.specs.declared.Words.{Words}
use Rattle.code_spec.specs.Code.{nearest, parity_of}
use Rattle.zone_spec.specs.declared.params.ByteOrder.{ByteOrder}
use Rattle.zone_spec.specs.WordBytes.{word_bytes}
use Rattle.zone_spec.specs.Parts.{words_in}
use Rattle.zone_spec.specs.Stages.{Stage, SigWord, StartWord, SizeWord, stage_count}
use Rattle.zone_spec.specs.Cut.{Cut, cut_parts}

-- the words after the stages
unfoldable pub words_after : Words → List Stage → Words
words_after w [] = w
words_after w (SigWord n ∷ gs) = words_after (record w { sig = n }) gs
words_after w (StartWord n ∷ gs) = words_after (record w { start = n }) gs
words_after w (SizeWord n ∷ gs) = words_after (record w { size = n }) gs
words_after w (g ∷ gs) = words_after w gs

-- a header with its parity
abbrev pub header_codeword : ByteOrder → ℕ → Words → List ℕ
header_codeword order r w =
    let bytes = word_bytes order w.sig ++ word_bytes order w.start ++ word_bytes order w.size in
    bytes ++ parity_of r bytes

-- a part of a call: its number of stores, the words before it and after its last store, the nearest
-- codeword of the header before it, and the header after it with its parity
pub record Window : Type 0 where
  pub stores : ℕ
  pub opening : Words
  pub closing : Words
  pub opening_codeword : Option (List ℕ)
  pub closing_codeword : List ℕ

-- the window of a part that begins with this header
abbrev pub window : Zone → List ℕ → List Stage → Window
window z header stages = record {
  stores = sum_by (stage_count z) stages;
  opening = words_in z.byte_order header;
  closing = words_after (words_in z.byte_order header) stages;
  opening_codeword = nearest z.parity header;
  closing_codeword = header_codeword z.byte_order z.parity (words_after (words_in z.byte_order header) stages);
}

-- each part begins with the header that the one before it left; a part of no stages has no window
unfoldable pub windows_from : Zone → List ℕ → List (List Stage) → List Window
windows_from z header [] = []
windows_from z header ([] ∷ parts) = windows_from z header parts
windows_from z header ((g ∷ gs) ∷ parts) =
    window z header (g ∷ gs) ∷ windows_from z (window z header (g ∷ gs)).closing_codeword parts

-- the window that holds the last of so many stores made, or the first where none was made
unfoldable pub window_at : ℕ → List Window → Option Window
window_at made [] = None
window_at made (w ∷ ws) = if nat_le made w.stores then Some w else window_at (made - w.stores) ws

-- the current part of a cut
abbrev pub current_window : Zone → Cut → Option Window
current_window z cut = window_at cut.made (windows_from z cut.header (cut_parts z cut))
