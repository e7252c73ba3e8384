-- Damage within bounds and out of them, and the windows of a dump
use Rattle.std.specs.Prelude.{◌≡◌, ℕ, List, [], ◌∷◌, replicate, map, codes, Option, Some, None}
use Rattle.zone_spec.specs.declared.Pair.{Pair}
use Rattle.zone_spec.specs.Parts.{Block}
use Rattle.zone_spec.specs.Damage.{IsWithinBounds}
use Rattle.zone_spec.specs.Told.{Dump}
use Rattle.zone_spec.specs.Pairs.{pair_of}
use Rattle.zone_spec.specs.Windows.{Window, current_window}
use Rattle.machine_spec.specs.Stop.{cut_of}
use Rattle.zone_examples.specs.Zones.{dump, console_of_sixteen, small_zone}
use Rattle.zone_examples.specs.Scenes.{abc, zone_booted, zone_written}
use Rattle.zone_examples.specs.Damage.{flipped_from, nine_masks}

-- eight flips are within bounds where there are sixteen parity bytes
abbrev pub EightFlipsWithinBounds : Type 0
EightFlipsWithinBounds =
    let stop = zone_written console_of_sixteen abc in
    IsWithinBounds console_of_sixteen stop (flipped_from 12 (replicate 8 1) stop) (Block 0)

-- nine are not
abbrev pub NineFlipsOutOfBounds : Type 0
NineFlipsOutOfBounds =
    let stop = zone_written console_of_sixteen (replicate 200 0x61) in
    IsWithinBounds console_of_sixteen stop (flipped_from 12 nine_masks stop) (Block 0) → ⊥

-- the words before and after the part that holds the last store made of a dump: an erasure of 2 stores,
-- a line of 17, a body of 3
abbrev pub words_of_window : Option Window → List Pair
words_of_window None = []
words_of_window (Some w) = pair_of w.opening ∷ pair_of w.closing ∷ []

abbrev pub window_of_dump : ℕ → List Pair
window_of_dump made =
    let z = small_zone (dump 0) 0 in
    words_of_window (current_window z (cut_of z (record {
      image = zone_booted z;
      call = Dump (codes "====5.000006-D\n") (codes "x");
      made = made;
    })))

abbrev pub words_between : ℕ → ℕ → List Pair
words_between before after = record { start = before; size = before } ∷ record { start = after; size = after } ∷ []

abbrev pub WindowsOfDump : Type 0
WindowsOfDump =
    map window_of_dump (0 ∷ 2 ∷ 3 ∷ 19 ∷ 20 ∷ 22 ∷ [])
    ≡ words_between 0 0 ∷ words_between 0 0 ∷ words_between 0 15 ∷ words_between 0 15 ∷ words_between 15 16
    ∷ words_between 15 16 ∷ []
