-- The logs of rings of eight bytes
use Rattle.std.specs.Prelude.{slice_set, ◌≡◌, ℕ, List, ◌∷◌, codes}
use Rattle.psz_spec.specs.declared.Kind.TheVariants.{Pmsg, Console, Ftrace}
use Rattle.psz_spec.specs.declared.Machine.TheVariants.{Aligned, BigEndian}
use Rattle.psz_spec.specs.declared.State.TheVariants.{Unsigned, Overtop, Broken, Found}
use Rattle.psz_spec.specs.States.{state_of, log_of}
use Rattle.psz_examples.specs.Layouts.{zone}

-- CBGC, a length, a start, and eight bytes
abbrev pub ring : ℕ → ℕ → List ℕ
ring len start =
    67 ∷ 66 ∷ 71 ∷ 67 ∷ len ∷ 0 ∷ 0 ∷ 0 ∷ start ∷ 0 ∷ 0 ∷ 0 ∷ codes "abcdefgh"

-- it went round: `d` is the oldest byte
abbrev pub WrappedRow : Type 0
WrappedRow = log_of Aligned (ring 8 3) ≡ codes "defghabc"

-- it did not go round yet: its start is its length, and what stands behind is of an earlier boot
abbrev pub NotYetRow : Type 0
NotYetRow = log_of Aligned (ring 3 3) ≡ codes "abc"

-- just full
abbrev pub FullRow : Type 0
FullRow = log_of Aligned (ring 8 8) ≡ codes "abcdefgh"

abbrev pub BeyondRow : Type 0
BeyondRow = state_of Aligned (zone Pmsg 0 0 20) (ring 3 5) ≡ Broken

-- its start is its length as long as it did not go round
abbrev pub NotYetStateRow : Type 0
NotYetStateRow = state_of Aligned (zone Pmsg 0 0 20) (ring 3 3) ≡ Found

abbrev pub StartOvertopRow : Type 0
StartOvertopRow = state_of Aligned (zone Pmsg 0 0 20) (ring 8 9) ≡ Overtop

-- FBGC
abbrev pub ConsoleRow : Type 0
ConsoleRow = state_of Aligned (zone Console 0 0 20) (slice_set (ring 8 3) 0 70) ≡ Found

-- GBGC
abbrev pub FtraceRow : Type 0
FtraceRow = state_of Aligned (zone Ftrace 0 0 20) (slice_set (ring 8 3) 0 71) ≡ Found

abbrev pub OtherKindRow : Type 0
OtherKindRow = state_of Aligned (zone Console 0 0 20) (ring 8 3) ≡ Unsigned

-- ---- of a big-endian machine

-- CGBC
abbrev pub big_ring : ℕ → ℕ → List ℕ
big_ring len start =
    67 ∷ 71 ∷ 66 ∷ 67 ∷ 0 ∷ 0 ∷ 0 ∷ len ∷ 0 ∷ 0 ∷ 0 ∷ start ∷ codes "abcdefgh"

-- it went round
abbrev pub BigWrappedRow : Type 0
BigWrappedRow = log_of BigEndian (big_ring 8 3) ≡ codes "defghabc"

abbrev pub BigRingRow : Type 0
BigRingRow = state_of BigEndian (zone Pmsg 0 0 20) (big_ring 8 3) ≡ Found

abbrev pub BigBeyondRow : Type 0
BigBeyondRow = state_of BigEndian (zone Pmsg 0 0 20) (big_ring 3 5) ≡ Broken

-- CGBF
abbrev pub BigConsoleRow : Type 0
BigConsoleRow = state_of BigEndian (zone Console 0 0 20) (slice_set (big_ring 8 3) 3 70) ≡ Found
