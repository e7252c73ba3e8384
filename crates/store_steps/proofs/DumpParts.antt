-- The parts of a dump, each from the ring on at which it begins
use Rattle.std.proofs.Common.{◌≡◌, ℕ, ◌<◌, List, length, refl, arith}
use Rattle.zone_spec.specs.declared.Words.{Words}
use Rattle.zone_spec.specs.declared.CallKind.{CallKind}
use Rattle.zone_spec.specs.declared.CallKind.TheVariants.{Append as AppendKind, Erase as EraseKind, Dump as DumpKind}
use Rattle.store_steps.specs.Calls.{call_of, line_of, front_of}
use Rattle.store_steps.specs.Phases.{PlacedBy}
use Rattle.store_steps.specs.declared.place.Leg.TheVariants.{Line, Body}

pub line_placed : (kind : CallKind) (line body : List ℕ) (w : Words) → 0 < length (line_of (call_of kind line body))
    → PlacedBy (call_of kind line body) w Line 0 0
unfolding line_of
line_placed AppendKind line body w h = absurd (omega (arith, h))
line_placed EraseKind line body w h = absurd (omega (arith, h))
line_placed DumpKind line body w h = (refl, refl)

pub body_placed : (kind : CallKind) (line body : List ℕ) (w : Words) (cap n : ℕ)
    → n ≡ length (line_of (call_of kind line body)) → 0 < length (front_of cap (call_of kind line body))
    → PlacedBy (call_of kind line body) w Body n n
unfolding line_of front_of
body_placed AppendKind line body w cap n e h = absurd (omega (arith, h))
body_placed EraseKind line body w cap n e h = absurd (omega (arith, h))
body_placed DumpKind line body w cap n e h = (e, e)
