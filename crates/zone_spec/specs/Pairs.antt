-- The start and size words that a call goes through, and the one that a header reads
use Rattle.std.specs.Prelude.{ℕ, ◌&&◌, if◌then◌else◌, ◌==◌, position, List, [], ◌∷◌, Option, Some, None}
use Rattle.zone_spec.specs.declared.Zone.{Zone}
use Rattle.zone_spec.specs.declared.Words.{Words}
use Rattle.zone_spec.specs.declared.Pair.{Pair}
use Rattle.zone_spec.specs.declared.HeaderSeen.{HeaderSeen}
use Rattle.zone_spec.specs.declared.HeaderSeen.TheVariants.{Pair as SeenPair, Foreign}
use Rattle.zone_spec.specs.Stages.{Stage, StartWord, SizeWord}

-- a pair, and the pairs after each store of a start or size word
unfoldable pub pairs_from : Pair → List Stage → List Pair
pairs_from p [] = p ∷ []
pairs_from p (StartWord n ∷ gs) = p ∷ pairs_from (record { start = n; size = p.size }) gs
pairs_from p (SizeWord n ∷ gs) = p ∷ pairs_from (record { start = p.start; size = n }) gs
pairs_from p (g ∷ gs) = pairs_from p gs

-- the start and size of words
abbrev pub pair_of : Words → Pair
pair_of w = record { start = w.start; size = w.size }

-- a pair by its number, or none
abbrev pub seen_at : Option ℕ → HeaderSeen
seen_at None = Foreign
seen_at (Some j) = SeenPair j

-- the least number of a pair that the words are, where they have the zone's signature
abbrev pub header_seen : Zone → Words → List Pair → HeaderSeen
header_seen z w pairs =
    if w.sig == z.sig then seen_at (position (λ (p : Pair). (w.start == p.start) && (w.size == p.size)) pairs)
    else Foreign
