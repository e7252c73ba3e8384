-- The rings found so far, and those that the scan still has, are the rings of the dump. For the
-- loop of `all_rings`.
use Rattle.std.proofs.Common.{◌≡◌, ◌++◌, length}
use Rattle.commands.proofs.salvaging.all_rings.Given as goal

-- the rings so far, and then those that are left
abbrev pub invariant-rings : goal.invariant-rings
invariant-rings l = l.rings.items ++ l.scan.rest ≡ l.fn.scan.rest

abbrev pub decreases-rings : goal.decreases-rings
decreases-rings l = length l.scan.rest
