-- A slice within a list has its length, and its elements are those of the list. By `Slices`.
use Rattle.std.proofs.Common.{◌+◌, arith}
use Rattle.list_laws.proofs.Slices.{length-slice_range, get_or-slice_range}
use Rattle.list_laws.proofs.slice_within.Goals as goal

pub returns : goal.returns
returns c = λ xs a n h. (length-slice_range xs a n h, λ i l. get_or-slice_range xs a (a + n) i (omega arith))
