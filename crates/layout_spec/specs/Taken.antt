-- When the first layout is taken
use Rattle.std.specs.Prelude.{Bool, nat_le}
use Rattle.layout_spec.specs.declared.Tally.{Tally}

-- it is taken if at least as many of its zones fit as it has faults
abbrev pub is_taken : Tally → Bool
is_taken t = nat_le t.faults t.fits
