-- Why an image was not read
use Rattle.std.specs.Prelude.{◌≡◌, ℕ}
use Rattle.outside.specs.Outside.{Rose}
use Rattle.command_spec.specs.declared.Stop.{Stop}
use Rattle.command_spec.specs.declared.Stop.TheVariants.{Memory, ImageFault}

-- memory ran out and no read failed, or one failed
abbrev pub IsUnread : Stop → ℕ → ℕ → Type 0
IsUnread Memory before now = now ≡ before
IsUnread ImageFault before now = Rose before now
IsUnread other before now = ⊥
