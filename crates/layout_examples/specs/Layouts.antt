-- When a parity is shown, and which numbers are tags
use Rattle.std.specs.Prelude.{◌≡◌, true, false}
use Rattle.layout_spec.specs.Family.{is_tag}
use Rattle.layout_spec.specs.Order.{is_shown}

-- a parity of two bytes is shown if the headers that fit have four bytes of it together, and two more for each
-- corrected byte
abbrev pub ShownRow : Type 0
ShownRow =
    (is_shown 2 1 0 ≡ false) × (is_shown 2 2 0 ≡ true)
    × (is_shown 2 2 1 ≡ false) × (is_shown 2 3 1 ≡ true)

-- the versions 2.0.0 to 255.255.255
abbrev pub TagRow : Type 0
TagRow =
    (is_tag 0x1ffff ≡ false) × (is_tag 0x20000 ≡ true)
    × (is_tag 0xffffff ≡ true) × (is_tag 0x1000000 ≡ false)
