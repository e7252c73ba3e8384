-- Bytes as a terminal may show them: printable ASCII, tab and newline as they are; each other byte and the backslash as
-- `\x` and two digits, as /dev/kmsg shows them (kernel/printk/printk.c, msg_add_ext_text)
use Rattle.std.specs.Prelude.{ℕ, Bool, ◌&&◌, ◌||◌, if◌then◌else◌, ◌==◌, nat_le, nat_lt, List, [], ◌∷◌, flat_map}
use Rattle.report_spec.specs.Escaped.{is_plain, shown}

-- whether a terminal shows a byte, and does nothing else at it
abbrev pub is_visible : ℕ → Bool
is_visible b = (b == 9) || (b == 10) || (nat_le 32 b && nat_lt b 127)

abbrev pub visible_byte : ℕ → List ℕ
visible_byte b = if is_plain b then b ∷ [] else shown b

unfoldable pub visible : List ℕ → List ℕ
visible bytes = flat_map visible_byte bytes
