-- The text in which a page shows bytes: printable ASCII, tab and newline as they are; each other byte and the backslash
-- as `\x` and two digits, as /dev/kmsg shows them (kernel/printk/printk.c, msg_add_ext_text); and what is markup as a
-- reference
use Rattle.std.specs.Prelude.{◌≡◌, ℕ, ◌+◌, ◌/◌, ◌%◌, Bool, true, ◌&&◌, ◌||◌, not, if◌then◌else◌, ◌==◌, nat_le, nat_lt}
use Rattle.std.specs.Prelude.{List, [], ◌∷◌, codes, flat_map}
use Rattle.std.specs.List.{list_all, list_any}
use Rattle.zone_spec.specs.TimeLines.{begins_with}

-- whether a byte is shown as it is, or as a reference
abbrev pub is_plain : ℕ → Bool
is_plain b = (b == 9) || (b == 10) || (nat_le 32 b && nat_lt b 127 && not (b == 92))

abbrev pub hex_digit : ℕ → ℕ
hex_digit n = if nat_lt n 10 then 48 + n else 87 + n

-- a byte that is not plain
abbrev pub shown : ℕ → List ℕ
shown b = 92 ∷ 120 ∷ hex_digit (b / 16) ∷ hex_digit (b % 16) ∷ []

-- the character references of a page's text
abbrev pub references : List (List ℕ)
references = codes "&amp;" ∷ codes "&lt;" ∷ codes "&gt;" ∷ codes "&quot;" ∷ codes "&#39;" ∷ []

abbrev pub escaped_byte : ℕ → List ℕ
escaped_byte b =
    if b == 38 then codes "&amp;" else (if b == 60 then codes "&lt;" else (if b == 62 then codes "&gt;"
    else (if b == 34 then codes "&quot;" else (if b == 39 then codes "&#39;"
    else (if is_plain b then b ∷ [] else shown b)))))

-- bytes as a page shows them
unfoldable pub escaped : List ℕ → List ℕ
escaped bytes = flat_map escaped_byte bytes

-- whether a page shows a byte, and it can begin or end no tag and no attribute's value
abbrev pub is_harmless : ℕ → Bool
is_harmless b = ((b == 9) || (b == 10) || (nat_le 32 b && nat_lt b 127))
    && not ((b == 60) || (b == 62) || (b == 34) || (b == 39))

-- whether each ampersand of a text begins one of the references
abbrev pub are_references : List ℕ → Bool
are_references [] = true
are_references (b ∷ bs) =
    (not (b == 38) || list_any (λ reference. begins_with reference (b ∷ bs)) references) && are_references bs

-- text without markup, all of it visible
pub record IsText (text : List ℕ) : Type 0 where
  pub harmless : list_all is_harmless text ≡ true
  pub references : are_references text ≡ true
