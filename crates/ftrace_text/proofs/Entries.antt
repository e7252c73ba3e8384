-- The words of an entry's bytes
use Rattle.std.proofs.Common.{◌≡◌, ℕ, ◌%◌, ◌/◌, ◌<◌, ◌^◌, ◌++◌, List, [], ◌∷◌, map, refl, ap, ◌∙◌}
use Rattle.std.proofs.lemmas.Nat.{from_le_bytes-to_le_bytes_8}
use Rattle.zone_spec.specs.Ftrace.{entry_time}
use Rattle.ftrace_zone.specs.declared.Entry.{Entry}
use Rattle.ftrace_zone.specs.EntryBytes.{entry_bytes}
use Rattle.ftrace_spec.specs.Lines.{word_of, line_by, line_text}

pub map-append : {X Y : Type 0} (f : X → Y) (xs ys : List X) → map f (xs ++ ys) ≡ map f xs ++ map f ys
map-append f [] ys = refl
map-append f (x ∷ xs) ys = ap (λ zs. f x ∷ zs) (map-append f xs ys)

first : (e : Entry) → e.addr < 2 ^ 64 → word_of (entry_bytes e) 0 ≡ e.addr
unfolding entry_bytes
first e small = from_le_bytes-to_le_bytes_8 e.addr small

second : (e : Entry) → e.parent < 2 ^ 64 → word_of (entry_bytes e) 8 ≡ e.parent
unfolding entry_bytes
second e small = from_le_bytes-to_le_bytes_8 e.parent small

third : (e : Entry) → e.word < 2 ^ 64 → word_of (entry_bytes e) 16 ≡ e.word
unfolding entry_bytes
third e small = from_le_bytes-to_le_bytes_8 e.word small

pub line_of_entry : (names : List ℕ) (shift : ℕ) (e : Entry) → e.addr < 2 ^ 64 → e.parent < 2 ^ 64 → e.word < 2 ^ 64
    → line_by names shift e.addr e.parent (e.word % 256) (e.word / 256) ≡ line_text names shift (entry_bytes e)
line_of_entry names shift e a p w = rw (first e a, second e p, third e w) refl
