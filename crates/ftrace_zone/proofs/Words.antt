-- An entry by its three words
use Rattle.std.proofs.Common.{◌≡◌, ℕ, ◌+◌, ◌/◌, ◌<◌, ◌^◌, List, [], ◌∷◌, ◌++◌, length, get_or, take, drop, flat_map}
use Rattle.std.proofs.Common.{w64, refl, sym, ap, ap₂, ◌∙◌, append_assoc, append-nil}
use Rattle.std.specs.Int.{to_le_bytes}
use Rattle.std.proofs.Math.Seq.{take-add}
use Rattle.std.proofs.lemmas.List.{drop-drop, take_more}
use Rattle.std.proofs.lemmas.Grind.{flat_map-append}
use Rattle.std.proofs.lemmas.Nat.{from_le_bytes-to_le_bytes_8}
use Rattle.zone_spec.specs.Ftrace.{entry_time}
use Rattle.ftrace_zone.specs.declared.Entry.{Entry}
use Rattle.ftrace_zone.specs.EntryBytes.{entry_bytes}

pub entry_time-bytes : (e : Entry) → e.word < 2 ^ 64 → e.word / 256 ≡ entry_time (entry_bytes e)
unfolding entry_bytes
entry_time-bytes e small = ap (λ (n : ℕ). n / 256) (sym (from_le_bytes-to_le_bytes_8 e.word small))

entry_bytes-is : (e : Entry) → entry_bytes e ≡ (to_le_bytes w64 e.addr ++ to_le_bytes w64 e.parent)
    ++ to_le_bytes w64 e.word
unfolding entry_bytes
entry_bytes-is e = refl

-- 24 bytes are three times eight
three_words : (xs : List ℕ) (at : ℕ) → (take 8 (drop at xs) ++ take 8 (drop (at + 8) xs)) ++ take 8
    (drop (at + 16) xs) ≡ take 24 (drop at xs)
three_words xs at =
    ap₂ (λ (u v : List ℕ). (take 8 (drop at xs) ++ take 8 u) ++ take 8 v) (sym (drop-drop 8 at xs))
    (sym (drop-drop 16 at xs))
    ∙ ap (λ (u : List ℕ). u ++ take 8 (drop 16 (drop at xs))) (sym (take-add 8 8 (drop at xs)))
    ∙ sym (take-add 16 8 (drop at xs))

pub entry_bytes-words : (e : Entry) (log : List ℕ) (at : ℕ) → to_le_bytes w64 e.addr ≡ take 8 (drop at log)
    → to_le_bytes w64 e.parent ≡ take 8 (drop (at + 8) log) → to_le_bytes w64 e.word ≡ take 8 (drop (at + 16) log)
    → entry_bytes e ≡ take 24 (drop at log)
entry_bytes-words e log at addr parent word =
    entry_bytes-is e ∙ ap₂ (λ (u v : List ℕ). u ++ v) (ap₂ (λ (u v : List ℕ). u ++ v) addr parent) word
    ∙ three_words log at

-- the bytes of an entry, appended word by word
four : (a b c d : List ℕ) → ((a ++ b) ++ c) ++ d ≡ a ++ ((b ++ c) ++ d)
four a b c d = simp append_assoc refl

pub entry_bytes-appended : (bytes : List ℕ) (e : Entry)
    → ((bytes ++ to_le_bytes w64 e.addr) ++ to_le_bytes w64 e.parent) ++ to_le_bytes w64 e.word ≡ bytes ++ entry_bytes e
entry_bytes-appended bytes e = four bytes (to_le_bytes w64 e.addr) (to_le_bytes w64 e.parent) (to_le_bytes w64 e.word)
    ∙ ap (λ (xs : List ℕ). bytes ++ xs) (sym (entry_bytes-is e))

-- one entry more
pub bytes-more : (bytes : List ℕ) (entries : List Entry) (i : ℕ) (d : Entry)
    → bytes ≡ flat_map entry_bytes (take i entries) → i < length entries →
    ((bytes ++ to_le_bytes w64 (get_or entries i d).addr) ++ to_le_bytes w64 (get_or entries i d).parent)
    ++ to_le_bytes w64 (get_or entries i d).word ≡ flat_map entry_bytes (take (i + 1) entries)
bytes-more bytes entries i d so_far lt =
    entry_bytes-appended bytes (get_or entries i d)
    ∙ rw (
      so_far,
      take_more entries i d lt,
      flat_map-append entry_bytes (take i entries) (get_or entries i d ∷ []),
      append-nil,
    ) refl
