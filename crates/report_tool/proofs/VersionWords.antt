-- The first word that begins with a version: a byte further, and that a version is a text. For `release.rt`.
use Rattle.std.proofs.Common.{◌≡◌, ℕ, ◌+◌, ◌<◌, ◌≤◌, ◌==◌, Bool, true, false, not, cond, List, [], ◌∷◌, length, drop, get_or}
use Rattle.std.proofs.Common.{Some, None, unwrap_or, nat_lt, refl, sym, ap, subst, arith, All, IsUtf8}
use Rattle.std.specs.List.{take_while, position, position_or_len}
use Rattle.std.specs.Option.{option_or}
use Rattle.std.proofs.lemmas.Bool.Decides.{nat_tests}
use Rattle.std.proofs.lemmas.List.{drop_all, drop_more}
use Rattle.std.proofs.lemmas.List.Elements.{All-cons, All-nil}
use Rattle.std.proofs.lemmas.Grind.{common_steps}
use Rattle.std.proofs.lemmas.List.Sums.{take_while-cons, prefix_len-le-length}
use Rattle.std.proofs.lemmas.Str.{IsUtf8-from_ascii}
use Rattle.std.proofs.lemmas.Str.Ascii.{IsAscii-from_all}
use Rattle.report_tool.specs.Releases.{is_of_version, version_in, front_tag, tag_from}

-- ---- digits and points are ASCII

abbrev passes : ℕ → Bool
passes b = not (not (is_of_version b))

small : (b : ℕ) → passes b ≡ true → b < 128
small b h = grind (arith, nat_tests, h)

one_more : (t : Bool) (b : ℕ) (rest : List ℕ) → (t ≡ true → b < 128) → All (λ x. x < 128) rest
    → All (λ x. x < 128) (cond t (b ∷ rest) [])
one_more true b rest f h = All-cons (λ x. x < 128) b rest (f refl) h
one_more false b rest f h = All-nil (λ x. x < 128)

all_small : (bs : List ℕ) → All (λ x. x < 128) (take_while passes bs)
all_small [] = All-nil (λ x. x < 128)
all_small (b ∷ bs) =
    subst (All (λ x. x < 128)) (sym (take_while-cons passes b bs))
    (one_more (passes b) b (take_while passes bs) (small b) (all_small bs))

pub version_is_text : (bs : List ℕ) → IsUtf8 (version_in bs)
version_is_text bs = IsUtf8-from_ascii (version_in bs) (IsAscii-from_all (version_in bs) (all_small bs))

-- ---- where the version ends

pub version_len_within : (bs : List ℕ) → position_or_len (λ b. not (is_of_version b)) bs ≤ length bs
version_len_within bs = prefix_len-le-length passes bs

pub version_len : (bs : List ℕ) → unwrap_or (position (λ b. not (is_of_version b)) bs) (length bs)
    ≡ position_or_len (λ b. not (is_of_version b)) bs
version_len bs = by (nat_lt place (length bs)) refl
  where
    place : ℕ
    place = position_or_len (λ b. not (is_of_version b)) bs

    by : (t : Bool) → nat_lt place (length bs) ≡ t → unwrap_or (cond t (Some place) None) (length bs) ≡ place
    by true e = refl
    by false e = grind (arith, common_steps, version_len_within bs)

-- ---- a byte further

step : (begins : Bool) (b : ℕ) (rest xs : List ℕ) → xs ≡ b ∷ rest
    → tag_from begins xs ≡ option_or (front_tag begins xs) (tag_from (b == 32) rest)
unfolding tag_from
step begins b rest xs e = rw e refl

pub byte_more : (bytes : List ℕ) (i : ℕ) (begins : Bool) → i < length bytes
    → tag_from begins (drop i bytes)
    ≡ option_or (front_tag begins (drop i bytes)) (tag_from (get_or bytes i 0 == 32) (drop (i + 1) bytes))
byte_more bytes i begins inside =
    step begins (get_or bytes i 0) (drop (i + 1) bytes) (drop i bytes) (drop_more bytes i 0 inside)

pub no_byte : (bytes : List ℕ) (i : ℕ) (begins : Bool) → length bytes ≤ i → tag_from begins (drop i bytes) ≡ None
unfolding tag_from
no_byte bytes i begins h = ap (tag_from begins) (drop_all i bytes h)
