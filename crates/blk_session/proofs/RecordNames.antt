-- The listed record whose name has a text
use Rattle.std.proofs.Common.{◌≡◌, ℕ, Bool, true, false, ◌||◌, if◌then◌else◌, List, [], ◌∷◌, Some, refl}
use Rattle.std.specs.Prelude.{bytes_eq}
use Rattle.std.specs.List.{find, list_any}
use Rattle.blk_spec.specs.declared.BlkName.{BlkName}
use Rattle.blk_spec.specs.Names.{name_text, is_name}
use Rattle.blk_spec.specs.States.{BlkState, names_of, is_listed}
use Rattle.script_spec.specs.BlkScripts.{blk_named}
use Rattle.zone_blk.proofs.OneNameText.{is-itself}

found_any : (text : List ℕ) (names : List BlkName) (name : BlkName)
    → find (λ (n : BlkName). bytes_eq (name_text n) text) names ≡ Some name → list_any (is_name name) names ≡ true
found_any text [] name e = cc
found_any text (n ∷ names) name e = by-test (bytes_eq (name_text n) text) e (found_any text names name)
  where
    or-true : (b : Bool) → (b || true) ≡ true
    or-true true = refl
    or-true false = refl

    by-test : (b : Bool) → (if b then Some n else find (λ (m : BlkName). bytes_eq (name_text m) text) names) ≡ Some name
        → (find (λ (m : BlkName). bytes_eq (name_text m) text) names ≡ Some name
        → list_any (is_name name) names ≡ true) → (is_name name n || list_any (is_name name) names) ≡ true
    by-test true f rest = let same : n ≡ name = cc in rw (same, is-itself name) refl
    by-test false f rest = rw (rest f) (or-true (is_name name n))

pub named_listed : (b : BlkState) (text : List ℕ) (name : BlkName) → blk_named (Some b) text ≡ Some name
    → is_listed b name ≡ true
named_listed b text name e = found_any text (names_of b) name e
