-- The listed record of a name has that name. For the functions that show or write a record by its name.
use Rattle.std.proofs.Common.{◌≡◌, ℕ, Bool, true, false, not, List, [], ◌∷◌, refl, sym, ap, ◌∙◌, Some}
use Rattle.std.specs.Prelude.{filter, ◌==◌, if◌then◌else◌}
use Rattle.std.proofs.lemmas.Bool.{and_parts}
use Rattle.std.proofs.lemmas.Bool.Decides.{Decides-eqb}
use Rattle.zone_spec.specs.declared.Name.{Name}
use Rattle.zone_spec.specs.declared.Name.TheVariants.{Dump as DumpName, Console as ConsoleName, Pmsg as PmsgName}
use Rattle.zone_spec.specs.declared.Name.TheVariants.{Ftrace as FtraceName}
use Rattle.zone_spec.specs.Names.{is_name}
use Rattle.zone_spec.specs.Records.{Saved, Listed, listed_of, first_listed, record_of}

-- two names that are the same
pub same-name : (a b : Name) → is_name a b ≡ true → a ≡ b
same-name (DumpName i p) (DumpName j q) e = let parts = and_parts (i == j) (if p then q else not q) e in
    same-dump i j p q ((Decides-eqb i j).0 parts.0) parts.1
  where
    same-dump : (i j : ℕ) (p q : Bool) → i ≡ j → (if p then q else not q) ≡ true → DumpName i p ≡ DumpName j q
    same-dump i j true true e h = ap (λ k. DumpName k true) e
    same-dump i j true false e h = cc
    same-dump i j false true e h = cc
    same-dump i j false false e h = ap (λ k. DumpName k false) e
same-name (DumpName i p) ConsoleName e = cc
same-name (DumpName i p) PmsgName e = cc
same-name (DumpName i p) FtraceName e = cc
same-name ConsoleName (DumpName j q) e = cc
same-name ConsoleName ConsoleName e = refl
same-name ConsoleName PmsgName e = cc
same-name ConsoleName FtraceName e = cc
same-name PmsgName (DumpName j q) e = cc
same-name PmsgName ConsoleName e = cc
same-name PmsgName PmsgName e = refl
same-name PmsgName FtraceName e = cc
same-name FtraceName (DumpName j q) e = cc
same-name FtraceName ConsoleName e = cc
same-name FtraceName PmsgName e = cc
same-name FtraceName FtraceName e = refl

passes-first : (p : Listed → Bool) (x r : Listed) (rs : List Listed) (b : Bool) → p x ≡ b
    → (first_listed rs ≡ Some r → p r ≡ true) → first_listed (if b then x ∷ rs else rs) ≡ Some r → p r ≡ true
passes-first p x r rs true passes rest e = let same : x ≡ r = cc in ap p (sym same) ∙ passes
passes-first p x r rs false other rest e = rest e

first-passes : (p : Listed → Bool) (rs : List Listed) (r : Listed) → first_listed (filter p rs) ≡ Some r → p r ≡ true
first-passes p [] r e = cc
first-passes p (x ∷ rs) r e = passes-first p x r (filter p rs) (p x) refl (first-passes p rs r) e

pub record-name : (zones : List Saved) (name : Name) (r : Listed) → record_of zones name ≡ Some r → r.name ≡ name
record-name zones name r e = same-name r.name name (first-passes (λ (l : Listed). is_name l.name name)
    (listed_of zones) r e)
