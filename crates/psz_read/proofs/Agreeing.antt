-- A copy with each zone's front and the logs of its parts lists the same. For `few_bytes_are_enough`.
use Rattle.std.proofs.Common.{◌≡◌, ℕ, refl, sym, ap, ap₂, ◌∙◌, arith, List, [], ◌∷◌, ◌++◌, map, take, Bool, true}
use Rattle.std.proofs.Common.{false}
use Rattle.std.specs.Prelude.{Option, Some, None, filter, if◌then◌else◌}
use Rattle.std.specs.List.{AllByRecursion}
use Rattle.std.proofs.lemmas.List.{map-append}
use Rattle.psz_spec.specs.declared.Kind.TheVariants.{Pmsg, Console, Ftrace, Dump}
use Rattle.psz_spec.specs.declared.Zone.{Zone}
use Rattle.psz_spec.specs.declared.Machine.{Machine}
use Rattle.psz_spec.specs.declared.Part.{Part}
use Rattle.psz_spec.specs.States.{zone_bytes}
use Rattle.psz_spec.specs.Records.{is_of, listed_in}
use Rattle.psz_spec.specs.Parts.{part_of, parts_of, as_list, of_kind, log_bytes, part_record, part_content, part_name}
use Rattle.psz_spec.specs.Parts.{content_by}
use Rattle.psz_read.specs.Laws.{ReadsTheSame}
use Rattle.psz_read.proofs.Fronts.{front_same, part_same}
use Rattle.psz_read.proofs.PartRecords.{parts_are, together}

-- a part is that of the front alone
part_by_front : (machine : Machine) (z : Zone) (a b : List ℕ) → ReadsTheSame machine z a b
    → part_of machine z (zone_bytes z a) ≡ part_of machine z (zone_bytes z b)
part_by_front machine z a b same =
    sym (part_same machine z (take 52 (zone_bytes z a)) (zone_bytes z a)
    (front_same machine 52 (zone_bytes z a) (omega arith)))
    ∙ ap (part_of machine z) same.front
    ∙ part_same machine z (take 52 (zone_bytes z b)) (zone_bytes z b)
    (front_same machine 52 (zone_bytes z b) (omega arith))

one_same : {A : Type 0} (g : List ℕ → Part → A) (a b : List ℕ)
    → ((p : Part) → log_bytes a p.log ≡ log_bytes b p.log → g a p ≡ g b p)
    → (o q : Option Part) → o ≡ q → ((p : Part) → o ≡ Some p → log_bytes a p.log ≡ log_bytes b p.log)
    → map (g a) (as_list o) ≡ map (g b) (as_list q)
one_same g a b each None q e log = ap (λ (r : Option Part). map (g b) (as_list r)) e
one_same {A} g a b each (Some p) q e log =
    ap (λ (x : A). x ∷ []) (each p (log p refl)) ∙ ap (λ (r : Option Part). map (g b) (as_list r)) e

-- those of the zones that a test takes
same_if : {A : Type 0} (t : Bool) (x y : List A) (f : List Zone → List A) (h : List Zone → List A) (z : Zone)
    (rest : List Zone) → f (z ∷ rest) ≡ x ++ f rest → h (z ∷ rest) ≡ y ++ h rest → x ≡ y → f rest ≡ h rest
    → f (if t then z ∷ rest else rest) ≡ h (if t then z ∷ rest else rest)
same_if {A} true x y f h z rest p q r s = p ∙ ap₂ (λ (i j : List A). i ++ j) r s ∙ sym q
same_if false x y f h z rest p q r s = s

kind_same : {A : Type 0} (machine : Machine) (test : Zone → Bool) (g : List ℕ → Part → A) (a b : List ℕ)
    → ((p : Part) → log_bytes a p.log ≡ log_bytes b p.log → g a p ≡ g b p) → (zones : List Zone)
    → AllByRecursion (λ (z : Zone). ReadsTheSame machine z a b) zones
    → map (g a) (parts_of machine (filter test zones) a) ≡ map (g b) (parts_of machine (filter test zones) b)
unfolding parts_of
kind_same machine test g a b each [] all = refl
kind_same {A} machine test g a b each (z ∷ zones) all =
    same_if (test z) (map (g a) (as_list (part_of machine z (zone_bytes z a))))
    (map (g b) (as_list (part_of machine z (zone_bytes z b))))
    (λ (zs : List Zone). map (g a) (parts_of machine zs a)) (λ (zs : List Zone). map (g b) (parts_of machine zs b)) z
    (filter test zones)
    (map-append (g a) (as_list (part_of machine z (zone_bytes z a))) (parts_of machine (filter test zones) a))
    (map-append (g b) (as_list (part_of machine z (zone_bytes z b))) (parts_of machine (filter test zones) b))
    (one_same g a b each (part_of machine z (zone_bytes z a)) (part_of machine z (zone_bytes z b))
    (part_by_front machine z a b all.0) all.0.log)
    (kind_same machine test g a b each zones all.1)

content_same : (a b : List ℕ) (p : Part) → log_bytes a p.log ≡ log_bytes b p.log
    → part_content a p ≡ part_content b p
content_same a b p e = ap (content_by p.header) e

record_same : (a b : List ℕ) (p : Part) → log_bytes a p.log ≡ log_bytes b p.log → part_record a p ≡ part_record b p
record_same a b p e =
    ap (λ (c : List ℕ). record { name = part_name p; logs = c ∷ []; header = p.header }) (content_same a b p e)

pub listed_same : (machine : Machine) (zones : List Zone) (a b : List ℕ)
    → AllByRecursion (λ (z : Zone). ReadsTheSame machine z a b) zones
    → listed_in machine zones a ≡ listed_in machine zones b
listed_same machine zones a b all =
    parts_are machine zones a
    ∙ together (map (part_record a) (parts_of machine (of_kind Dump zones) a))
    (map (part_record a) (parts_of machine (of_kind Pmsg zones) a))
    (map (part_record a) (parts_of machine (of_kind Console zones) a))
    (map (part_content a) (parts_of machine (of_kind Ftrace zones) a))
    (map (part_record b) (parts_of machine (of_kind Dump zones) b))
    (map (part_record b) (parts_of machine (of_kind Pmsg zones) b))
    (map (part_record b) (parts_of machine (of_kind Console zones) b))
    (map (part_content b) (parts_of machine (of_kind Ftrace zones) b))
    (kind_same machine (λ (z : Zone). is_of Dump z.kind) part_record a b (record_same a b) zones all)
    (kind_same machine (λ (z : Zone). is_of Ftrace z.kind) part_content a b (content_same a b) zones all)
    (kind_same machine (λ (z : Zone). is_of Pmsg z.kind) part_record a b (record_same a b) zones all)
    (kind_same machine (λ (z : Zone). is_of Console z.kind) part_record a b (record_same a b) zones all)
    ∙ sym (parts_are machine zones b)
