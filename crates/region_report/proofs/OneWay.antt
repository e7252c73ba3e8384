-- A record is shown in one way: bytes stand for one text at most
use Rattle.std.proofs.Common.{◌≡◌, ◌∙◌, ◌≤◌, ℕ, true, false, List, length, ap, ap₂, sym, refl, arith}
use Rattle.zone_spec.specs.declared.Name.{Name}
use Rattle.zone_spec.specs.declared.Name.TheVariants.{Dump, Console, Pmsg, Ftrace}
use Rattle.zone_spec.specs.declared.Zone.{Zone}
use Rattle.inflate_laws.proofs.OneEnd.{one_text, one_fault, no_fault_behind_text, too_long_is_long}
use Rattle.inflate_spec.specs.Texts.{Inflates}
use Rattle.report_spec.specs.declared.TextFault.{TextFault}
use Rattle.report_spec.specs.declared.TextFault.TheVariants.{Broken, TooLong}
use Rattle.report_spec.specs.declared.Packing.{Packing}
use Rattle.report_spec.specs.declared.Packing.TheVariants.{Plain, Whole, Part}
use Rattle.zone_spec.specs.RecordsHeld.{RecordHeld}
use Rattle.report_spec.specs.Packed.{RecordShown, StopsAt, IsUnpacked, IsShownBy, inflated, as_it_stands, most_of}
use Rattle.region_report.specs.Laws.{OneShown}

-- a text that ends goes on past no fault, and is not too long
ends-or-stops : (bytes : List ℕ) (most : ℕ) (text : List ℕ) (taken : ℕ) (fault : TextFault) (front : List ℕ)
    → Inflates bytes text taken → length text ≤ most → StopsAt bytes most fault front → ⊥
ends-or-stops bytes most text taken (Broken f) front ends fits stops =
    no_fault_behind_text bytes text front taken f ends stops.0
ends-or-stops bytes most text taken TooLong front ends fits stops =
    let long = (too_long_is_long bytes front most stops).no_text text taken ends in absurd (omega (arith, long, fits))

one-stop : (bytes : List ℕ) (most : ℕ) (f g : TextFault) (t u : List ℕ) → StopsAt bytes most f t
    → StopsAt bytes most g u → (f ≡ g) × (t ≡ u)
one-stop bytes most (Broken f) (Broken g) t u a b =
    let same = one_fault bytes t u f g a.0 b.0 in (ap Broken same.1, same.0)
one-stop bytes most (Broken f) TooLong t u a b =
    let long = (too_long_is_long bytes u most b).no_fault t f a.0 in
    let fits = a.1 in absurd (omega (arith, long, fits))
one-stop bytes most TooLong (Broken g) t u a b =
    let long = (too_long_is_long bytes t most a).no_fault u g b.0 in
    let fits = b.1 in absurd (omega (arith, long, fits))
one-stop bytes most TooLong TooLong t u a b = (refl, (too_long_is_long bytes t most a).one u b)

one-unpacked : (most index : ℕ) (r : RecordHeld) (p q : Packing (List ℕ)) (a b : RecordShown)
    → IsUnpacked most index r p a → IsUnpacked most index r q b → a ≡ b
one-unpacked most index r Plain q a b is other = absurd is
one-unpacked most index r (Whole m) Plain a b is other = absurd other
one-unpacked most index r (Part f t) Plain a b is other = absurd other
one-unpacked most index r (Whole m) (Whole n) a b (t, ends, fits, e) (u, too, short, f) =
    let same = one_text r.content t u m n ends too in e ∙ ap₂ (inflated r index) same.0 same.1 ∙ sym f
one-unpacked most index r (Whole m) (Part f u) a b (t, ends, fits, e) (stops, g) =
    absurd (ends-or-stops r.content most t m f u ends fits stops)
one-unpacked most index r (Part f u) (Whole m) a b (stops, g) (t, ends, fits, e) =
    absurd (ends-or-stops r.content most t m f u ends fits stops)
one-unpacked most index r (Part f t) (Part g u) a b (stops, e) (too, h) =
    let same = one-stop r.content most f g t u stops too in
    e ∙ ap₂ (λ (k : TextFault) (v : List ℕ). as_it_stands r (Part k v)) same.0 same.1 ∙ sym h

one-by : (zones : List Zone) (names : List ℕ) (shift : ℕ) (name : Name) (r : RecordHeld) (a b : RecordShown)
    → IsShownBy zones names shift name r a → IsShownBy zones names shift name r b → a ≡ b
one-by zones names shift (Dump index true) r a b is other =
    one-unpacked (most_of zones index) index r a.packing b.packing a b is other
one-by zones names shift (Dump index false) r a b is other = is ∙ sym other
one-by zones names shift Console r a b is other = is ∙ sym other
one-by zones names shift Pmsg r a b is other = is ∙ sym other
one-by zones names shift Ftrace r a b is other = is ∙ sym other

pub one_shown : OneShown
one_shown zones names shift r a b is other = one-by zones names shift r.name r a b is other
