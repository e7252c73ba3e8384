-- What the front of an image shows, or how sizes divide it. For `shown_storage` and `divided_storage`.
use Rattle.std.proofs.Common.{◌≡◌, ◌∙◌, ◌≤◌, List, ℕ, Option, Some, None, length, take, ap, ap₂, refl, sym}
use Rattle.std.proofs.Common.{subst, false}
use Rattle.std.specs.Prelude.{IfSome, Ok, Err}
use Rattle.std.proofs.lemmas.List.{length-take-le}
use Rattle.psz_spec.specs.declared.Machine.{Machine}
use Rattle.psz_spec.specs.declared.Sizes.{Sizes}
use Rattle.psz_spec.specs.declared.SizeFault.{SizeFault}
use Rattle.psz_spec.specs.Layouts.{size_fault}
use Rattle.psz_spec.specs.Marks.{order_in, marks_in}
use Rattle.storage_spec.specs.declared.Storage.{Storage}
use Rattle.storage_spec.specs.Found.{front_of, machine_of, storage_in}
use Rattle.storage_words.specs.Division.{sized, storage_given, ok_unless, storage_of}
use Rattle.storage_report.specs.declared.scanning.Seen.{Seen}
use Rattle.storage_report.specs.declared.storage.HeldStorage.{HeldStorage}
use Rattle.storage_report.specs.Scans.{machine_by}
use Rattle.storage_report.specs.Held.{ShowsTheSame, IsHeld, IsDividedBy}

-- ---- by sizes that are given

faulty : (sizes : Sizes) (bytes : List ℕ) (fault : Option SizeFault) (machine : Machine)
    → size_fault (sized (length bytes) sizes) ≡ fault → machine ≡ machine_of bytes
    → storage_of sizes bytes ≡ ok_unless fault (storage_given (sized (length bytes) sizes) machine)
unfolding storage_of
faulty sizes bytes fault machine e m =
    ap₂ (λ (f : Option SizeFault) (x : Machine). ok_unless f (storage_given (sized (length bytes) sizes) x)) e (sym m)

pub undivided_at : (holds : Option (List ℕ)) (sizes : Sizes) (total : ℕ) (s : Sizes) (fault : SizeFault)
    → s ≡ sized total sizes → IfSome holds (λ image. total ≤ length image)
    → IfSome holds (λ image. take total image ≡ front_of image) → size_fault s ≡ Some fault
    → IfSome holds (λ image. storage_of sizes (front_of image) ≡ Err fault)
undivided_at None sizes total s fault is fits front e = tt
undivided_at (Some image) sizes total s fault is fits front e =
    let len : length (take total image) ≡ total = length-take-le total image fits in
    let of : storage_of sizes (take total image) ≡ Err fault =
    faulty sizes (take total image) (Some fault) (machine_of (take total image))
    (ap (λ (n : ℕ). size_fault (sized n sizes)) len ∙ sym (ap size_fault is) ∙ e) refl in
    subst (λ (bytes : List ℕ). storage_of sizes bytes ≡ Err fault) front of

abbrev given : Sizes → Machine → Storage
given s machine = record { sizes = s; machine = machine; tied = false }

pub divided_at : (holds : Option (List ℕ)) (sizes : Sizes) (total : ℕ) (s : Sizes) (machine : Machine)
    (h : HeldStorage) → s ≡ sized total sizes → IfSome holds (λ image. total ≤ length image)
    → IfSome holds (λ image. take total image ≡ front_of image) → size_fault s ≡ None
    → IfSome holds (λ image. machine ≡ machine_of (take total image)) → h.storage ≡ given s machine
    → IfSome holds (λ image. ShowsTheSame (given s machine) (take total image) h.bytes.items)
    → IfSome holds (λ image. IsDividedBy sizes (front_of image) h)
divided_at None sizes total s machine h is fits front e of storage shows = tt
divided_at (Some image) sizes total s machine h is fits front e of storage shows =
    let len : length (take total image) ≡ total = length-take-le total image fits in
    let same : sized (length (take total image)) sizes ≡ s = ap (λ (n : ℕ). sized n sizes) len ∙ sym is in
    let divided : storage_of sizes (take total image) ≡ Ok h.storage =
    faulty sizes (take total image) None machine (ap size_fault same ∙ e) of
    ∙ ap (λ (x : Sizes). ok_unless None (given x machine)) same
    ∙ ap (λ (x : Storage). ok_unless None x) (sym storage) in
    subst (λ (bytes : List ℕ). IsDividedBy sizes bytes h) front (record {
      divided = divided;
      same = subst (λ (x : Storage). ShowsTheSame x (take total image) h.bytes.items) (sym storage) shows;
    })

-- ---- by the headers

pub found_at : (holds : Option (List ℕ)) (total : ℕ) (seen : Seen) (o : Option Storage)
    → IfSome holds (λ image. total ≤ length image) → IfSome holds (λ image. take total image ≡ front_of image)
    → IfSome holds (λ image. machine_by seen.order seen.shown ≡ machine_of (take total image))
    → IfSome holds (λ image. seen.marks.items ≡ marks_in (order_in (take total image)) (take total image))
    → ((image : List ℕ) → total ≡ length image → machine_by seen.order seen.shown ≡ machine_of image
    → seen.marks.items ≡ marks_in (order_in image) image → o ≡ storage_in image)
    → IfSome holds (λ image. o ≡ storage_in (front_of image))
found_at None total seen o fits front machine marks is = tt
found_at (Some image) total seen o fits front machine marks is =
    is (take total image) (sym (length-take-le total image fits)) machine marks ∙ ap storage_in front

pub none_at : (holds : Option (List ℕ)) (o : Option Storage) → o ≡ None
    → IfSome holds (λ image. o ≡ storage_in (front_of image)) → IsHeld holds None
none_at None o e is = tt
none_at (Some image) o e is = sym is ∙ e

pub shown_at : (holds : Option (List ℕ)) (total : ℕ) (o : Option Storage) (storage : Storage) (h : HeldStorage)
    → o ≡ Some storage → IfSome holds (λ image. o ≡ storage_in (front_of image))
    → IfSome holds (λ image. take total image ≡ front_of image) → h.storage ≡ storage
    → IfSome holds (λ image. ShowsTheSame storage (take total image) h.bytes.items) → IsHeld holds (Some h)
shown_at None total o storage h e is front same shows = tt
shown_at (Some image) total o storage h e is front same shows = record {
  shown = sym is ∙ e ∙ ap (λ (s : Storage). Some s) (sym same);
  same = subst (λ (bytes : List ℕ). ShowsTheSame h.storage bytes h.bytes.items) front
      (subst (λ (s : Storage). ShowsTheSame s (take total image) h.bytes.items) (sym same) shows);
}
