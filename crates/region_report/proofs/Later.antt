-- A record that is newer than the one held leaves no other newer
use Rattle.std.proofs.Common.{◌≡◌, ℕ, Bool, true, false, ◌||◌, List, [], ◌∷◌, ◌++◌, ◌⊎◌, ◌+◌, inl, inr, take, subst}
use Rattle.std.proofs.Common.{refl, ap, ap₂, sym, ◌∙◌, arith, Option, Some, None}
use Rattle.std.specs.Prelude.{slice_get, IsSome, IfSome, get_or, if◌then◌else◌}
use Rattle.std.specs.Option.{option_copied}
use Rattle.std.specs.Borrow.{Bor}
use Rattle.std.proofs.lemmas.Option.{slice_get_within, slice_get-get_or}
use Rattle.std.proofs.lemmas.List.Folds.{list_any-append}
use Rattle.pstore_records.proofs.Steps.{item-at}
use Rattle.std.specs.List.{list_any}
use Rattle.std.proofs.lemmas.List.Sums.{fold_more}
use Rattle.std.proofs.lemmas.Bool.Decides.{nat_tests}
use Rattle.zone_spec.specs.declared.Time.{Time}
use Rattle.ramoops_layout.proofs.Faultless.{or_clear}
use Rattle.report_spec.specs.Packed.{RecordShown}
use Rattle.report_spec.specs.Newest.{is_later, later_than, is_newer, newer_of, newest}

no-later : (t s u : Time) → is_later t u ≡ false → is_later s u ≡ true → is_later t s ≡ false
no-later t s u e f = grind (arith, nat_tests, e, f)

none-later : (a b c : Option Time) → later_than a c ≡ false → later_than b c ≡ true → later_than a b ≡ false
none-later None b c e f = refl
none-later (Some t) None c e f = cc
none-later (Some t) (Some s) None e f = cc
none-later (Some t) (Some s) (Some u) e f = no-later t s u e f

not-itself : (a : Option Time) → later_than a a ≡ false
not-itself None = refl
not-itself (Some t) = grind (arith, nat_tests)

pub none-newer : (x : RecordShown) (held : Option RecordShown) (rs : List RecordShown) → is_newer x held ≡ true
    → list_any (λ r. is_newer r held) rs ≡ false → list_any (λ r. is_newer r (Some x)) rs ≡ false
none-newer x held [] f e = refl
none-newer x held (r ∷ rs) f e =
    let both = or_clear (is_newer r held) (list_any (λ q. is_newer q held) rs) e in
    ap₂ (λ (a b : Bool). a || b) (none-later r.time x.time _ both.0 f) (none-newer x held rs f both.1)

pub not-newer : (x : RecordShown) → is_newer x (Some x) ≡ false
not-newer x = not-itself x.time

-- one record more, which is held where it is newer
pub newest-more : (records : List RecordShown) (i : ℕ) (x : RecordShown) (old new : Option RecordShown)
    → slice_get records i ≡ Some x → list_any (λ r. is_newer r old) (take i records) ≡ false
    → ((is_newer x old ≡ true) × (new ≡ Some x)) ⊎ ((is_newer x old ≡ false) × (new ≡ old))
    → list_any (λ r. is_newer r new) (take (i + 1) records) ≡ false
newest-more records i x old new at was how =
    let here = item-at records i (slice_get_within records i x at) in
    let same : Some here.item ≡ Some x = sym here.here ∙ at in
    let own : here.item ≡ x = cc in
    let more : take (i + 1) records ≡ take i records ++ x ∷ [] =
    here.more ∙ ap (λ (y : RecordShown). take i records ++ y ∷ []) own in
    let both : (held : Option RecordShown) → list_any (λ r. is_newer r held) (take i records) ≡ false
    → is_newer x held ≡ false → list_any (λ r. is_newer r held) (take (i + 1) records) ≡ false =
    λ held front last. ap (list_any (λ r. is_newer r held)) more
    ∙ list_any-append (λ r. is_newer r held) (take i records) (x ∷ [])
    ∙ ap₂ (λ (a b : Bool). a || (b || false)) front last in
    elim how [
      | inl h ↦ subst (λ (held : Option RecordShown). list_any (λ r. is_newer r held) (take (i + 1) records) ≡ false)
          (sym h.1) (both (Some x) (none-newer x old (take i records) h.0 was) (not-newer x))
      | inr h ↦ subst (λ (held : Option RecordShown). list_any (λ r. is_newer r held) (take (i + 1) records) ≡ false)
          (sym h.1) (both old was h.0)
    ]

-- the newest of one record more
pub newest-held : (records : List RecordShown) (i : ℕ) (x : RecordShown) (old new : Option RecordShown)
    → slice_get records i ≡ Some x → old ≡ newest (take i records)
    → ((is_newer x old ≡ true) × (new ≡ Some x)) ⊎ ((is_newer x old ≡ false) × (new ≡ old))
    → new ≡ newest (take (i + 1) records)
newest-held records i x old new at was how =
    let within = slice_get_within records i x at in
    let own : Some (get_or records i x) ≡ Some x = sym (slice_get-get_or records i x within) ∙ at in
    let same : get_or records i x ≡ x = cc in
    let step : newest (take (i + 1) records) ≡ newer_of old x =
    fold_more newer_of None records i x within ∙ ap₂ newer_of (sym was) same in
    elim how [
      | inl h ↦ h.1 ∙ sym (step ∙ ap (λ (b : Bool). if b then Some x else old) h.0)
      | inr h ↦ h.1 ∙ sym (step ∙ ap (λ (b : Bool). if b then Some x else old) h.0)
    ]

time-of : (a b : Option Time) → later_than a b ≡ true → IsSome a
time-of None b e = cc
time-of (Some t) b e = refl

-- a newer record has a time
pub newer-dated : (x : RecordShown) (old : Option RecordShown) → is_newer x old ≡ true → IsSome x.time
newer-dated x old e = time-of x.time _ e

pub dated-held : (held : Option (Bor RecordShown)) (x : RecordShown) → option_copied held ≡ Some x → IsSome x.time
    → IfSome held (λ r. IsSome r.now.time)
dated-held None x e h = tt
dated-held (Some b) x e h = let same : b.now ≡ x = cc in subst (λ (r : RecordShown). IsSome r.time) (sym same) h
