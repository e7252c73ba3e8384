-- The newest of the other records that tell, one record after another. For `told_before`.
use Rattle.std.proofs.Common.{◌≡◌, ℕ, ◌+◌, ◌<◌, Bool, true, false, cond, List, [], ◌∷◌, ◌++◌, length, take, get_or}
use Rattle.std.proofs.Common.{Option, Some, None, refl, sym, ap, ◌∙◌, subst}
use Rattle.std.specs.Prelude.{filter, fold, if◌then◌else◌}
use Rattle.std.specs.Option.{is_some, option_map, option_or}
use Rattle.std.proofs.lemmas.List.{take_more}
use Rattle.std.proofs.lemmas.List.Elements.{filter-append}
use Rattle.std.proofs.lemmas.List.Sums.{fold-append}
use Rattle.zone_spec.specs.declared.Name.{Name}
use Rattle.death_spec.specs.declared.Death.{Death}
use Rattle.death_spec.specs.Reports.{death_of}
use Rattle.report_spec.specs.Packed.{RecordShown, readable}
use Rattle.report_spec.specs.Newest.{is_newer, newer_of, newest}
use Rattle.report_spec.specs.Deaths.{DeathTold, told_by, is_same_dump, other_told}
use Rattle.report_html.specs.Before.{is_other, told_before, teller_in, newer_told}

-- what is held, of these records
pub record Held (name : Name) (held : Option DeathTold) (records : List RecordShown) : Type 0 where
  pub teller : teller_in held ≡ newest (filter (is_other name) records)
  pub told : held ≡ told_before name records

pub none-held : (name : Name) → Held name None []
none-held name = record { teller = refl; told = refl }

-- what a record tells is its own
told-own : (r : RecordShown) (d : DeathTold) → told_by (Some r) ≡ Some d → d.teller ≡ r
told-own r d e = by (death_of (readable r)) e
  where
    by : (o : Option Death) → option_map (λ (death : Death). record { teller = r; death = death }) o ≡ Some d
        → d.teller ≡ r
    by None e = cc
    by (Some death) e =
        let own : DeathTold = record { teller = r; death = death } in
        let same : own ≡ d = cc in
        sym (ap (λ (t : DeathTold). t.teller) same)

abbrev IsOwn : RecordShown → DeathTold → Type 0
IsOwn r d = (d.teller ≡ r) × (told_by (Some r) ≡ Some d)

other-own : (name : Name) (r : RecordShown) (d : DeathTold) → other_told name r ≡ Some d → IsOwn r d
other-own name r d e = by (is_same_dump name r.name) e
  where
    by : (t : Bool) → (if t then None else told_by (Some r)) ≡ Some d → IsOwn r d
    by true e = cc
    by false e = (told-own r d e, e)

-- the newest after one record more, by whether it is newer and whether it tells
abbrev after : (newer tells : Bool) → RecordShown → Option RecordShown → Option RecordShown
after newer tells x held = if tells then (if newer then Some x else held) else held

fold-one : (x : RecordShown) (held : Option RecordShown) (newer tells : Bool) → is_newer x held ≡ newer
    → fold newer_of held (cond tells (x ∷ []) []) ≡ after newer tells x held
fold-one x held newer true e = ap (λ (t : Bool). if t then Some x else held) e
fold-one x held newer false e = refl

pub record Agrees (new : Option DeathTold) (held : Option RecordShown) : Type 0 where
  pub teller : teller_in new ≡ held
  pub told : new ≡ told_by held

agree : (x : RecordShown) (old : Option DeathTold) (newer : Bool) (o : Option DeathTold)
    → ((d : DeathTold) → o ≡ Some d → IsOwn x d) → old ≡ told_by (teller_in old)
    → Agrees (if newer then option_or o old else old) (after newer (is_some o) x (teller_in old))
agree x old true (Some d) own was = record {
  teller = ap (λ (r : RecordShown). Some r) (own d refl).0;
  told = sym (own d refl).1;
}
agree x old true None own was = record { teller = refl; told = was }
agree x old false (Some d) own was = record { teller = refl; told = was }
agree x old false None own was = record { teller = refl; told = was }

step : (name : Name) (records : List RecordShown) (x : RecordShown) (old : Option DeathTold) → Held name old records
    → Held name (newer_told name old x) (records ++ x ∷ [])
step name records x old h =
    let p : RecordShown → Bool = is_other name in
    let t : Bool = is_newer x (teller_in old) in
    let o : Option DeathTold = other_told name x in
    let a : Agrees (newer_told name old x) (after t (is_some o) x (teller_in old)) =
    agree x old t o (other-own name x) (h.told ∙ ap told_by (sym h.teller)) in
    let all : newest (filter p (records ++ x ∷ [])) ≡ after t (is_some o) x (teller_in old) =
    ap newest (filter-append p records (x ∷ []))
    ∙ fold-append newer_of None (filter p records) (filter p (x ∷ []))
    ∙ ap (λ (held : Option RecordShown). fold newer_of held (filter p (x ∷ []))) (sym h.teller)
    ∙ fold-one x (teller_in old) t (is_some o) refl in
    record { teller = a.teller ∙ sym all; told = a.told ∙ ap told_by (sym all) }

-- one record more
pub next : (name : Name) (records : List RecordShown) (i : ℕ) (x : RecordShown) (old : Option DeathTold)
    → i < length records → x ≡ get_or records i x → Held name old (take i records)
    → Held name (newer_told name old x) (take (i + 1) records)
next name records i x old lt is h =
    subst (λ (rs : List RecordShown). Held name (newer_told name old x) rs)
    (sym (take_more records i x lt ∙ ap (λ (y : RecordShown). take i records ++ y ∷ []) (sym is)))
    (step name (take i records) x old h)
