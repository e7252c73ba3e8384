-- What is kept of zones
use Rattle.std.proofs.Common.{◌≡◌, ℕ, ◌<◌, Bool, true, false, ◌==◌, List, length, get_or, set, Option, Some, None, refl, sym, ap}
use Rattle.std.proofs.Common.{◌∙◌, subst, arith, replicate}
use Rattle.std.specs.Prelude.{slice_get, unwrap_or}
use Rattle.std.proofs.lemmas.Bool.{eqb-true, eqb-false}
use Rattle.std.proofs.lemmas.Option.{slice_get_within, get_or_from_slice_get, slice_get-get_or}
use Rattle.std.proofs.lemmas.List.{get_or-replicate, length-replicate, get_or-set_other, length-set}
use Rattle.std.proofs.lemmas.Grind.{get_or-set_at}
use Rattle.layout_spec.specs.Marks.{byte_order_in}
use Rattle.layout_search.specs.Looks.{IsLook}
use Rattle.layout_search.specs.Sights.{AreSeen}
use Rattle.layout_search.specs.declared.sights.Sight.{Sight}
use Rattle.layout_search.specs.declared.sights.Sights.{Sights}

-- where no slot holds a zone
pub none_seen : (image : List ℕ) (n : ℕ) (sights : Sights) → sights.byte_order ≡ byte_order_in image
    → sights.slots.items ≡ replicate n None → AreSeen image sights
none_seen image n sights o e = record {
  byte_order_is = o;
  all = λ i sight h.
      let none : Option Sight = None in
      let xs : List (Option Sight) = replicate n none in
      let here : slice_get xs i ≡ Some (Some sight) =
      subst (λ (ys : List (Option Sight)). slice_get ys i ≡ Some (Some sight)) e h in
      let inside : i < n = omega (arith, slice_get_within xs i (Some sight) here, length-replicate n none) in
      let never : ◌≡◌ {A = Option Sight} None (Some sight) =
      sym (get_or-replicate n i none none inside) ∙ get_or_from_slice_get xs i (Some sight) none here in absurd cc;
}

-- one slot holds another zone
pub one_more_seen : (image : List ℕ) (old new : Sights) (place : ℕ) (sight : Sight) → place < length old.slots.items
    → new.slots.items ≡ set old.slots.items place (Some sight) → new.byte_order ≡ old.byte_order
    → IsLook image sight.zone sight.look → AreSeen image old → AreSeen image new
one_more_seen image old new place sight inside e o look seen = record {
  byte_order_is = o ∙ seen.byte_order_is;
  all = λ i s h. step i s h (i == place) refl;
}
  where
    by_place : (i : ℕ) (s : Sight) (b : Bool) → (i == place) ≡ b
        → get_or (set old.slots.items place (Some sight)) i None ≡ Some s → i < length old.slots.items
        → IsLook image s.zone s.look
    by_place i s true is at within =
        let same : ◌≡◌ {A = Option Sight} (Some sight) (Some s) =
        sym (get_or-set_at old.slots.items place i (Some sight) None (eqb-true i place is) inside) ∙ at in
        subst (λ (s : Sight). IsLook image s.zone s.look) (ap (λ (o : Option Sight). unwrap_or o sight) same) look
    by_place i s false is at within =
        let other : get_or old.slots.items i None ≡ Some s =
        sym (get_or-set_other old.slots.items place i (Some sight) None (eqb-false i place is)) ∙ at in
        seen.all i s (slice_get-get_or old.slots.items i None within ∙ ap Some other)

    step : (i : ℕ) (s : Sight) → slice_get new.slots.items i ≡ Some (Some s) → (b : Bool) → (i == place) ≡ b
        → IsLook image s.zone s.look
    step i s h b is =
        let none : Option Sight = None in
        let some : Option Sight = Some sight in
        let xs : List (Option Sight) = old.slots.items in
        let there : slice_get (set xs place some) i ≡ Some (Some s) =
        subst (λ (ys : List (Option Sight)). slice_get ys i ≡ Some (Some s)) e h in
        let at : get_or (set xs place some) i none ≡ Some s =
        get_or_from_slice_get (set xs place some) i (Some s) none there in
        let within : i < length xs =
        omega (arith, slice_get_within (set xs place some) i (Some s) there, length-set xs place some) in
        by_place i s b is at within
