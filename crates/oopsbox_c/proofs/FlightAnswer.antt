-- An answer that was gathered is that of the next stores
use Rattle.std.proofs.Common.{◌≡◌, ℕ, ◌+◌, ◌<◌, ◌≤◌, ◌⊎◌, ◌↔◌, List, [], refl, sym, ap, ◌∙◌, subst, arith}
use Rattle.std.proofs.Common.{inl, inr}
use Rattle.zone_spec.specs.Parts.{AreBytes}
use Rattle.zone_spec.specs.Stores.{after_stores}
use Rattle.store_steps.specs.declared.steps.Steps.{Steps}
use Rattle.store_steps.specs.declared.place.Phase.{Phase}
use Rattle.store_steps.specs.declared.place.Phase.TheVariants.{ZeroStart, ZeroSize, Size, Start, First, FirstParity}
use Rattle.store_steps.specs.declared.place.Phase.TheVariants.{Second, SecondParity, Header, Finished}
use Rattle.store_steps.specs.Flying.{Flying, flying, IsSameCall}
use Rattle.store_steps.specs.Machine.{IsKept, IsParity, IsSameData, IsAlike, StandsFor}
use Rattle.store_steps.specs.Counts.{total_of}
use Rattle.store_steps.proofs.FlightSteps.{ends, total_same}
use Rattle.oopsbox_c.specs.Places.{IsPlace}
use Rattle.oopsbox_c.specs.Stores.{stores_in, AreInside}
use Rattle.oopsbox_c.proofs.NextStores.{nothing_yet}
use Rattle.oopsbox_c.specs.Gathered.{IsGathered, HasGone}
use Rattle.oopsbox_c.specs.Flights.{steps_of, flight_in, IsFlight, IsNext}
use Rattle.oopsbox_c.specs.declared.flights.Flight.{Flight}
use Rattle.oopsbox_c.specs.declared.stores.Stores.{Stores}

pub parity_or_not : (p : Phase) → IsParity p ⊎ (IsParity p → ⊥)
parity_or_not ZeroStart = inr (λ h. h)
parity_or_not ZeroSize = inr (λ h. h)
parity_or_not Size = inr (λ h. h)
parity_or_not Start = inr (λ h. h)
parity_or_not First = inr (λ h. h)
parity_or_not FirstParity = inl tt
parity_or_not Second = inr (λ h. h)
parity_or_not SecondParity = inl tt
parity_or_not Header = inl tt
parity_or_not Finished = inr (λ h. h)

pub no_less : {s t : Steps} {o a : Stores} → HasGone s t o a → s.made ≤ t.made
no_less (inl same) = let e = ap (λ (x : Steps). x.made) same.0 in omega (arith, e)
no_less (inr l) = omega (arith, l)

-- the same number of stores: nothing was taken
pub none_taken : {s t : Steps} {o a : Stores} → HasGone s t o a → t.made ≡ s.made → a ≡ o
none_taken (inl same) e = same.1
none_taken (inr l) e = absurd (omega (arith, l, e))

-- what is taken of parities and then of data is gathered to each image to which the same stores come next
pub gathered : (s p t : Steps) (none middle out : Stores) (image line payload : List ℕ) → IsKept (flying s line payload)
    → stores_in none line payload ≡ [] → AreInside s.zone.size none line payload → AreBytes image
    → ((f : Flying) (now : List ℕ) → IsSameData s.zone now image → IsGathered f now line payload s none
    → IsGathered f now line payload p middle)
    → ((IsParity s.place.phase → ⊥) → (p ≡ s) × (middle ≡ none))
    → ((f : Flying) (now : List ℕ) → IsGathered f now line payload p middle → IsGathered f now line payload t out)
    → (now : List ℕ) → IsAlike (flying s line payload) image now
    → IsGathered (flying s line payload) now line payload t out
gathered s p t none middle out image line payload kept empty inside bytes parities idle rest now alike =
    let f : Flying = flying s line payload in
    let begun = nothing_yet now line payload s none kept empty inside (alike.bytes bytes) in
    rest f now (elim (parity_or_not s.place.phase) [
      | inl is ↦ parities f now (alike.parity is) begun
      | inr not ↦ subst (λ (x : Steps). IsGathered f now line payload x middle) (sym (idle not).0)
          (subst (λ (o : Stores). IsGathered f now line payload s o) (sym (idle not).1) begun)
    ])

-- the flight is that of the steps
pub record IsOf (f g : Flight) (t : Steps) : Type 0 where
  pub steps : steps_of g ≡ t
  pub zone : g.zone ≡ f.zone
  pub line : g.line ≡ f.line
  pub payload : g.payload ≡ f.payload
  pub kind : g.kind ≤ 2
  pub leg : g.leg ≤ 3
  pub phase : g.phase ≤ 9

module _ (f g : Flight) (image line payload : List ℕ) (most last : ℕ) (t : Steps) (out : Stores) where
  pub answered : IsFlight f line payload
      → ((now : List ℕ) → IsAlike (flight_in f line payload) image now
      → IsGathered (flight_in f line payload) now line payload t out) → IsOf f g t
      → last ≤ 1 → ((last ≡ 1) ↔ (t.place.phase ≡ Finished)) → t.made ≤ f.made + most
      → (f.made < total_of (flight_in f line payload) → f.made < t.made) → (t.made ≡ f.made → out.count ≡ 0)
      → (f.made + most ≤ t.made) ⊎ (4 ≤ out.count) ⊎ IsParity t.place.phase ⊎ (t.place.phase ≡ Finished)
      → IsNext f g image line payload most (record out { is_last = last })
  answered was by of flag is_last at_most some none stops =
      let got = by image (record { bytes = λ h. h; parity = λ _. refl }) in
      let made : g.made ≡ t.made = ap (λ (x : Steps). x.made) of.steps in
      let total : total_of (flying t line payload) ≡ total_of (flight_in f line payload) = total_same got.same in
      let end = ends (flying t line payload) got.kept in
      record {
        flight = record {
          place = subst IsPlace (sym of.zone) was.place;
          kind = of.kind;
          leg = of.leg;
          phase = of.phase;
          line_len = of.line ∙ was.line_len;
          payload_len = of.payload ∙ was.payload_len;
          short = was.short;
          kept = subst (λ x. IsKept (flying x line payload)) (sym of.steps) got.kept;
        };
        zone = of.zone;
        same = subst (λ x. IsSameCall (flight_in f line payload) (flying x line payload)) (sym of.steps) got.same;
        made = made ∙ got.made;
        at_most = omega (arith, got.made, at_most);
        some = λ h. omega (arith, got.made, some h);
        inside = record { count = got.inside.count; rows = got.inside.rows };
        handed = λ now before alike. (by now alike).handed before;
        stands = λ now before alike st. subst (λ x. StandsFor (flying x line payload)
            (after_stores now (stores_in out line payload)) before) (sym of.steps) ((by now alike).stands before st);
        none = λ h. none (omega (arith, h, got.made, got.kept.counted, total));
        is_last = (
          λ e. made ∙ end.0 (is_last.0 e) ∙ total,
          λ e. is_last.1 (end.1 (sym made ∙ e ∙ sym total)),
        );
        flag = flag;
        stops = elim stops [
          | inl m ↦ inl (omega (arith, got.made, m))
          | inr a ↦ elim a [
            | inl c ↦ inr (inl (omega (arith, c, got.inside.count)))
            | inr b ↦ elim b [
              | inl p ↦ inr (inr (inl (subst (λ (x : Steps). IsParity x.place.phase) (sym of.steps) p)))
              | inr d ↦ inr (inr (inr (is_last.1 d)))
            ]
          ]
        ];
      }
