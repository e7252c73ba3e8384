-- An append without parity, handed out whole, is at its end
use Rattle.std.proofs.Common.{◌≡◌, ℕ, ◌<◌, ◌≤◌, List, length, refl, sym, ap, ◌∙◌, subst}
use Rattle.std.proofs.Common.{inl, inr, append-nil, arith}
use Rattle.std.proofs.lemmas.List.{nil_from_length}
use Rattle.zone_spec.specs.declared.Zone.{Zone}
use Rattle.zone_spec.specs.declared.CallKind.{CallKind}
use Rattle.zone_spec.specs.declared.CallKind.TheVariants.{Append as AppendKind}
use Rattle.zone_spec.specs.Told.{Call, Append, last_items}
use Rattle.zone_spec.specs.Zones.{IsValidZone}
use Rattle.zone_spec.specs.Stores.{Store, after_stores}
use Rattle.zone_spec.specs.Stages.{stores_in_turn}
use Rattle.zone_spec.specs.Calls.{call_stores, call_stages, IsUnderway}
use Rattle.store_steps.specs.Calls.{call_of, IsOpenFor}
use Rattle.store_steps.specs.Machine.{IsKept, StandsFor, stores_left}
use Rattle.store_steps.specs.Counts.{total_of}
use Rattle.store_steps.specs.Flying.{flying}
use Rattle.store_steps.specs.PlainAppends.{plain_stores}
use Rattle.store_steps.specs.Whole.{whole_handed, IsWholeInside, TakesWhole}
use Rattle.store_steps.specs.declared.place.Phase.TheVariants.{Finished}
use Rattle.store_steps.specs.declared.plain.Whole.{Whole}
use Rattle.store_steps.specs.declared.steps.Steps.{Steps}
use Rattle.store_steps.proofs.StoresLeft.{counted}
use Rattle.store_steps.proofs.PlainStores.{call_is_plain, total_is_plain}

some_block : (z : Zone) → IsValidZone z → 0 < z.block
some_block z valid = elim valid.block [
  | inl a ↦ omega (arith, a)
  | inr b ↦ elim b [ inl c ↦ omega (arith, c) | inr d ↦ omega (arith, d) ]
]

-- before the first store the image is that before the call
untouched : (z : Zone) (call : Call) (before now : List ℕ) (made : ℕ) (left : List Store) → made ≡ 0
    → IsUnderway z call before now made left → now ≡ before
unfolding after_stores
untouched z call before now made left none u =
    u.image ∙ ap (after_stores before) (nil_from_length u.done (omega (arith, none, u.count)))

-- the steps at their end
abbrev pub ended : Steps → ℕ → Steps
ended s count = record s { made = count; place = record s.place { phase = Finished; number = 0 } }

module _ (s : Steps) (line payload : List ℕ) (w : Whole) (was : IsKept (flying s line payload))
    (kind : s.kind ≡ AppendKind) (parity : s.zone.parity ≡ 0)
    (stores : whole_handed w payload
    ≡ plain_stores s.zone s.words.start s.words.size (last_items s.zone.cap payload)) where
  is_append : call_of s.kind line payload ≡ Append payload
  is_append = ap (λ (k : CallKind). call_of k line payload) kind

  below : s.words.start < s.zone.cap
  below =
      let open_for = subst (λ (k : Call). IsOpenFor k s.words s.zone.cap) is_append was.is_open in
      open_for.0

  pub total : total_of (flying s line payload) ≡ length (whole_handed w payload)
  total =
      ap (λ (k : Call). counted s.zone (call_stages s.zone s.words k)) is_append
      ∙ total_is_plain s.zone s.words payload parity (some_block s.zone was.sound.valid) below
      ∙ sym (ap length stores)

  all : (now before : List ℕ) → StandsFor (flying s line payload) now before
      → call_stores s.zone (call_of s.kind line payload) before ≡ whole_handed w payload
  all now before st =
      ap (λ (k : Call). call_stores s.zone k before) is_append
      ∙ call_is_plain s.zone s.words payload before parity st.words
      ∙ sym stores

module _ (s : Steps) (line payload : List ℕ) (w : Whole) (count most : ℕ) (was : IsKept (flying s line payload))
    (kind : s.kind ≡ AppendKind) (parity : s.zone.parity ≡ 0) (none : s.made ≡ 0)
    (stores : whole_handed w payload
    ≡ plain_stores s.zone s.words.start s.words.size (last_items s.zone.cap payload))
    (inside : IsWholeInside s.zone.size w payload) (counts : count ≡ length (whole_handed w payload))
    (few : count ≤ most) where
  of_all : total_of (flying s line payload) ≡ length (whole_handed w payload)
  of_all = total s line payload w was kind parity stores

  at_end : IsKept (flying (ended s count) line payload)
  at_end = record {
    sound = record {
      valid = was.sound.valid;
      below = was.sound.below;
      fits = was.sound.fits;
      short = was.sound.short;
      line = was.sound.line;
      number = omega arith;
      within = tt;
    };
    placed = was.placed;
    ring = was.ring;
    is_open = was.is_open;
    ready = inl refl;
    counted = omega (arith, counts, of_all);
    small = was.small;
  }

  stands : (now before : List ℕ) → StandsFor (flying s line payload) now before
      → StandsFor (flying (ended s count) line payload) (after_stores now (whole_handed w payload)) before
  unfolding stores_left stores_in_turn
  stands now before st =
      let ss : List Store = whole_handed w payload in
      let same = untouched s.zone (call_of s.kind line payload) before now s.made
      (stores_left (flying s line payload) now) none st.underway in
      record {
        words = st.words;
        underway = record {
          done = ss;
          whole = all s line payload w was kind parity stores now before st ∙ sym (append-nil ss);
          image = ap (λ x. after_stores x ss) same;
          count = counts;
        };
        total = st.total;
      }

  pub taken_whole : TakesWhole (flying s line payload) (flying (ended s count) line payload) w payload most
  taken_whole = record {
    kept = at_end;
    same = record { zone = refl; words = refl; call = refl };
    fresh = none;
    made = counts ∙ sym of_all;
    few = omega (arith, few, counts, of_all);
    count = sym of_all;
    inside = inside;
    stores = λ now before st. sym (all s line payload w was kind parity stores now before st);
    stands = λ now before st. stands now before st;
  }
