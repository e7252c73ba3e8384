-- The logs that a move carries over come to their zones in their order, at most one to a zone
use Rattle.std.proofs.Common.{◌≡◌, ℕ, zero, suc, ◌<◌, ◌≤◌, Bool, true, false, cond, List, [], ◌∷◌, ◌++◌, length, map}
use Rattle.std.proofs.Common.{slice_get, get_or, refl, sym, ap, ap₂, ◌∙◌, subst, arith, Option, Some, None, true≢false}
use Rattle.std.specs.Prelude.{flat_map}
use Rattle.std.specs.List.{AllByRecursion}
use Rattle.std.specs.Option.{option_and_then}
use Rattle.std.proofs.lemmas.List.Quantifiers.{position-Some}
use Rattle.std.proofs.lemmas.Option.{slice_get-get_or}
use Rattle.zone_spec.specs.declared.Zone.{Zone}
use Rattle.zone_spec.specs.declared.ZoneName.{ZoneName}
use Rattle.zone_spec.specs.declared.Kind.{Kind}
use Rattle.zone_spec.specs.declared.State.{State}
use Rattle.zone_spec.specs.declared.State.TheVariants.{Unsigned, Empty, Invalid, Found}
use Rattle.zone_spec.specs.Reading.{ZoneReading}
use Rattle.zone_spec.specs.Records.{Saved, is_of, found_in, found}
use Rattle.zone_spec.specs.Layouts.{is_zone, zone_place}
use Rattle.machine_spec.specs.Moved.{zone_named, has_room, record_name, is_fit, kept_if, fitting, found_of}
use Rattle.move_laws.specs.Listed.{AreNamed, HaveBytes, IsOfBytes, ComeInOrder, named, named_of, IsOneLog}
use Rattle.move_laws.specs.Listed.{FittingTakesInOrder}
use Rattle.move_laws.proofs.Fits.{same_kind, kind_itself, same_name, room_is}

-- ---- lists

-- two lists that differ by what stands at one place
insert_at : {X : Type 0} (zs : List Zone) (i : ℕ) (z : Zone) (f g : Zone → List X) (x : X) → slice_get zs i ≡ Some z
    → ((j : ℕ) (y : Zone) → slice_get zs j ≡ Some y → j < i → (f y ≡ []) × (g y ≡ []))
    → f z ≡ x ∷ [] → g z ≡ []
    → ((j : ℕ) (y : Zone) → slice_get zs j ≡ Some y → i < j → f y ≡ g y)
    → flat_map f zs ≡ x ∷ flat_map g zs
insert_at [] i z f g x e before own none behind = let n : None ≡ Some z = e in cc
insert_at {X = X} (y ∷ ys) zero z f g x e before own none behind =
    let s : z ≡ y = cc in
    ap₂ (λ (us vs : List X). us ++ vs) (ap f (sym s) ∙ own)
    (same_behind ys (λ j u k. behind (suc j) u k (omega arith)))
    ∙ ap (λ (us : List X). x ∷ us ++ flat_map g ys) (sym none ∙ ap g s)
  where
    same_behind : (us : List Zone) → ((j : ℕ) (u : Zone) → slice_get us j ≡ Some u → f u ≡ g u)
        → flat_map f us ≡ flat_map g us
    same_behind [] h = refl
    same_behind (u ∷ us) h = ap₂ (λ (ps qs : List X). ps ++ qs) (h 0 u refl)
        (same_behind us (λ j v k. h (suc j) v k))
insert_at {X = X} (y ∷ ys) (suc i) z f g x e before own none behind =
    let here = before 0 y refl (omega arith) in
    ap (λ (us : List X). us ++ flat_map f ys) here.0
    ∙ insert_at ys i z f g x e (λ j u k l. before (suc j) u k (omega arith)) own none
    (λ j u k l. behind (suc j) u k (omega arith))
    ∙ ap (λ (us : List X). x ∷ us ++ flat_map g ys) (sym here.1)

each_same : {X : Type 0} (f g : Zone → List X) (zs : List Zone) → ((z : Zone) → f z ≡ g z)
    → flat_map f zs ≡ flat_map g zs
each_same f g [] h = refl
each_same {X = X} f g (z ∷ zs) h = ap₂ (λ (us vs : List X). us ++ vs) (h z) (each_same f g zs h)

-- ---- readings of a kind

none_of : (kind : Kind) (name : ZoneName) → named_of kind name [] ≡ []
none_of kind name = by (is_of kind name.kind)
  where
    by : (b : Bool) → cond {A = List (ZoneName × List ℕ)} b [] [] ≡ []
    by true = refl
    by false = refl

of_kind : (kind : Kind) (name : ZoneName) (rs : List ZoneReading) → is_of kind name.kind ≡ true
    → named_of kind name rs ≡ map (named name) rs
of_kind kind name rs own = ap (λ b. cond b (map (named name) rs) []) own

of_other : (kind : Kind) (name : ZoneName) (rs : List ZoneReading) → is_of kind name.kind ≡ false
    → named_of kind name rs ≡ []
of_other kind name rs other = ap (λ b. cond b (map (named name) rs) []) other

none_all : (kind : Kind) (zs : List Zone) → flat_map (λ (z : Zone). named_of kind z.name (found_of [] z)) zs ≡ []
none_all kind [] = refl
none_all kind (z ∷ zs) = ap₂ (λ us vs. us ++ vs) (none_of kind z.name) (none_all kind zs)

-- ---- places in a layout

abbrev named_in : Kind → List Saved → List (ZoneName × List ℕ)
named_in kind zones = flat_map (λ (zone : Saved). named_of kind zone.0.name (found zone.1)) zones

-- two of one kind
both : (kind a b : Kind) → is_of kind a ≡ true → is_of kind b ≡ true → is_of a b ≡ true
both kind a b h k = subst (λ (x : Kind). is_of x b ≡ true) (same_kind kind a h) k

-- where a saved zone with something found goes, and that it is one log
record HasPlace (layout : List Zone) (zone : Saved) (r : ZoneReading) (rs : List ZoneReading) : Type 0 where
  alone : rs ≡ []
  place : ℕ
  at : Zone
  place_is : zone_place layout zone.0.name ≡ Some place
  stands : slice_get layout place ≡ Some at
  own : is_zone zone.0.name at ≡ true

module _ (layout : List Zone) (are : AreNamed layout) where
  place_of : (name : ZoneName) (j : ℕ) (y : Zone) → slice_get layout j ≡ Some y → is_zone name y ≡ true
      → zone_place layout name ≡ Some j
  place_of name j y hy own = ap (zone_place layout) (same_name name y own) ∙ are j y hy

  not_there : (name : ZoneName) (i j : ℕ) (y : Zone) → slice_get layout j ≡ Some y → zone_place layout name ≡ Some i
      → (i ≡ j → ⊥) → is_zone name y ≡ false
  not_there name i j y hy place ne = by (is_zone name y) refl
    where
      by : (b : Bool) → is_zone name y ≡ b → b ≡ false
      by true e = absurd (ne (let g : Some i ≡ Some j = sym place ∙ place_of name j y hy e in cc))
      by false e = refl

  -- of zones of a kind that all come behind i none is at a place up to i
  behind_none : (kind : Kind) (zs : List Saved) (i j : ℕ) (y : Zone) → slice_get layout j ≡ Some y
      → is_of kind y.name.kind ≡ true → j ≤ i
      → ((k n : ℕ) (s : Saved) → slice_get zs k ≡ Some s → is_of kind s.0.name.kind ≡ true
      → zone_place layout s.0.name ≡ Some n → i < n)
      → found_of zs y ≡ []
  behind_none kind [] i j y hy own low after = refl
  behind_none kind (s ∷ ss) i j y hy own low after =
      by (is_zone s.0.name y) refl (behind_none kind ss i j y hy own low (λ k n t e o p. after (suc k) n t e o p))
    where
      by : (b : Bool) → is_zone s.0.name y ≡ b → found_of ss y ≡ [] → cond b (found s.1) [] ++ found_of ss y ≡ []
      by true e rest =
          let l : i < j = after 0 j s refl (ap (λ (n : ZoneName). is_of kind n.kind) (same_name s.0.name y e) ∙ own)
          (place_of s.0.name j y hy e) in
          absurd (omega arith)
      by false e rest = rest

  rest_behind : (kind : Kind) (s : Saved) (ss : List Saved) (i : ℕ) → ComeInOrder layout (s ∷ ss)
      → is_of kind s.0.name.kind ≡ true → zone_place layout s.0.name ≡ Some i
      → (k n : ℕ) (t : Saved) → slice_get ss k ≡ Some t → is_of kind t.0.name.kind ≡ true
      → zone_place layout t.0.name ≡ Some n → i < n
  rest_behind kind s ss i order own place k n t e same p =
      order 0 (suc k) i n s t (omega arith) refl e (both kind s.0.name.kind t.0.name.kind own same) place p

  rest_order : (s : Saved) (ss : List Saved) → ComeInOrder layout (s ∷ ss) → ComeInOrder layout ss
  rest_order s ss order i j m n a b l ea eb same pa pb = order (suc i) (suc j) m n a b (omega arith) ea eb same pa pb

  -- ---- the order

  own_log : (kind : Kind) (s : Saved) (ss : List Saved) (r : ZoneReading) (rs : List ZoneReading) → found s.1 ≡ r ∷ rs
      → is_of kind s.0.name.kind ≡ true → ComeInOrder layout (s ∷ ss) → HasPlace layout s r rs
      → flat_map (λ (z : Zone). named_of kind z.name (found_of (s ∷ ss) z)) layout
      ≡ named s.0.name r ∷ flat_map (λ (z : Zone). named_of kind z.name (found_of ss z)) layout
  own_log kind s ss r rs e own order has =
      insert_at layout has.place has.at (λ (z : Zone). named_of kind z.name (found_of (s ∷ ss) z))
      (λ (z : Zone). named_of kind z.name (found_of ss z)) (named s.0.name r) has.stands
      (λ j y hy l. before j y hy l (is_of kind y.name.kind) refl)
      (ap (named_of kind has.at.name) here
      ∙ of_kind kind has.at.name (r ∷ []) at_own
      ∙ ap (λ n. named n r ∷ []) (sym (same_name s.0.name has.at has.own)))
      (ap (named_of kind has.at.name) none_here ∙ none_of kind has.at.name)
      (λ j y hy l. ap (named_of kind y.name) (other j y hy (λ m. omega arith)))
    where
      at_own : is_of kind has.at.name.kind ≡ true
      at_own = ap (λ (n : ZoneName). is_of kind n.kind) (sym (same_name s.0.name has.at has.own)) ∙ own

      after : (k n : ℕ) (t : Saved) → slice_get ss k ≡ Some t → is_of kind t.0.name.kind ≡ true
          → zone_place layout t.0.name ≡ Some n → has.place < n
      after = rest_behind kind s ss has.place order own has.place_is

      other : (j : ℕ) (y : Zone) → slice_get layout j ≡ Some y → (has.place ≡ j → ⊥)
          → found_of (s ∷ ss) y ≡ found_of ss y
      other j y hy ne = ap (λ b. cond b (found s.1) [] ++ found_of ss y)
          (not_there s.0.name has.place j y hy has.place_is ne)

      none_here : found_of ss has.at ≡ []
      none_here = behind_none kind ss has.place has.place has.at has.stands at_own (omega arith) after

      here : found_of (s ∷ ss) has.at ≡ r ∷ []
      here = ap (λ b. cond b (found s.1) [] ++ found_of ss has.at) has.own
          ∙ ap₂ (λ us vs. us ++ vs) (e ∙ ap (λ us. r ∷ us) has.alone) none_here

      before : (j : ℕ) (y : Zone) → slice_get layout j ≡ Some y → j < has.place → (b : Bool)
          → is_of kind y.name.kind ≡ b
          → (named_of kind y.name (found_of (s ∷ ss) y) ≡ []) × (named_of kind y.name (found_of ss y) ≡ [])
      before j y hy l true is =
          let none : found_of ss y ≡ [] = behind_none kind ss has.place j y hy is (omega arith) after in (
            ap (named_of kind y.name) (other j y hy (λ m. omega arith) ∙ none) ∙ none_of kind y.name,
            ap (named_of kind y.name) none ∙ none_of kind y.name,
          )
      before j y hy l false is =
          (of_other kind y.name (found_of (s ∷ ss) y) is, of_other kind y.name (found_of ss y) is)

  -- a saved zone of another kind makes no difference
  other_kind : (kind : Kind) (s : Saved) (ss : List Saved) → is_of kind s.0.name.kind ≡ false → (z : Zone)
      → named_of kind z.name (found_of (s ∷ ss) z) ≡ named_of kind z.name (found_of ss z)
  other_kind kind s ss off z = by (is_of kind z.name.kind) refl (is_zone s.0.name z) refl
    where
      by : (k : Bool) → is_of kind z.name.kind ≡ k → (b : Bool) → is_zone s.0.name z ≡ b
          → named_of kind z.name (found_of (s ∷ ss) z) ≡ named_of kind z.name (found_of ss z)
      by false k b e = of_other kind z.name (found_of (s ∷ ss) z) k ∙ sym (of_other kind z.name (found_of ss z) k)
      by true k true e = absurd (true≢false (sym k ∙ ap (λ (n : ZoneName). is_of kind n.kind)
          (sym (same_name s.0.name z e)) ∙ off))
      by true k false e = ap (λ b. named_of kind z.name (cond b (found s.1) [] ++ found_of ss z)) e

  in_order : (kind : Kind) (zs : List Saved) → ComeInOrder layout zs
      → ((k : ℕ) (s : Saved) (r : ZoneReading) (rs : List ZoneReading) → slice_get zs k ≡ Some s
      → found s.1 ≡ r ∷ rs → HasPlace layout s r rs)
      → flat_map (λ (z : Zone). named_of kind z.name (found_of zs z)) layout ≡ named_in kind zs
  in_order kind [] order has = none_all kind layout
  in_order kind (s ∷ ss) order has =
      by (is_of kind s.0.name.kind) refl (found s.1) refl
      (in_order kind ss (rest_order s ss order) (λ k t r rs e f. has (suc k) t r rs e f))
    where
      by : (k : Bool) → is_of kind s.0.name.kind ≡ k → (rs : List ZoneReading) → found s.1 ≡ rs
          → flat_map (λ (z : Zone). named_of kind z.name (found_of ss z)) layout ≡ named_in kind ss
          → flat_map (λ (z : Zone). named_of kind z.name (found_of (s ∷ ss) z)) layout ≡ named_in kind (s ∷ ss)
      by false k rs e rest =
          each_same (λ (z : Zone). named_of kind z.name (found_of (s ∷ ss) z))
          (λ (z : Zone). named_of kind z.name (found_of ss z)) layout (other_kind kind s ss k)
          ∙ rest ∙ ap (λ us. us ++ named_in kind ss) (sym (of_other kind s.0.name (found s.1) k))
      by true k [] e rest =
          each_same (λ (z : Zone). named_of kind z.name (found_of (s ∷ ss) z))
          (λ (z : Zone). named_of kind z.name (found_of ss z)) layout
          (λ z. ap (λ rs. named_of kind z.name (cond (is_zone s.0.name z) rs [] ++ found_of ss z)) e
          ∙ ap (λ (rs : List ZoneReading). named_of kind z.name (rs ++ found_of ss z)) (empty (is_zone s.0.name z)))
          ∙ rest
          ∙ ap (λ us. us ++ named_in kind ss)
          (sym (ap (named_of kind s.0.name) e ∙ none_of kind s.0.name))
        where
          empty : (b : Bool) → cond {A = List ZoneReading} b [] [] ≡ []
          empty true = refl
          empty false = refl
      by true k (r ∷ rs) e rest =
          let place : HasPlace layout s r rs = has 0 s r rs refl e in
          own_log kind s ss r rs e k order place
          ∙ ap (λ us. named s.0.name r ∷ us) rest
          ∙ ap (λ us. us ++ named_in kind ss)
          (sym (of_kind kind s.0.name (found s.1) k ∙ ap (map (named s.0.name)) (e ∙ ap (λ us. r ∷ us) place.alone)))

  -- ---- one log

  one_in : (o : Option ZoneReading) (rest : List ZoneReading) → AllByRecursion IsOfBytes (found o) → rest ≡ []
      → IsOneLog (found o ++ rest)
  one_in None rest bytes e = subst IsOneLog (sym e) tt
  one_in (Some r) rest bytes e = by r.state bytes
    where
      by : (s : State) → AllByRecursion IsOfBytes (found_in r s) → IsOneLog (found_in r s ++ rest)
      by Found h = subst (λ us. IsOneLog (r ∷ us)) (sym e) h.0.0
      by Unsigned h = subst IsOneLog (sym e) tt
      by Empty h = subst IsOneLog (sym e) tt
      by Invalid h = subst IsOneLog (sym e) tt

  one_log : (zs : List Saved) → ComeInOrder layout zs → HaveBytes zs
      → (i : ℕ) (z : Zone) → slice_get layout i ≡ Some z → IsOneLog (found_of zs z)
  one_log [] order bytes i z hz = tt
  one_log (s ∷ ss) order bytes i z hz =
      by (is_zone s.0.name z) refl (one_log ss (rest_order s ss order) (λ k t e. bytes (suc k) t e) i z hz)
    where
      by : (b : Bool) → is_zone s.0.name z ≡ b → IsOneLog (found_of ss z)
          → IsOneLog (cond b (found s.1) [] ++ found_of ss z)
      by true e rest = one_in s.1 (found_of ss z) (bytes 0 s refl)
          (behind_none z.name.kind ss i i z hz (kind_itself z.name.kind) (omega arith)
          (rest_behind z.name.kind s ss i order
          (ap (λ (n : ZoneName). is_of z.name.kind n.kind) (same_name s.0.name z e) ∙ kind_itself z.name.kind)
          (place_of s.0.name i z hz e)))
      by false e rest = rest

-- ---- the logs of the records that fit

from_map : {X Y : Type 0} (f : X → Y) (xs : List X) (k : ℕ) (y : Y) → slice_get (map f xs) k ≡ Some y
    → (x : X) × (slice_get xs k ≡ Some x) × (f x ≡ y)
from_map f [] k y e = let n : None ≡ Some y = e in cc
from_map f (x ∷ xs) zero y e = (x, refl, (let s : f x ≡ y = cc in s))
from_map f (x ∷ xs) (suc k) y e = from_map f xs k y e

pub name_at : (layout : List Zone) (name : ZoneName) (i : ℕ) (z : Zone) → zone_place layout name ≡ Some i
    → slice_get layout i ≡ Some z → is_zone name z ≡ true
name_at layout name i z place ez =
    let p = position-Some (is_zone name) layout i z place in
    let at : get_or layout i z ≡ z = (let g : Some (get_or layout i z) ≡ Some z =
    sym (slice_get-get_or layout i z p.0) ∙ ez in cc) in
    ap (is_zone name) (sym at) ∙ p.1

module _ (layout : List Zone) (all : List Saved) where
  abbrev kept_of : Saved → Saved
  kept_of zone = (zone.0, kept_if layout all zone.0.name zone.1)

  -- a zone with room for a log is there
  placed : (zone : Saved) (r : ZoneReading) (rs : List ZoneReading) (len : ℕ) → rs ≡ []
      → has_room len (zone_named layout zone.0.name) ≡ true → HasPlace layout zone r rs
  placed zone r rs len none room = by (zone_place layout zone.0.name) refl room
    where
      at : (i : ℕ) (o : Option Zone) → zone_place layout zone.0.name ≡ Some i → slice_get layout i ≡ o
          → has_room len o ≡ true → HasPlace layout zone r rs
      at i None p e h = absurd (true≢false (sym h))
      at i (Some z) p e h = record {
        alone = none;
        place = i;
        at = z;
        place_is = p;
        stands = e;
        own = name_at layout zone.0.name i z p e;
      }

      by : (o : Option ℕ) → zone_place layout zone.0.name ≡ o
          → has_room len (option_and_then (λ (i : ℕ). slice_get layout i) o) ≡ true → HasPlace layout zone r rs
      by None p h = absurd (true≢false (sym h))
      by (Some i) p h = at i (slice_get layout i) p refl h

  module _ (j : ℕ) (zone : Zone) (reading : ZoneReading) (stands : slice_get all j ≡ Some (zone, Some reading))
      (r : ZoneReading) (rs : List ZoneReading) where
    kept_place : (b : Bool) (s : State)
        → is_fit layout all (record_name zone.name reading.log zone.name.kind) ≡ b → reading.state ≡ s
        → found (cond b (Some reading) None) ≡ r ∷ rs
        → HasPlace layout (kept_of (zone, Some reading)) r rs
    kept_place false s e h f = let n : ◌≡◌ {A = ℕ} 0 1 = cc in absurd (omega (arith, n))
    kept_place true Found e h f =
        let g : reading ∷ [] ≡ r ∷ rs = ap (found_in reading) (sym h) ∙ f in
        placed (kept_of (zone, Some reading)) r rs (length reading.log) (let none : rs ≡ [] = cc in none)
        (room_is layout all j zone reading _ stands refl e h)
    kept_place true Unsigned e h f = let g : [] ≡ r ∷ rs = ap (found_in reading) (sym h) ∙ f in
        let n : ◌≡◌ {A = ℕ} 0 1 = cc in absurd (omega (arith, n))
    kept_place true Empty e h f = let g : [] ≡ r ∷ rs = ap (found_in reading) (sym h) ∙ f in
        let n : ◌≡◌ {A = ℕ} 0 1 = cc in absurd (omega (arith, n))
    kept_place true Invalid e h f = let g : [] ≡ r ∷ rs = ap (found_in reading) (sym h) ∙ f in
        let n : ◌≡◌ {A = ℕ} 0 1 = cc in absurd (omega (arith, n))

  saved_place : (j : ℕ) (zone : Zone) (o : Option ZoneReading) → slice_get all j ≡ Some (zone, o)
      → (r : ZoneReading) (rs : List ZoneReading) → found (kept_if layout all zone.name o) ≡ r ∷ rs
      → HasPlace layout (kept_of (zone, o)) r rs
  saved_place j zone None stands r rs f = let n : ◌≡◌ {A = ℕ} 0 1 = cc in absurd (omega (arith, n))
  saved_place j zone (Some reading) stands r rs f = kept_place j zone reading stands r rs _ reading.state refl refl f

  kept_bytes : (name : ZoneName) (o : Option ZoneReading) → AllByRecursion IsOfBytes (found o)
      → AllByRecursion IsOfBytes (found (kept_if layout all name o))
  kept_bytes name None h = tt
  kept_bytes name (Some r) h = by (is_fit layout all (record_name name r.log name.kind))
    where
      by : (b : Bool) → AllByRecursion IsOfBytes (found (cond b (Some r) None))
      by true = h
      by false = tt

  kept_order : ComeInOrder layout all → ComeInOrder layout (map kept_of all)
  kept_order order i j m n a b l ea eb same pa pb =
      let sa = from_map kept_of all i a ea in
      let sb = from_map kept_of all j b eb in
      order i j m n sa.0 sb.0 l sa.1 sb.1
      (ap₂ (λ (s t : Saved). is_of s.0.name.kind t.0.name.kind) sa.2 sb.2 ∙ same)
      (ap (λ (s : Saved). zone_place layout s.0.name) sa.2 ∙ pa)
      (ap (λ (s : Saved). zone_place layout s.0.name) sb.2 ∙ pb)

  kept_have : HaveBytes all → HaveBytes (map kept_of all)
  kept_have bytes k s e =
      let old = from_map kept_of all k s e in
      subst (λ (t : Saved). AllByRecursion IsOfBytes (found t.1)) old.2
      (kept_bytes old.0.0.name old.0.1 (bytes k old.0 old.1))

  kept_places : (k : ℕ) (s : Saved) (r : ZoneReading) (rs : List ZoneReading) → slice_get (map kept_of all) k ≡ Some s
      → found s.1 ≡ r ∷ rs → HasPlace layout s r rs
  kept_places k s r rs e f =
      let old = from_map kept_of all k s e in
      subst (λ (t : Saved). HasPlace layout t r rs) old.2
      (saved_place k old.0.0 old.0.1 old.1 r rs (ap (λ (t : Saved). found t.1) old.2 ∙ f))

pub fitting_takes_in_order : FittingTakesInOrder
fitting_takes_in_order layout zones are bytes order = record {
  one = one_log layout are (fitting layout zones) (kept_order layout zones order) (kept_have layout zones bytes);
  order = λ kind. in_order layout are kind (fitting layout zones) (kept_order layout zones order)
      (kept_places layout zones);
}
