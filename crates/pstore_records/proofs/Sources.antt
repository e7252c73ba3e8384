-- The sources that zones give, end to end. For the calls of `walk`.
use Rattle.std.proofs.Common.{◌≡◌, ℕ, zero, suc, ◌+◌, ◌<◌, Bool, true, false, List, [], ◌∷◌, ◌++◌, map, length, take, drop}
use Rattle.std.proofs.Common.{refl, sym, ap, ap₂, subst, ◌∙◌, arith, append-nil, append_assoc, Option, Some, None}
use Rattle.std.specs.Prelude.{filter, flat_map, if◌then◌else◌, slice_get, option_to_list, IfSome, is_some}
use Rattle.std.specs.Option.{option_map, option_or}
use Rattle.std.specs.List.{All, zip}
use Rattle.std.proofs.lemmas.List.{map-append, take-append-drop}
use Rattle.std.proofs.lemmas.List.Elements.{All-nil, All-cons, All-head, All-append}
use Rattle.std.proofs.lemmas.Option.{slice_get_within}
use Rattle.zone_spec.specs.declared.Kind.{Kind}
use Rattle.zone_spec.specs.declared.Kind.TheVariants.{Dump, Console, Ftrace, Pmsg}
use Rattle.zone_spec.specs.declared.Name.{Name}
use Rattle.zone_spec.specs.declared.Name.TheVariants.{Dump as DumpName, Console as ConsoleName, Pmsg as PmsgName}
use Rattle.zone_spec.specs.declared.TimeLine.{TimeLine}
use Rattle.zone_spec.specs.Reading.{ZoneReading}
use Rattle.zone_spec.specs.TimeLines.{read_line}
use Rattle.zone_spec.specs.Names.{is_name}
use Rattle.zone_spec.specs.Records.{Saved, Listed, is_of, found, logs_of, dump_of, dumps_of, plain, first_listed}
use Rattle.pstore_records.specs.declared.walk.Source.{Source}
use Rattle.pstore_records.specs.Counts.{zones_of}
use Rattle.pstore_records.specs.Tables.{numbers_rise}
use Rattle.pstore_records.specs.Walks.{own_records, listed_in, IsCounted, AreSources, IsNamed, first_named}
use Rattle.pstore_records.proofs.Additive.{dumps_of-append, logs_of-append}
use Rattle.pstore_records.proofs.RecordFit.{own-zone}
use Rattle.pstore_records.proofs.Steps.{item-at}

pub no-sources : (zones : List Saved) → AreSources zones [] []
no-sources zones = record { listed = refl; counted = All-nil (IsCounted zones) }

pub sources-join : (zones : List Saved) (xs ys : List Source) (front own : List Listed) → AreSources zones xs front
    → AreSources zones ys own → AreSources zones (xs ++ ys) (front ++ own)
sources-join zones xs ys front own a b = record {
  listed = map-append (listed_in zones) xs ys ∙ ap₂ (λ (rs ss : List Listed). rs ++ ss) a.listed b.listed;
  counted = All-append (IsCounted zones) xs ys a.counted b.counted;
}

plain-append : (name : Name) (kind : Kind) (xs ys : List Saved)
    → plain name (logs_of kind (xs ++ ys)) ≡ plain name (logs_of kind xs) ++ plain name (logs_of kind ys)
plain-append name kind xs ys = ap (plain name) (logs_of-append kind xs ys)
    ∙ map-append (λ (log : List ℕ). record { name = name; content = log; time = None }) (logs_of kind xs) (logs_of kind ys)

own_records-append : (kind : Kind) (xs ys : List Saved)
    → own_records kind (xs ++ ys) ≡ own_records kind xs ++ own_records kind ys
own_records-append Dump xs ys = dumps_of-append xs ys
own_records-append Console xs ys = plain-append ConsoleName Console xs ys
own_records-append Pmsg xs ys = plain-append PmsgName Pmsg xs ys
own_records-append Ftrace xs ys = refl

pub own_records-none : (kind : Kind) → own_records kind [] ≡ []
own_records-none Dump = refl
own_records-none Console = refl
own_records-none Pmsg = refl
own_records-none Ftrace = refl

-- one zone more
pub sources-more : (zones : List Saved) (kind : Kind) (i : ℕ) (old new : List Source) (own : Option Source)
    → i < length zones
    → ((s : Saved) → slice_get zones i ≡ Some s → AreSources zones (option_to_list own) (own_records kind (s ∷ [])))
    → new ≡ old ++ option_to_list own → (front : List Listed)
    → AreSources zones old (front ++ own_records kind (take i zones))
    → AreSources zones new (front ++ own_records kind (take (i + 1) zones))
sources-more zones kind i old new own lt gives pushed front was =
    let at = item-at zones i lt in
    let before = own_records kind (take i zones) in
    let here = own_records kind (at.item ∷ []) in
    let joined = sources-join zones old (option_to_list own) (front ++ before) here was (gives at.item at.here) in
    record {
      listed = ap (map (listed_in zones)) pushed ∙ joined.listed ∙ append_assoc front before here
          ∙ ap (λ (rs : List Listed). front ++ rs) (sym (ap (own_records kind) at.more
          ∙ own_records-append kind (take i zones) (at.item ∷ [])));
      counted = subst (All (IsCounted zones)) (sym pushed) joined.counted;
    }

-- ---- the zone that a record is asked of

unnamed-counted : (zones : List Saved) (source : Source) → source.zone ≡ None → IsCounted zones source
unnamed-counted zones source none = record {
  within = λ i named. let n : None ≡ Some i = sym none ∙ named in cc;
  only = λ i s named at. let n : None ≡ Some i = sym none ∙ named in cc;
}

-- a dump has the number of its zone
record IsDumpOf (s : Saved) (name : Name) : Type 0 where
  kind : is_of Dump s.0.name.kind ≡ true
  packed : Bool
  same : name ≡ DumpName s.0.name.index packed

dump-number : (n : ℕ) (rs : List ZoneReading) (r : Listed)
    → r ∷ [] ≡ flat_map (λ (q : ZoneReading). dump_of n q.log (read_line q.log)) rs
    → (packed : Bool) × (r.name ≡ DumpName n packed)
dump-number n [] r e = cc
dump-number n (q ∷ rs) r e = by (read_line q.log)
    (flat_map (λ (p : ZoneReading). dump_of n p.log (read_line p.log)) rs) e (dump-number n rs r)
  where
    by : (line : Option TimeLine) (rest : List Listed) → r ∷ [] ≡ dump_of n q.log line ++ rest
        → (r ∷ [] ≡ rest → (packed : Bool) × (r.name ≡ DumpName n packed))
        → (packed : Bool) × (r.name ≡ DumpName n packed)
    by None rest e more = more e
    by (Some line) rest e more = (line.packed, ap (λ (l : Listed). l.name) (first e))
      where
        first : {x y : Listed} {xs ys : List Listed} → x ∷ xs ≡ y ∷ ys → x ≡ y
        first e = cc

dump-of-zone : (s : Saved) (r : Listed) → r ∷ [] ≡ dumps_of (s ∷ []) → IsDumpOf s r.name
dump-of-zone s r e = by (is_of Dump s.0.name.kind) refl e
  where
    by : (b : Bool) → is_of Dump s.0.name.kind ≡ b → r ∷ [] ≡ (if b then flat_map
        (λ (q : ZoneReading). dump_of s.0.name.index q.log (read_line q.log)) (found s.1) else []) ++ []
        → IsDumpOf s r.name
    by true is e =
        let number = dump-number s.0.name.index (found s.1) r (e ∙ append-nil (flat_map
        (λ (q : ZoneReading). dump_of s.0.name.index q.log (read_line q.log)) (found s.1))) in
        record { kind = is; packed = number.0; same = number.1 }
    by false other e = cc

dump-counted : (zones : List Saved) (i : ℕ) (s : Saved) (is_alone : Bool) (d : Source)
    → is_alone ≡ numbers_rise 0 zones → slice_get zones i ≡ Some s → listed_in zones d ∷ [] ≡ dumps_of (s ∷ [])
    → d.zone ≡ (if is_alone then Some i else None) → IsCounted zones d
dump-counted zones i s false d rises at e zone = unnamed-counted zones d zone
dump-counted zones i s true d rises at e zone =
    let own = dump-of-zone s (listed_in zones d) e in
    let mine : (j : ℕ) → d.zone ≡ Some j → j ≡ i = λ j named. (let n : Some j ≡ Some i = sym named ∙ zone in cc) in
    record {
      within = λ j named. omega (arith, slice_get_within zones i s at, mine j named);
      only = λ j t named there.
          let same : t ≡ s = (let g : Some t ≡ Some s = sym there ∙ ap (slice_get zones) (mine j named) ∙ at in cc) in
          ap (λ (x : Saved). zones_of d.name (x ∷ [])) same
          ∙ subst (λ (n : Name). zones_of n (s ∷ []) ≡ zones_of n zones) (sym own.same)
          (own-zone own.packed zones i s (sym rises) at own.kind);
    }

-- the source of a dump zone
pub dump-source : (zones : List Saved) (i : ℕ) (s : Saved) (is_alone : Bool) (d : Option Source)
    → is_alone ≡ numbers_rise 0 zones → slice_get zones i ≡ Some s
    → map (listed_in zones) (option_to_list d) ≡ dumps_of (s ∷ [])
    → IfSome d (λ x. x.zone ≡ (if is_alone then Some i else None))
    → AreSources zones (option_to_list d) (dumps_of (s ∷ []))
dump-source zones i s is_alone None rises at e zone = record { listed = e; counted = All-nil (IsCounted zones) }
dump-source zones i s is_alone (Some d) rises at e zone = record {
  listed = e;
  counted = All-cons (IsCounted zones) d [] (dump-counted zones i s is_alone d rises at e zone)
      (All-nil (IsCounted zones));
}

-- ---- the source of a name

abbrev with_name : Name → List Listed → List Listed
with_name name records = filter (λ (r : Listed). is_name r.name name) records

first-append : (name : Name) (xs ys : List Listed)
    → first_named name (xs ++ ys) ≡ option_or (first_named name xs) (first_named name ys)
first-append name [] ys = refl
first-append name (x ∷ xs) ys = elim (is_name x.name name) as (λ b.
    first_listed (if b then x ∷ with_name name (xs ++ ys) else with_name name (xs ++ ys))
    ≡ option_or (first_listed (if b then x ∷ with_name name xs else with_name name xs)) (first_named name ys)) [
      | true ↦ refl
      | false ↦ first-append name xs ys
    ]

module _ (zones : List Saved) (name : Name) where
  -- a source in front decides, and none leaves it to what follows
  joined : (a : Option Source) (xs ys : List Listed) → IsNamed zones a name xs
      → option_or (option_map (listed_in zones) a) (first_named name ys) ≡ first_named name (xs ++ ys)
  joined a xs ys named = ap (λ o. option_or o (first_named name ys)) named.listed ∙ sym (first-append name xs ys)

  named-front : (s : Source) (xs ys : List Listed) → IsNamed zones (Some s) name xs
      → IsNamed zones (Some s) name (xs ++ ys)
  named-front s xs ys named = record { listed = joined (Some s) xs ys named; counted = named.counted }

  pub named-join : (a b : Option Source) (xs ys : List Listed) → IsNamed zones a name xs → IsNamed zones b name ys
      → IsNamed zones (option_or a b) name (xs ++ ys)
  named-join None b xs ys named later = record {
    listed = later.listed ∙ joined None xs ys named;
    counted = later.counted;
  }
  named-join (Some s) b xs ys named later = named-front s xs ys named

  pub named-none : (kind : Kind) → IsNamed zones None name (own_records kind [])
  named-none Dump = record { listed = refl; counted = tt }
  named-none Console = record { listed = refl; counted = tt }
  named-none Pmsg = record { listed = refl; counted = tt }
  named-none Ftrace = record { listed = refl; counted = tt }

  pub without-source : (own : Option Source) (records : List Listed) → is_some own ≡ false
      → IsNamed zones own name records → IsNamed zones None name records
  without-source None records none named = named
  without-source (Some s) records none named = cc

  -- of no source, and of one, by its name
  pub named-not : (records : List Listed) → AreSources zones [] records → IsNamed zones None name records
  named-not records are = record { listed = ap (first_named name) are.listed; counted = tt }

  pub named-one : (s : Source) (records : List Listed) → is_name s.name name ≡ true → AreSources zones (s ∷ []) records
      → IsNamed zones (Some s) name records
  named-one s records same are = record {
    listed = (let own : Some (listed_in zones s) ≡ first_named name (listed_in zones s ∷ []) = rw same refl in own)
        ∙ ap (first_named name) are.listed;
    counted = All-head (IsCounted zones) s [] are.counted;
  }

  pub named-other : (s : Source) (records : List Listed) → is_name s.name name ≡ false
      → AreSources zones (s ∷ []) records → IsNamed zones None name records
  named-other s records other are = record {
    listed = (let own : None ≡ first_named name (listed_in zones s ∷ []) = rw other refl in own)
        ∙ ap (first_named name) are.listed;
    counted = tt;
  }

  -- one zone more
  pub named-more : (kind : Kind) (i : ℕ) (own : Option Source) → i < length zones
      → ((s : Saved) → slice_get zones i ≡ Some s → IsNamed zones own name (own_records kind (s ∷ [])))
      → IsNamed zones None name (own_records kind (take i zones))
      → IsNamed zones own name (own_records kind (take (i + 1) zones))
  named-more kind i own lt gives none =
      let at = item-at zones i lt in
      subst (IsNamed zones own name)
      (sym (ap (own_records kind) at.more ∙ own_records-append kind (take i zones) (at.item ∷ [])))
      (named-join None own (own_records kind (take i zones)) (own_records kind (at.item ∷ [])) none
      (gives at.item at.here))

  pub named-found : (kind : Kind) (i : ℕ) (own : Option Source) → is_some own ≡ true
      → IsNamed zones own name (own_records kind (take i zones)) → IsNamed zones own name (own_records kind zones)
  named-found kind i None some named = cc
  named-found kind i (Some s) some named = subst (IsNamed zones (Some s) name)
      (sym (own_records-append kind (take i zones) (drop i zones)) ∙ ap (own_records kind) (take-append-drop i zones))
      (named-front s (own_records kind (take i zones)) (own_records kind (drop i zones)) named)

-- ---- what is asked of the one zone is asked of all

pub zip-within : {A B : Type 0} (xs : List A) (ys : List B) (i : ℕ) → i < length (zip xs ys) → i < length ys
zip-within [] ys i lt = absurd (omega (arith, lt))
zip-within (x ∷ xs) [] i lt = absurd (omega (arith, lt))
zip-within (x ∷ xs) (y ∷ ys) zero lt = omega arith
zip-within (x ∷ xs) (y ∷ ys) (suc i) lt = omega (arith, zip-within xs ys i (omega (arith, lt)))

pub own-zones : {B : Type 0} (f : List Saved → B) (zones : List Saved) (source : Source) (i : ℕ) (own : B)
    → IsCounted zones source → source.zone ≡ Some i
    → ((s : Saved) → slice_get zones i ≡ Some s → own ≡ f (zones_of source.name (s ∷ [])))
    → own ≡ f (zones_of source.name zones)
own-zones f zones source i own counted named gives =
    let at = item-at zones i (counted.within i named) in
    gives at.item at.here ∙ ap f (counted.only i at.item named at.here)
