-- Contents and names of records
use Rattle.std.proofs.Common.{◌≡◌, ℕ, ◌+◌, Bool, true, false, not, ◌==◌, if◌then◌else◌, List, [], ◌∷◌, ◌++◌, map}
use Rattle.std.proofs.Common.{length, length-append, codes, Option, Some, None, is_some, refl, sym, ap, ◌∙◌}
use Rattle.std.proofs.Common.{append_assoc, Bor, suc, ◌<◌, get_or, arith, ◌||◌}
use Rattle.std.specs.Prelude.{decimal}
use Rattle.std.specs.List.{find, list_any, All}
use Rattle.std.specs.Option.{option_map, option_copied}
use Rattle.std.proofs.lemmas.Bool.{and_parts, eqb-true, cond-true, cond-false}
use Rattle.std.proofs.Math.Bool.{or-false}
use Rattle.blk_spec.specs.declared.BlkLayout.{BlkLayout}
use Rattle.zone_blk.specs.Loading.{IsIn}
use Rattle.blk_spec.specs.declared.BlkName.{BlkName}
use Rattle.blk_spec.specs.declared.BlkName.TheVariants.{Dump, Console, Pmsg}
use Rattle.blk_spec.specs.Reading.{BlkDump}
use Rattle.kmsg_spec.specs.Reasons.{reason_word}
use Rattle.blk_spec.specs.Names.{is_name, dump_name, dump_content}
use Rattle.blk_spec.specs.States.{BlkState, content_of, is_listed}
use Rattle.blk_laws.proofs.Listings.{listed-parts, listed-console, listed-pmsg}

pub packed-content : (d : BlkDump) → d.packed ≡ true → d.body ≡ dump_content d
unfolding dump_content
packed-content d h = sym (cond-true d.packed d.body (reason_word d.reason ++ codes ": Total " ++ decimal d.counter
    ++ codes " times" ++ 10 ∷ d.body) h)

pub plain-content : (d : BlkDump) (body : List ℕ) → d.packed ≡ false → body ≡ d.body
    → reason_word d.reason ++ codes ": Total " ++ decimal d.counter ++ codes " times" ++ 10 ∷ [] ++ body
    ≡ dump_content d
unfolding dump_content
plain-content d body h e =
    append_assoc (reason_word d.reason ++ codes ": Total " ++ decimal d.counter ++ codes " times") (10 ∷ []) body
    ∙ ap (λ (xs : List ℕ). reason_word d.reason ++ codes ": Total " ++ decimal d.counter ++ codes " times" ++ 10 ∷ xs) e
    ∙ sym (cond-false d.packed d.body (reason_word d.reason ++ codes ": Total " ++ decimal d.counter ++ codes " times"
    ++ 10 ∷ d.body) h)

-- a record is listed where it has a content
any-dump : (name : BlkName) (dumps : List BlkDump) → list_any (is_name name) (map dump_name dumps)
    ≡ is_some (find (λ (d : BlkDump). is_name name (dump_name d)) dumps)
any-dump name [] = refl
any-dump name (d ∷ dumps) = by-test (is_name name (dump_name d)) (any-dump name dumps)
  where
    by-test : (b : Bool) → list_any (is_name name) (map dump_name dumps)
        ≡ is_some (find (λ (e : BlkDump). is_name name (dump_name e)) dumps)
        → (b || list_any (is_name name) (map dump_name dumps))
        ≡ is_some (if b then Some d else find (λ (e : BlkDump). is_name name (dump_name e)) dumps)
    by-test true h = refl
    by-test false h = h

some-map : {X Y : Type 0} (f : X → Y) (o : Option X) → is_some (option_map f o) ≡ is_some o
some-map f None = refl
some-map f (Some x) = refl

pub listed-content : (b : BlkState) (name : BlkName) → is_listed b name ≡ is_some (content_of b name)
unfolding content_of
listed-content b (Dump index packed) =
    listed-parts (Dump index packed) b ∙ or-false (list_any (is_name (Dump index packed)) (map dump_name b.dumps) ||
    false)
    ∙ or-false (list_any (is_name (Dump index packed)) (map dump_name b.dumps))
    ∙ any-dump (Dump index packed) b.dumps ∙ sym (some-map dump_content
    (find (λ (d : BlkDump). is_name (Dump index packed) (dump_name d)) b.dumps))
listed-content b Console = listed-console b
listed-content b Pmsg = listed-pmsg b

pub listed-dump : (b : BlkState) (index : ℕ) (packed : Bool)
    → is_listed b (Dump index packed) ≡ is_some (find (λ (d : BlkDump). is_name (Dump index packed) (dump_name d))
    b.dumps)
unfolding content_of
listed-dump b index packed = listed-content b (Dump index packed)
    ∙ some-map dump_content (find (λ (d : BlkDump). is_name (Dump index packed) (dump_name d)) b.dumps)

pub some-copied : {X : Type 0} (o : Option (Bor X)) → is_some (option_copied o) ≡ is_some o
some-copied None = refl
some-copied (Some x) = refl

-- a listed dump is of one of the layout's zones
index-within : (l : BlkLayout) (index : ℕ) (packed : Bool) (dumps : List BlkDump)
    → ((k : ℕ) (d : BlkDump) → k < length dumps → IsIn l (get_or dumps k d))
    → is_some (find (λ (d : BlkDump). is_name (Dump index packed) (dump_name d)) dumps) ≡ true → index < l.dumps
index-within l index packed [] h t = cc
index-within l index packed (d ∷ dumps) h t =
    by-test (is_name (Dump index packed) (dump_name d)) refl t
    (λ s. index-within l index packed dumps (λ k x lt. h (suc k) x (omega arith)) s)
  where
    by-test : (b : Bool) → is_name (Dump index packed) (dump_name d) ≡ b
        → is_some (if b then Some d else find (λ (e : BlkDump). is_name (Dump index packed) (dump_name e)) dumps) ≡ true
        → (is_some (find (λ (e : BlkDump). is_name (Dump index packed) (dump_name e)) dumps) ≡ true → index < l.dumps)
        → index < l.dumps
    by-test true e s next =
        let same : index ≡ d.index = eqb-true index d.index
        (and_parts (index == d.index) (if packed then d.packed else not d.packed) e).0 in
        omega (arith, h 0 d (omega arith))
    by-test false e s next = next s

pub dump-inside : (b : BlkState) (index : ℕ) (packed : Bool) → All (IsIn b.layout) b.dumps
    → is_listed b (Dump index packed) ≡ true → index < b.layout.dumps
dump-inside b index packed inside listed = index-within b.layout index packed b.dumps inside
    (sym (listed-dump b index packed) ∙ listed)

-- the lengths of a dump's content
pub packed-length : (d : BlkDump) → d.packed ≡ true → length d.body ≡ length (dump_content d)
packed-length d h = ap length (packed-content d h)

pub plain-length : (d : BlkDump) (n k : ℕ) → d.packed ≡ false
    → n ≡ length (reason_word d.reason ++ codes ": Total " ++ decimal d.counter ++ codes " times" ++ 10 ∷ [])
    → k ≡ length d.body → n + k ≡ length (dump_content d)
plain-length d n k h e l =
    omega (
      arith,
      e,
      l,
      length-append (reason_word d.reason ++ codes ": Total " ++ decimal d.counter ++ codes " times"
          ++ 10 ∷ []) d.body,
    ) ∙ ap length (plain-content d d.body h refl)
