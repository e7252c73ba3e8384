-- An answer grows by the stores that come next
use Rattle.std.proofs.Common.{◌≡◌, ℕ, ◌+◌, ◌<◌, List, [], ◌∷◌, ◌++◌, length, take, drop, set, refl, sym, ap, ap₂, ◌∙◌}
use Rattle.std.proofs.Common.{subst, arith, length-append, append-nil, inl, inr}
use Rattle.std.specs.List.{flat_map, AllByRecursion}
use Rattle.std.proofs.lemmas.List.{drop-drop, take_more_set, length-take}
use Rattle.std.proofs.lemmas.Grind.{flat_map-append}
use Rattle.std.proofs.Math.Seq.{take-add}
use Rattle.list_laws.proofs.Elements.{AllByRecursion-append}
use Rattle.zone_spec.specs.declared.Zone.{Zone}
use Rattle.zone_spec.specs.declared.params.ByteOrder.{ByteOrder}
use Rattle.zone_spec.specs.Told.{Call}
use Rattle.zone_spec.specs.Parts.{AreBytes}
use Rattle.zone_spec.specs.Stores.{Store, after_stores, byte_stores}
use Rattle.zone_spec.specs.Calls.{call_stores}
use Rattle.ring_laws.proofs.Images.{after_stores-append}
use Rattle.ring_laws.proofs.StoreCounts.{length-byte_stores}
use Rattle.zone_boot.specs.declared.handing.BootStore.{BootStore}
use Rattle.zone_boot.specs.declared.handing.Given.{Given as BootGiven}
use Rattle.zone_boot.specs.declared.handing.Given.TheVariants.{Word as BootWord, Bytes as BootBytes}
use Rattle.zone_boot.specs.declared.handing.Given.TheVariants.{Nothing as BootNothing}
use Rattle.zone_boot.specs.Handed.{handed_by as boot_handed_by, len_by, handed_len, IsPlain}
use Rattle.store_steps.specs.declared.store.Given.{Given}
use Rattle.store_steps.specs.declared.store.Given.TheVariants.{Word, Line, Payload, Parity, Nothing}
use Rattle.store_steps.specs.declared.store.Store.{Store as Handed}
use Rattle.store_steps.specs.Handed.{handed_by, handed_count, IsWithinBytes, IsInside}
use Rattle.store_steps.specs.declared.steps.Steps.{Steps}
use Rattle.store_steps.specs.Calls.{call_of}
use Rattle.store_steps.specs.Flying.{Flying, flying, IsSameCall}
use Rattle.store_steps.specs.Phases.{IsFinished}
use Rattle.store_steps.specs.Machine.{IsKept, StandsFor}
use Rattle.store_steps.specs.Counts.{total_of}
use Rattle.oopsbox_c.specs.Stores.{row_stores, stores_in, AreInside}
use Rattle.oopsbox_c.specs.Gathered.{IsGathered}
use Rattle.oopsbox_c.specs.declared.stores.StoreRow.{StoreRow}
use Rattle.oopsbox_c.specs.declared.stores.Stores.{Stores}

-- ---- one row more

pub row_more : (rows : List StoreRow) (i n : ℕ) (row : StoreRow) (line payload : List ℕ) → n ≡ i + 1 → i < length rows
    → flat_map (λ (r : StoreRow). row_stores r line payload) (take n (set rows i row))
    ≡ flat_map (λ (r : StoreRow). row_stores r line payload) (take i rows) ++ row_stores row line payload
row_more rows i n row line payload e within =
    ap (λ m. flat_map (λ (r : StoreRow). row_stores r line payload) (take m (set rows i row))) e
    ∙ ap (flat_map (λ (r : StoreRow). row_stores r line payload)) (take_more_set rows i row within)
    ∙ flat_map-append (λ (r : StoreRow). row_stores r line payload) (take i rows) (row ∷ [])
    ∙ ap (λ ss. flat_map (λ (r : StoreRow). row_stores r line payload) (take i rows) ++ ss)
    (append-nil (row_stores row line payload))

pub all_more : (P : StoreRow → Type 0) (rows : List StoreRow) (i n : ℕ) (row : StoreRow) → n ≡ i + 1 → i < length rows
    → AllByRecursion P (take i rows) → P row → AllByRecursion P (take n (set rows i row))
all_more P rows i n row e within h k =
    subst (λ m. AllByRecursion P (take m (set rows i row))) (sym e)
    (subst (AllByRecursion P) (sym (take_more_set rows i row within))
    (AllByRecursion-append P (take i rows) (row ∷ []) h (k, tt)))

-- what is handed out has a byte at least, if it is a store at all
pub len_some : (size : ℕ) (s : Handed) (line payload : List ℕ) → IsInside size s line payload
    → 0 < handed_count s line payload → 0 < s.len
len_some size s line payload inside some = by s.given inside.bytes some
  where
    by : (g : Given) → IsWithinBytes g s line payload → 0 < length (handed_by g s line payload) → 0 < s.len
    by Word w h = omega (arith, w)
    by Line w h = omega (
      arith,
      h,
      length-byte_stores s.place (take s.len (drop s.from line)),
      length-take s.len (drop s.from line),
    )
    by Payload w h = omega (
      arith,
      h,
      length-byte_stores s.place (take s.len (drop s.from payload)),
      length-take s.len (drop s.from payload),
    )
    by Parity w h = omega (
      arith,
      h,
      length-byte_stores s.place (take s.len (drop s.from s.parity.items)),
      length-take s.len (drop s.from s.parity.items),
    )
    by Nothing w h = absurd (omega (arith, h))

-- and so of a boot
boot_some_by : (g : BootGiven) (order : ByteOrder) (place word : ℕ) (bytes : List ℕ)
    → (boot_handed_by g order place word bytes ≡ [] → g ≡ BootNothing) → (g ≡ BootNothing → ⊥) → 0 < len_by g bytes
unfolding byte_stores
boot_some_by BootWord order place word bytes h some = omega arith
boot_some_by BootBytes order place word [] h some = absurd (some (h refl))
boot_some_by BootBytes order place word (b ∷ bs) h some = omega arith
boot_some_by BootNothing order place word bytes h some = absurd (some refl)

pub boot_some : (s : BootStore) → IsPlain s → (s.given ≡ BootNothing → ⊥) → 0 < handed_len s
boot_some s plain some = boot_some_by s.given s.byte_order s.place s.word s.bytes.items plain.1 some

-- ---- the next stores behind those that were taken

joined : (xs more ys : List Store) → xs ≡ take (length xs) ys → more ≡ take (length more) (drop (length xs) ys)
    → xs ++ more ≡ take (length xs + length more) ys
joined xs more ys e k = ap₂ (λ (u v : List Store). u ++ v) e k ∙ sym (take-add (length xs) (length more) ys)

pub grown : (f : Flying) (image line payload : List ℕ) (s t : Steps) (out new : Stores) (more : List Store)
    → IsGathered f image line payload s out → IsKept (flying t line payload)
    → IsSameCall (flying s line payload) (flying t line payload) → t.made ≡ s.made + length more
    → stores_in new line payload ≡ stores_in out line payload ++ more → AreInside f.zone.size new line payload
    → AreBytes (after_stores (after_stores image (stores_in out line payload)) more)
    → ((before : List ℕ) → StandsFor (flying s line payload) (after_stores image (stores_in out line payload)) before
    → more ≡ take (length more) (drop s.made (call_stores s.zone (call_of s.kind line payload) before)))
    → ((before : List ℕ) → StandsFor (flying s line payload) (after_stores image (stores_in out line payload)) before
    → StandsFor (flying t line payload) (after_stores (after_stores image (stores_in out line payload)) more) before)
    → IsGathered f image line payload t new
grown f image line payload s t out new more g kept same made whole inside bytes handed stands =
    let xs : List Store = stores_in out line payload in
    let image_is : after_stores image (stores_in new line payload) ≡ after_stores (after_stores image xs) more =
    ap (after_stores image) whole ∙ after_stores-append image xs more in
    let len : length (stores_in new line payload) ≡ length xs + length more =
    ap length whole ∙ length-append xs more in
    record {
      kept = kept;
      same = record {
        zone = same.zone ∙ g.same.zone;
        words = same.words ∙ g.same.words;
        call = same.call ∙ g.same.call;
      };
      made = omega (arith, g.made, made, len);
      inside = inside;
      bytes = subst AreBytes (sym image_is) bytes;
      handed = λ before st.
          let all : List Store = call_stores f.zone f.call before in
          let next : more ≡ take (length more) (drop (length xs) (drop f.made all)) =
          handed before (g.stands before st)
          ∙ ap₂ (λ (z : Zone) (c : Call). take (length more) (drop s.made (call_stores z c before))) g.same.zone
          g.same.call
          ∙ ap (λ m. take (length more) (drop m all)) g.made
          ∙ ap (take (length more)) (sym (drop-drop (length xs) f.made all)) in
          whole ∙ joined xs more (drop f.made all) (g.handed before st) next
          ∙ ap (λ n. take n (drop f.made all)) (sym len);
      stands = λ before st. subst (λ x. StandsFor (flying t line payload) x before) (sym image_is)
          (stands before (g.stands before st));
    }

-- ---- before the first

pub nothing_yet : (image line payload : List ℕ) (s : Steps) (out : Stores) → IsKept (flying s line payload)
    → stores_in out line payload ≡ [] → AreInside s.zone.size out line payload → AreBytes image
    → IsGathered (flying s line payload) image line payload s out
unfolding after_stores
nothing_yet image line payload s out kept none inside bytes = record {
  kept = kept;
  same = record { zone = refl; words = refl; call = refl };
  made = omega (arith, ap length none);
  inside = inside;
  bytes = subst (λ ss. AreBytes (after_stores image ss)) (sym none) bytes;
  handed = λ before st. none
      ∙ ap (λ n. take n (drop s.made (call_stores s.zone (call_of s.kind line payload) before)))
      (sym (ap length none));
  stands = λ before st. subst (λ ss. StandsFor (flying s line payload) (after_stores image ss) before) (sym none) st;
}

-- ---- where the call is not finished a store is left

pub more_left : (f : Flying) → IsKept f → (IsFinished f → ⊥) → f.made < total_of f
more_left f kept h = elim kept.ready [
  | inl done ↦ absurd (h done)
  | inr l ↦ omega (arith, kept.counted, l)
]
