-- Stores as they are handed out, made in a span, and some after others
use Rattle.std.proofs.Common.{◌≡◌, ℕ, ◌+◌, ◌<◌, List, [], ◌++◌, refl, sym, ap, ◌∙◌, take, drop, length}
use Rattle.std.proofs.Common.{length-append, arith}
use lib.Seq.{drop-drop}
use Rattle.std.proofs.Math.Seq.{take-add}
use Rattle.ring_laws.proofs.Images.{length-after_stores}
use Rattle.zone_spec.specs.Stores.{Store as DefinedStore, byte_stores}
use Rattle.prz_region.specs.CutRegion.{CutRegion, span, stored}
use Rattle.prz_region.proofs.Cuts.{stored-again, stored-none, span-stored, span-length, spans-length}
use Rattle.store_steps.specs.declared.store.Store.{Store}
use Rattle.store_steps.specs.Handed.{handed}
use Rattle.prz_write.specs.Made.{HasStored}

module _ (s : Store) (line payload : List ℕ) (old : CutRegion) (i : ℕ) (new : CutRegion) where
  pub made : (ss : List DefinedStore) → handed s line payload ≡ ss → new ≡ stored old i ss
      → new ≡ stored old i (handed s line payload)
  made ss e h = h ∙ ap (λ (xs : List DefinedStore). stored old i xs) (sym e)

  pub made_bytes : (at : ℕ) (bs cs : List ℕ) → handed s line payload ≡ byte_stores at bs → cs ≡ bs
      → new ≡ stored old i (byte_stores at cs) → new ≡ stored old i (handed s line payload)
  made_bytes at bs cs e k h =
      made (byte_stores at bs) e (h ∙ ap (λ (xs : List ℕ). stored old i (byte_stores at xs)) k)

-- r stores behind the first k
pub made_after : (old mid new : CutRegion) (i m k r : ℕ) (cs : List DefinedStore) → i < length old.spans
    → mid ≡ stored old i (take k (drop m cs)) → new ≡ stored mid i (take r (drop (m + k) cs))
    → new ≡ stored old i (take (k + r) (drop m cs))
made_after old mid new i m k r cs lt e f =
    f ∙ ap (λ (c : CutRegion). stored c i (take r (drop (m + k) cs))) e
    ∙ stored-again old i (take k (drop m cs)) (take r (drop (m + k) cs)) lt
    ∙ ap (λ (xs : List DefinedStore). stored old i (take k (drop m cs) ++ take r xs)) (sym (drop-drop k m cs))
    ∙ ap (λ (xs : List DefinedStore). stored old i xs) (sym (take-add k r (drop m cs)))

pub none_yet : (c : CutRegion) (i : ℕ) → HasStored i 0 c c
none_yet c i = record { stores = []; count = refl; made = sym (stored-none c i) }

pub more_yet : (old mid new : CutRegion) (i k r n : ℕ) → i < length old.spans → HasStored i k old mid
    → HasStored i r mid new → k + r ≡ n → HasStored i n old new
more_yet old mid new i k r n lt a b e = record {
  stores = a.stores ++ b.stores;
  count = omega (arith, length-append a.stores b.stores, a.count, b.count, e);
  made = b.made ∙ ap (λ (c : CutRegion). stored c i b.stores) a.made ∙ stored-again old i a.stores b.stores lt;
}

-- the spans are as many and as long as before
pub has_same_count : (old new : CutRegion) (i n : ℕ) → HasStored i n old new → length new.spans ≡ length old.spans
has_same_count old new i n h = ap (λ (c : CutRegion). length c.spans) h.made ∙ spans-length old i h.stores

pub has_same_len : (old new : CutRegion) (i n : ℕ) → i < length old.spans → HasStored i n old new
    → length (span new i) ≡ length (span old i)
has_same_len old new i n lt h = ap (λ (c : CutRegion). length (span c i)) h.made
    ∙ ap length (span-stored old i h.stores lt) ∙ length-after_stores (span old i) h.stores

-- stores in a span, and then others there
two : (old mid new : CutRegion) (i : ℕ) (a b : List DefinedStore) → i < length old.spans → mid ≡ stored old i a
    → new ≡ stored mid i b → new ≡ stored old i (a ++ b)
two old mid new i a b lt e f = f ∙ ap (λ (c : CutRegion). stored c i b) e ∙ stored-again old i a b lt

pub four : (r0 r1 r2 r3 r4 : CutRegion) (i : ℕ) (a b c d : List DefinedStore) → i < length r0.spans
    → r1 ≡ stored r0 i a → r2 ≡ stored r1 i b → r3 ≡ stored r2 i c → r4 ≡ stored r3 i d
    → r4 ≡ stored r0 i ((a ++ b) ++ (c ++ d))
four r0 r1 r2 r3 r4 i a b c d lt e f g h =
    let front : r2 ≡ stored r0 i (a ++ b) = two r0 r1 r2 i a b lt e f in
    let same : length r2.spans ≡ length r0.spans =
    ap (λ (x : CutRegion). length x.spans) front ∙ spans-length r0 i (a ++ b) in
    two r0 r2 r4 i (a ++ b) (c ++ d) lt front (two r2 r3 r4 i c d (omega (arith, lt, same)) g h)

-- the span is as long as before
pub same_len : (old new : CutRegion) (i : ℕ) (ss : List DefinedStore) → new ≡ stored old i ss
    → length (span new i) ≡ length (span old i)
same_len old new i ss e = ap (λ (c : CutRegion). length (span c i)) e ∙ span-length old i i ss
