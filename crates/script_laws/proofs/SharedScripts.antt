-- What a reader finds after a script on a zone that many writers share
use Rattle.std.proofs.Common.{◌≡◌, ℕ, zero, suc, ◌+◌, ◌-◌, List, [], ◌∷◌, ◌++◌, length, take, drop, refl, sym, ap, ap₂}
use Rattle.std.proofs.Common.{◌∙◌, subst, arith, append_assoc, Option, Some, None, Result, Ok, Err}
use mathlib.Core.List.{append-nil}
use Rattle.std.specs.Prelude.{slice_get, slice_index, flat_map, fold}
use Rattle.std.proofs.lemmas.List.{length-take, length-drop, length-append}
use Rattle.std.proofs.Math.Seq.{take-append_seam, drop-append_seam}
use Rattle.zone_spec.specs.declared.Zone.{Zone}
use Rattle.zone_spec.specs.Parts.{standing_words}
use Rattle.zone_spec.specs.Reading.{zone_reading, log_places}
use Rattle.zone_spec.specs.Told.{last_items}
use Rattle.machine_spec.specs.Zones.{zone_bytes}
use Rattle.shared_spec.specs.declared.SharedRefusal.{SharedRefusal}
use Rattle.shared_spec.specs.declared.SharedRefusal.TheVariants.{NoSeat as NoSeatThere, Crowded as CrowdedThere}
use Rattle.shared_spec.specs.Calls.{SharedCall, open_count, open_call, all_bytes}
use Rattle.shared_spec.specs.Machine.{SharedZone, CanShare, opened, refusal, reserved_unless, stepped_if}
use Rattle.shared_spec.specs.Runs.{SharedOperation, Reserve as ReserveBytes, StoreNext as StoreByte, operated}
use Rattle.shared_spec.specs.Runs.{shared_after}
use Rattle.shared_spec.specs.Histories.{History, shared_zone, and_then, image_left}
use Rattle.shared_laws.specs.Laws.{HasWordsOfAll, IsOfNoOpenCall}
use Rattle.shared_laws.proofs.Seats.{one_more_operation}
use Rattle.shared_laws.proofs.Counts.{open_call-some}
use Rattle.shared_laws.proofs.Positions.{all_bytes-more, all_bytes-set}
use Rattle.shared_laws.proofs.ClosedImage.{zone_left, log_left}
use Rattle.shared_laws.proofs.Laws.{words_of_all_law, log_differs_at_open_calls}
use Rattle.grammar_spec.specs.declared.line.Line.{Line}
use Rattle.grammar_spec.specs.declared.line.Line.TheVariants.{Blank, Reserve, StoreNext}
use Rattle.script_spec.specs.SharedScripts.{SharedRan, shared_ran, shared_on, next_shared, shared_line, reserves}
use Rattle.script_spec.specs.SharedScripts.{stores, with_steps}
use Rattle.script_spec.specs.declared.Cause.{Cause}
use Rattle.script_laws.specs.SharedScripts.{payload_of, log_in, SharedScriptsReadFullLog}

-- ---- what the lines reserve

-- the second history is of the same zone of the same image, and has these bytes more in its calls
record HasMore (h g : History) (more : List ℕ) : Type 0 where
  zone : g.zone ≡ h.zone
  image : g.image ≡ h.image
  bytes : all_bytes (shared_zone g).calls ≡ all_bytes (shared_zone h).calls ++ more

same_bytes : (h g : History) → g.zone ≡ h.zone → g.image ≡ h.image
    → all_bytes (shared_zone g).calls ≡ all_bytes (shared_zone h).calls → HasMore h g []
same_bytes h g z i b = record { zone = z; image = i; bytes = b ∙ sym (append-nil (all_bytes (shared_zone h).calls)) }

more_and_more : (h g f : History) (xs ys : List ℕ) → HasMore h g xs → HasMore g f ys → HasMore h f (xs ++ ys)
more_and_more h g f xs ys m n = record {
  zone = n.zone ∙ m.zone;
  image = n.image ∙ m.image;
  bytes = n.bytes ∙ ap (λ (l : List ℕ). l ++ ys) m.bytes
      ∙ append_assoc (all_bytes (shared_zone h).calls) xs ys;
}

next_zone : (h : History) (o : SharedOperation) → shared_zone (and_then h o) ≡ operated h.zone (shared_zone h) o
next_zone h o = one_more_operation h.zone (opened h.zone (zone_bytes h.zone h.image)) h.operations o

more_reserved : (h g : History) (payload : List ℕ) (o : Option SharedRefusal)
    → refusal h.zone (shared_zone h).calls (length payload) ≡ o → reserves h payload o ≡ Ok g → HasMore h g payload
more_reserved h g payload None none e =
    let is : g ≡ and_then h (ReserveBytes payload) = cc in
    subst (λ (f : History). HasMore h f payload) (sym is) (record {
      zone = refl;
      image = refl;
      bytes = ap (λ (s : SharedZone). all_bytes s.calls) (next_zone h (ReserveBytes payload)
          ∙ ap (λ (r : Option SharedRefusal). reserved_unless r h.zone (shared_zone h) payload) none)
          ∙ all_bytes-more (shared_zone h).calls (record { payload = payload; stored = 0 });
    })
more_reserved h g payload (Some NoSeatThere) none e = cc
more_reserved h g payload (Some (CrowdedThere n)) none e = cc

same_stepped : (z : Zone) (s : SharedZone) (t : ℕ) (o : Option SharedCall) → open_call s.calls t ≡ o
    → all_bytes (stepped_if o z s t).calls ≡ all_bytes s.calls
same_stepped z s t None e = refl
same_stepped z s t (Some c) e = all_bytes-set s.calls t c (open_call-some s.calls t c e).0

more_stepped : (h : History) (t : ℕ) → HasMore h (and_then h (StoreByte t)) []
more_stepped h t = same_bytes h (and_then h (StoreByte t)) refl refl
    (ap (λ (s : SharedZone). all_bytes s.calls) (next_zone h (StoreByte t))
    ∙ same_stepped h.zone (shared_zone h) t (open_call (shared_zone h).calls t) refl)

more_steps : (h : History) (t k : ℕ) → HasMore h (with_steps h t k) []
unfolding with_steps
more_steps h t zero = same_bytes h h refl refl refl
more_steps h t (suc k) =
    more_and_more h (with_steps h t k) (and_then (with_steps h t k) (StoreByte t)) [] [] (more_steps h t k)
    (more_stepped (with_steps h t k) t)

more_stored : (h g : History) (t k : ℕ) (o : Option SharedCall) → stores h t k o ≡ Ok g → HasMore h g []
more_stored h g t k None e = cc
more_stored h g t k (Some c) e =
    let is : g ≡ with_steps h t k = cc in
    subst (λ (f : History). HasMore h f []) (sym is) (more_steps h t k)

more_line : (h g : History) (line : Line) → shared_line h line ≡ Ok g → HasMore h g (payload_of line)
unfolding shared_line
more_line h g Blank e =
    let is : g ≡ h = cc in subst (λ (f : History). HasMore h f []) (sym is) (same_bytes h h refl refl refl)
more_line h g (Reserve payload) e =
    more_reserved h g payload (refusal h.zone (shared_zone h).calls (length payload)) refl e
more_line h g (StoreNext t k) e = more_stored h g t k (open_call (shared_zone h).calls t) e
more_line h g line e = cc

-- a refused line ends the script
stays_refused : (ran : SharedRan) (lines : List Line) (cause : Cause) → ran.refused ≡ Some cause
    → (fold next_shared ran lines).refused ≡ Some cause
stays_refused ran [] cause e = e
stays_refused ran (x ∷ xs) cause e =
    let same : next_shared ran x ≡ ran =
    ap (λ (o : Option Cause). shared_on ran o (shared_line ran.history x)) e in
    ap (λ (r : SharedRan). (fold next_shared r xs).refused) same ∙ stays_refused ran xs cause e

more_lines : (ran : SharedRan) (lines : List Line) → (fold next_shared ran lines).refused ≡ None
    → HasMore ran.history (fold next_shared ran lines).history (flat_map payload_of lines)
more_lines ran [] none = same_bytes ran.history ran.history refl refl refl
more_lines ran (x ∷ xs) none =
    by ran.refused (shared_line ran.history x) refl refl (more_lines (next_shared ran x) xs none)
  where
    by : (o : Option Cause) (r : Result History Cause) → ran.refused ≡ o → shared_line ran.history x ≡ r
        → HasMore (next_shared ran x).history (fold next_shared (next_shared ran x) xs).history (flat_map payload_of xs)
        → HasMore ran.history (fold next_shared (next_shared ran x) xs).history (payload_of x ++ flat_map payload_of xs)
    by (Some cause) r e f rest =
        let stopped = stays_refused ran (x ∷ xs) cause e in let same : None ≡ Some cause = sym none ∙ stopped in cc
    by None (Err cause) e f rest =
        let at : (next_shared ran x).refused ≡ Some cause =
        ap₂ (λ (o : Option Cause) (r : Result History Cause). (shared_on ran o r).refused) e f in
        let same : None ≡ Some cause = sym none ∙ stays_refused (next_shared ran x) xs cause at in cc
    by None (Ok h) e f rest =
        let at : (next_shared ran x).history ≡ h =
        ap₂ (λ (o : Option Cause) (r : Result History Cause). (shared_on ran o r).history) e f in
        let line : HasMore ran.history (next_shared ran x).history (payload_of x) =
        more_line ran.history (next_shared ran x).history x (f ∙ ap Ok (sym at)) in
        more_and_more ran.history (next_shared ran x).history (fold next_shared (next_shared ran x) xs).history
        (payload_of x) (flat_map payload_of xs) line rest

-- ---- what a reader then finds

record Reads (h : History) (z : Zone) (image bytes left : List ℕ) : Type 0 where
  whole : open_count (shared_zone h).calls ≡ 0 → log_in z left ≡ last_items z.cap (log_in z image ++ bytes)
  torn : (i place : ℕ) → slice_get (log_places (standing_words z (zone_bytes z left)).start
      (standing_words z (zone_bytes z left)).size) i ≡ Some place → IsOfNoOpenCall z (shared_zone h) place
      → slice_index (log_in z left) i ≡ slice_index (last_items z.cap (log_in z image ++ bytes)) i
  before : take z.at left ≡ take z.at image
  behind : drop (z.at + z.size) left ≡ drop (z.at + z.size) image

module _ (h : History) (can : CanShare h.zone (zone_bytes h.zone h.image)) where
  abbrev front : List ℕ
  front = take h.zone.at h.image

  abbrev back : List ℕ
  back = drop (h.zone.at + h.zone.size) h.image

  front-long : h.zone.at ≡ length front
  front-long = omega (
    arith,
    can.sized,
    can.valid.at_least,
    length-take h.zone.at h.image,
    length-take ((h.zone.at + h.zone.size) - h.zone.at) (drop h.zone.at h.image),
    length-drop h.zone.at h.image,
  )

  both-long : h.zone.at + h.zone.size ≡ length (front ++ (shared_zone h).image)
  both-long =
      let w : HasWordsOfAll h.zone (zone_bytes h.zone h.image) (shared_zone h) =
      words_of_all_law h.zone (zone_bytes h.zone h.image) h.operations can in
      omega (arith, front-long, w.sized, length-append front (shared_zone h).image)

  reads_at : Reads h h.zone h.image (all_bytes (shared_zone h).calls) (image_left h)
  reads_at =
      let is : zone_bytes h.zone (image_left h) ≡ (shared_zone h).image = zone_left h can in
      record {
        whole = log_left h can;
        torn = λ i place e free. ap (λ (bytes : List ℕ). slice_index (zone_reading h.zone bytes).log i) is
            ∙ log_differs_at_open_calls h.zone (zone_bytes h.zone h.image) h.operations can i place
            (subst (λ (bytes : List ℕ). slice_get (log_places (standing_words h.zone bytes).start
            (standing_words h.zone bytes).size) i ≡ Some place) is e) free;
        before = ap₂ take front-long (append_assoc front (shared_zone h).image back)
            ∙ take-append_seam front ((shared_zone h).image ++ back);
        behind = ap (λ n. drop n (image_left h)) both-long
            ∙ drop-append_seam (front ++ (shared_zone h).image) back;
      }

reads_of : (h : History) (z : Zone) (image bytes : List ℕ) → h.zone ≡ z → h.image ≡ image
    → all_bytes (shared_zone h).calls ≡ bytes → CanShare z (zone_bytes z image)
    → Reads h z image bytes (image_left h)
reads_of h z image bytes e f g can =
    let at : CanShare h.zone (zone_bytes h.zone h.image) =
    subst (λ (y : Zone). CanShare y (zone_bytes y h.image)) (sym e)
    (subst (λ (xs : List ℕ). CanShare z (zone_bytes z xs)) (sym f) can) in
    subst (λ (y : Zone). Reads h y image bytes (image_left h)) e
    (subst (λ (xs : List ℕ). Reads h h.zone xs bytes (image_left h)) f
    (subst (λ (bs : List ℕ). Reads h h.zone h.image bs (image_left h)) g (reads_at h at)))

opened_empty : (z : Zone) (image bytes : List ℕ)
    → all_bytes (shared_zone (record { image = image; zone = z; operations = [] })).calls ++ bytes ≡ bytes
unfolding shared_after
opened_empty z image bytes = refl

pub full_log_read : SharedScriptsReadFullLog
full_log_read z image lines can none =
    let start : SharedRan = record {
      history = record { image = image; zone = z; operations = [] };
      count = 0;
      refused = None;
    } in
    let more : HasMore start.history (shared_ran z image lines).history (flat_map payload_of lines) =
    more_lines start lines none in
    let reads = reads_of (shared_ran z image lines).history z image (flat_map payload_of lines) more.zone more.image
    (more.bytes ∙ opened_empty z image (flat_map payload_of lines)) can in
    record { whole = reads.whole; torn = reads.torn; before = reads.before; behind = reads.behind }
