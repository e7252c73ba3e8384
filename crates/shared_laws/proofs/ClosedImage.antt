-- The zone of an image that a history leaves
use Rattle.std.proofs.Common.{◌≡◌, ℕ, ◌+◌, ◌-◌, List, ◌++◌, length, take, drop, sym, ap, ap₂, ◌∙◌, arith, append_assoc}
use Rattle.std.specs.Prelude.{slice_range}
use Rattle.std.proofs.lemmas.List.{length-take, length-drop}
use Rattle.std.proofs.Math.Seq.{take-append_seam, drop-append_seam}
use Rattle.machine_spec.specs.Zones.{zone_bytes}
use Rattle.shared_spec.specs.Machine.{CanShare, full_list}
use Rattle.shared_spec.specs.Calls.{open_count}
use Rattle.shared_spec.specs.Histories.{History, shared_zone, image_left}
use Rattle.zone_spec.specs.Reading.{zone_reading}
use Rattle.shared_laws.specs.Laws.{HasWordsOfAll}
use Rattle.shared_laws.proofs.Laws.{words_of_all_law, log_is_full_list}

middle : (xs ys zs : List ℕ) (at size : ℕ) → length xs ≡ at → length ys ≡ size
    → slice_range (xs ++ ys ++ zs) at (at + size) ≡ ys
middle xs ys zs at size e f =
    let n : (at + size) - at ≡ length ys = omega (arith, f) in
    ap₂ take n (ap₂ drop (sym e) (append_assoc xs ys zs) ∙ drop-append_seam xs (ys ++ zs))
    ∙ take-append_seam ys zs

pub zone_left : (h : History) → CanShare h.zone (zone_bytes h.zone h.image)
    → zone_bytes h.zone (image_left h) ≡ (shared_zone h).image
zone_left h can =
    let w : HasWordsOfAll h.zone (zone_bytes h.zone h.image) (shared_zone h) =
    words_of_all_law h.zone (zone_bytes h.zone h.image) h.operations can in
    middle (take h.zone.at h.image) (shared_zone h).image (drop (h.zone.at + h.zone.size) h.image) h.zone.at h.zone.size
    (omega (
      arith,
      can.sized,
      can.valid.at_least,
      length-take h.zone.at h.image,
      length-take ((h.zone.at + h.zone.size) - h.zone.at) (drop h.zone.at h.image),
      length-drop h.zone.at h.image,
    ))
    w.sized

-- with no call open its log is the full list
pub log_left : (h : History) → CanShare h.zone (zone_bytes h.zone h.image) → open_count (shared_zone h).calls ≡ 0
    → (zone_reading h.zone (zone_bytes h.zone (image_left h))).log
    ≡ full_list h.zone (zone_bytes h.zone h.image) (shared_zone h).calls
log_left h can none =
    ap (λ bytes. (zone_reading h.zone bytes).log) (zone_left h can)
    ∙ log_is_full_list h.zone (zone_bytes h.zone h.image) h.operations can none
