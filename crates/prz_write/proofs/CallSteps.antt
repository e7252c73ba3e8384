-- A flight's steps are those of its call
use Rattle.std.proofs.Common.{◌≡◌, ℕ, List, refl, ap, ap₂, ◌∙◌}
use Rattle.zone_spec.specs.Told.{Call}
use Rattle.prz_write.specs.declared.call.Call.{Call as RustCall}
use Rattle.prz_write.specs.declared.call.Call.TheVariants.{Append as RustAppend, Erase as RustErase, Dump as RustDump}
use Rattle.prz_write.specs.declared.progress.Progress.{Progress}
use Rattle.store_steps.specs.Calls.{call_of}
use Rattle.store_steps.specs.Flying.{flying}
use Rattle.prz_write.specs.Calls.{call_seen, kind_seen, line_seen, payload_seen}
use Rattle.prz_write.specs.Seen.{seen}

pub whole : (call : RustCall) → call_of (kind_seen call) (line_seen call) (payload_seen call) ≡ call_seen call
whole (RustAppend payload) = refl
whole RustErase = refl
whole (RustDump line body) = refl

-- with what the call lends
pub seen_by : (p : Progress) (line payload : List ℕ) → p.steps.kind ≡ kind_seen p.call → line ≡ line_seen p.call
    → payload ≡ payload_seen p.call → flying p.steps line payload ≡ seen p
seen_by p line payload e l b =
    ap (λ (call : Call). record (seen p) { call = call })
    (ap (λ k. call_of k line payload) e ∙ ap₂ (λ x y. call_of (kind_seen p.call) x y) l b ∙ whole p.call)
