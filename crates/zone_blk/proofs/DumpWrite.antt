-- The one write of a dump, and its pieces
use Rattle.std.proofs.Common.{◌≡◌, ℕ, ◌+◌, ◌-◌, ◌≤◌, Bool, List, ◌∷◌, length, Option, Some, None, Result, Ok, Err, refl}
use Rattle.std.proofs.Common.{ap, ◌∙◌}
use Rattle.blk_spec.specs.declared.BlkZone.{BlkZone}
use Rattle.blk_spec.specs.declared.BlkTime.{BlkTime}
use Rattle.kmsg_spec.specs.declared.Reason.{Reason}
use Rattle.kmsg_spec.specs.Reasons.{reason_number}
use Rattle.blk_spec.specs.Rings.{header_bytes}
use Rattle.blk_spec.specs.Dumps.{dump_header, body_kept, dump_writes, dump_pieces, zeros_by}
use Rattle.blk_spec.specs.declared.BlkCut.{BlkCut}
use Rattle.blk_spec.specs.Writes.{Write, after_writes, store_after, bytes_in, first_bytes, through, spent, in_pieces}
use Rattle.blk_spec.specs.Answers.{HasRoom, Device}
use Rattle.outside.specs.declared.outside.Failed.{Failed}
use Rattle.zone_blk.specs.Outcomes.{Ends, EndsAs}
use Rattle.blk_laws.proofs.Pieces.{dump-pieces}

pub dump-is : (z : BlkZone) (time : BlkTime) (packed : Bool) (counter : ℕ) (reason : Reason)
    (body kept header front : List ℕ) → kept ≡ body_kept z body
    → header ≡ header_bytes z.sig (record { size = 40 + length kept; start = 0 })
    → front ≡ dump_header time packed counter (reason_number reason)
    → in_pieces z.at (header ∷ front ∷ kept ∷ zeros_by 65536 (z.size - (length header + length front + length kept)))
    ≡ dump_pieces z time packed counter reason body
unfolding dump_pieces
dump-is z time packed counter reason body kept header front k h f = rw (h, f, k) refl

module _ (z : BlkZone) (time : BlkTime) (packed : Bool) (counter : ℕ) (reason : Reason) (body : List ℕ)
    (c d : BlkCut) (old new : Device) (room : HasRoom z.at old.holds) where
  abbrev ws : List Write
  ws = dump_writes z time packed counter reason body

  abbrev pieces : List Write
  pieces = dump_pieces z time packed counter reason body

  law : (bytes_in pieces ≡ bytes_in ws) × ((k : ℕ) (store : List ℕ) → z.at ≤ length store
      → after_writes (first_bytes k pieces) store ≡ after_writes (first_bytes k ws) store)
  law = dump-pieces z time packed counter reason body

  same-told : (k : ℕ) (store : Option (List ℕ)) → HasRoom z.at store
      → store_after (first_bytes k pieces) store ≡ store_after (first_bytes k ws) store
  same-told k None h = refl
  same-told k (Some bytes) h = ap Some (law.1 k bytes h.room)

  -- a dump that ended in its pieces ended as its one write
  pub dump-ends : {T : Type 0} (r : Result T Failed) → Ends r pieces c d old new → EndsAs r ws pieces c d old new
  dump-ends (Ok done) p = record {
    store = p.store ∙ same-told (through c (bytes_in pieces)) old.holds room
        ∙ ap (λ n. store_after (first_bytes (through c n) ws) old.holds) law.0;
    cut = p.cut ∙ ap (λ n. spent n c) law.0;
    asked = p.asked;
    unread = p.unread;
  }
  dump-ends (Err failed) p = record {
    made = p.made;
    failed = p.failed;
    others = p.others;
    tried = p.tried;
    kept = p.kept;
    parts = p.parts;
    within = p.within;
    some = p.some;
    least = p.least;
    most = p.most;
    store = p.store ∙ same-told p.kept old.holds room;
    cut = p.cut;
    asked = p.asked;
    unread = p.unread;
  }
