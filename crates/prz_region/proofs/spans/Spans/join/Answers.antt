-- The last piece lies right before the rest, so the two can be glued to one. For the loop of
-- `join`.
use Rattle.std.proofs.Common.{◌≡◌, ℕ, ◌*◌, List, [], ◌∷◌, ◌++◌, sym, ap, subst, ◌∙◌, arith}
use denote.RawPtr.{Ptr, ◌+ₚ◌}
use Rattle.std.specs.List.{concat}
use Rattle.std.specs.Vec.{vec_ptr}
use Rattle.core.specs.Mem.Slots.{slots_ptr, slots_len, slots_items}
use Rattle.core.specs.declared.slots.Slots.{Slots}
use Rattle.prz_region.specs.declared.pieces.Piece.{Piece}
use Rattle.prz_region.specs.Chain.{Chain, all_bytes, all_len, piece_bytes}
use Rattle.prz_region.proofs.Chains.{len-append, chain-front, chain-last, bytes-append, concat-more}
use Rattle.prz_region.proofs.spans.Spans.join.Goals as goal

pub glue-rest-requires : goal.glue-rest-requires
glue-rest-requires c =
    let laid = c.loop-piece.invariant.laid in
    let shell = c.self.inside.shell in
    let items : c.loop-piece.list.items ≡ c.pop.new.self.items ++ c.in-Some.piece ∷ [] = c.in-Some.ensures.items in
    let chain : Chain (vec_ptr shell) (c.pop.new.self.items ++ c.in-Some.piece ∷ []) (slots_ptr c.loop-piece.rest) =
    subst (λ (ss : List Piece). Chain (vec_ptr shell) ss (slots_ptr c.loop-piece.rest)) items laid.chain in
    let one : slots_len c.in-Some.piece.slots ≡ slots_len c.in-Some.piece.slots * 1 = omega arith in
    let more = ap all_len items ∙ len-append c.pop.new.self.items c.in-Some.piece in
    let same = c.into_slots.ensures.0 in
    let count : slots_len c.into_slots.result ≡ slots_len c.in-Some.piece.slots = ap slots_len same in (
      chain-last _ _ c.pop.new.self.items c.in-Some.piece chain
          ∙ ap (λ (n : ℕ). slots_ptr c.in-Some.piece.slots +ₚ n) one
          ∙ ap (λ (row : Slots ℕ). slots_ptr row +ₚ (slots_len row * 1)) (sym same),
      c.into_slots.ensures.1,
      laid.full,
      omega (arith, count, more, laid.long, shell.ok.1, shell.small),
      omega (arith, count, more, laid.long, shell.ok.1, shell.small),
    )

pub loop-piece-preserved : goal.loop-piece-preserved
loop-piece-preserved c =
    let laid = c.loop-piece.invariant.laid in
    let shell = c.self.inside.shell in
    let items : c.loop-piece.list.items ≡ c.pop.new.self.items ++ c.in-Some.piece ∷ [] = c.in-Some.ensures.items in
    let chain : Chain (vec_ptr shell) (c.pop.new.self.items ++ c.in-Some.piece ∷ []) (slots_ptr c.loop-piece.rest) =
    subst (λ (ss : List Piece). Chain (vec_ptr shell) ss (slots_ptr c.loop-piece.rest)) items laid.chain in
    let more = ap all_len items ∙ len-append c.pop.new.self.items c.in-Some.piece in
    let glued = c.glue-rest.ensures in
    record {
      laid = record {
        chain = subst (λ (p : Ptr). Chain (vec_ptr shell) c.pop.new.self.items p)
            (sym (glued.2 ∙ ap slots_ptr c.into_slots.ensures.0))
            (chain-front _ _ c.pop.new.self.items c.in-Some.piece chain);
        full = glued.1;
        long = omega (arith, more, laid.long, glued.3, ap slots_len c.into_slots.ensures.0);
      };
      bytes = ap (λ (l : List ℕ). concat (all_bytes c.pop.new.self.items) ++ l)
          (glued.0 ∙ ap (λ (row : Slots ℕ). slots_items row ++ slots_items c.loop-piece.rest) c.into_slots.ensures.0)
          ∙ sym (concat-more (all_bytes c.pop.new.self.items) (piece_bytes c.in-Some.piece)
          (slots_items c.loop-piece.rest))
          ∙ ap (λ (l : List (List ℕ)). concat l ++ slots_items c.loop-piece.rest)
          (sym (bytes-append c.pop.new.self.items (c.in-Some.piece ∷ [])) ∙ ap all_bytes (sym items))
          ∙ c.loop-piece.invariant.bytes;
    }
