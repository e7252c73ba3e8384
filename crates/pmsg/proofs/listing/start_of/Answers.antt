-- One place further back it is known too whether entries follow from there; if so, they begin
-- there. For `start_of`.
use Rattle.std.proofs.Common.{◌≡◌, ℕ, ◌+◌, ◌-◌, ◌<◌, ◌≤◌, ◌≢◌, Bool, true, false, List, length, drop, get_or, set, ◌∙◌}
use Rattle.std.proofs.Common.{sym, ap, arith, inl, inr, subst, get_or-set_other, get_or-set_same}
use Rattle.std.proofs.lemmas.Bool.{cases_lt}
use Rattle.std.proofs.Math.ListN.{length-set, replicate}
use Rattle.std.proofs.lemmas.List.{get_or-replicate, length-replicate}
use Rattle.pmsg_spec.specs.Entries.{are_entries, entries_from, listed}
use Rattle.pmsg.specs.Follow.{FollowFrom}
use Rattle.pmsg.proofs.Skips.{none_follow, none_from, from_here, from_behind}
use Rattle.pmsg.proofs.listing.start_of.Goals as goal

-- one place more
known_more : (bytes : List ℕ) (follow : List Bool) (from at : ℕ) (b : Bool) → from ≡ at + 1
    → FollowFrom bytes from follow → at < length follow → b ≡ are_entries (drop at bytes)
    → FollowFrom bytes at (set follow at b)
known_more bytes follow from at b g h w e = record {
  each = λ k low high. elim (cases_lt at k) [
    | inl more ↦ (let ne : k ≢ at = omega arith in rw get_or-set_other (h.each k (omega arith) high))
    | inr less ↦ (let same : k ≡ at = omega arith in
        subst (λ (n : ℕ). get_or (set follow at b) n false ≡ are_entries (drop n bytes)) (sym same)
        (rw get_or-set_same e))
  ];
}

pub places-init : goal.places-init
places-init c =
    let bytes : List ℕ = c.args.bytes.now in
    let items : c.in_ok-follow.follow.items ≡ replicate (length bytes + 1) true = c.in_ok-follow.ensures in
    record {
      within = omega arith;
      len = ap length items ∙ length-replicate (length bytes + 1) true;
      known = record {
        each = λ at low high. ap (λ (follow : List Bool). get_or follow at false) items
            ∙ get_or-replicate (length bytes + 1) at true false (omega arith)
            ∙ sym (none_follow at bytes low);
      };
      start = omega arith;
      entries = none_follow (length bytes) bytes (omega arith);
      first = none_from (length bytes) bytes (omega arith);
    }

pub places-preserved-then-is_start : goal.places-preserved-then-is_start
places-preserved-then-is_start c =
    let at : ℕ = c.places.at - 1 in
    let back : c.places.at ≡ at + 1 = omega (arith, c.places-test.true) in
    let w : at < length c.args.bytes.now = omega (arith, c.places.invariant.within) in
    let yes : are_entries (drop at c.args.bytes.now) ≡ true =
    sym c.follow_from-is_start.ensures ∙ c.if-is_start.true in
    record {
      within = omega arith;
      len = length-set c.places.follow.items at c.follow_from-is_start.result ∙ c.places.invariant.len;
      known = known_more c.args.bytes.now c.places.follow.items c.places.at at c.follow_from-is_start.result back
          c.places.invariant.known (omega (arith, c.places.invariant.len)) c.follow_from-is_start.ensures;
      start = omega arith;
      entries = yes;
      first = from_here at c.args.bytes.now w yes;
    }

pub places-preserved : goal.places-preserved
places-preserved c =
    let at : ℕ = c.places.at - 1 in
    let back : c.places.at ≡ at + 1 = omega (arith, c.places-test.true) in
    let w : at < length c.args.bytes.now = omega (arith, c.places.invariant.within) in
    record {
      within = omega arith;
      len = length-set c.places.follow.items at c.follow_from-is_start.result ∙ c.places.invariant.len;
      known = known_more c.args.bytes.now c.places.follow.items c.places.at at c.follow_from-is_start.result back
          c.places.invariant.known (omega (arith, c.places.invariant.len)) c.follow_from-is_start.ensures;
      start = c.places.invariant.start;
      entries = c.places.invariant.entries;
      first = from_behind at c.args.bytes.now w (sym c.follow_from-is_start.ensures ∙ c.if-is_start.false)
          ∙ ap (λ n. entries_from n (drop n c.args.bytes.now)) (sym back)
          ∙ c.places.invariant.first;
    }
