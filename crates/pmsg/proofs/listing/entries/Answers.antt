-- Each step adds the whole entry that stands at the place and goes to its end; at the end of the
-- bytes none is left. For `entries`.
use Rattle.std.proofs.Common.{◌≡◌, ◌+◌, ◌-◌, ◌<◌, ◌≤◌, ◌++◌, ◌∷◌, [], true, List, ℕ, ◌∙◌, sym, ap, length, drop, arith}
use Rattle.std.proofs.Common.{length-drop}
use Rattle.std.proofs.lemmas.List.{append_assoc, append-nil}
use Rattle.pmsg_spec.specs.declared.Entry.{Entry}
use Rattle.pmsg_spec.specs.Entries.{is_entry, entry_len, are_entries, entry_of, listed, entries}
use Rattle.pmsg.proofs.Skips.{Fits, fits, stands, follow_here, listed_here, none_listed}
use Rattle.pmsg.proofs.listing.entries.Goals as goal

-- an entry stands at a place, if one follows
stands_at : (at : ℕ) (bytes : List ℕ) → at < length bytes → are_entries (drop at bytes) ≡ true
    → is_entry (drop at bytes) ≡ true
stands_at at bytes h e = stands (drop at bytes) (omega (arith, length-drop at bytes)) e

pub entry_at-entry-requires-clause-stands : goal.entry_at-entry-requires-clause-stands
entry_at-entry-requires-clause-stands c =
    ap is_entry c.tail.ensures
    ∙ stands_at c.entries.at c.args.bytes.now c.entries-test.true c.entries.invariant.follow

record Step (at next : ℕ) (bytes : List ℕ) (entry : Entry) : Type 0 where
  after : at < next
  within : next ≤ length bytes
  follow : are_entries (drop next bytes) ≡ true
  listed : listed at 0 (drop at bytes) ≡ entry ∷ listed next 0 (drop next bytes)

step : (at : ℕ) (bytes rest : List ℕ) (entry : Entry) → at < length bytes → are_entries (drop at bytes) ≡ true
    → rest ≡ drop at bytes → entry ≡ entry_of at rest → Step at entry.end bytes entry
step at bytes rest entry h e g k =
    let s : is_entry (drop at bytes) ≡ true = stands_at at bytes h e in
    let f : Fits (drop at bytes) = fits (drop at bytes) s in
    let same : entry ≡ entry_of at (drop at bytes) = k ∙ ap (entry_of at) g in
    let n : entry.end ≡ at + entry_len (drop at bytes) = ap (λ (x : Entry). x.end) same in
    record {
      after = omega (arith, n, f.least);
      within = omega (arith, n, f.within, length-drop at bytes);
      follow = ap (λ m. are_entries (drop m bytes)) n ∙ sym (follow_here at bytes s) ∙ e;
      listed = listed_here at bytes s
          ∙ ap (λ x. x ∷ listed (at + entry_len (drop at bytes)) 0 (drop (at + entry_len (drop at bytes)) bytes))
          (sym same)
          ∙ ap (λ m. entry ∷ listed m 0 (drop m bytes)) (sym n);
    }

pub entries-smaller : goal.entries-smaller
entries-smaller c =
    let s : Step c.entries.at c.entry_at-entry.result.end c.args.bytes.now c.entry_at-entry.result =
    step c.entries.at c.args.bytes.now c.tail.result.now c.entry_at-entry.result c.entries-test.true
    c.entries.invariant.follow c.tail.ensures c.entry_at-entry.ensures in
    omega (arith, s.after, s.within)

pub entries-preserved : goal.entries-preserved
entries-preserved c =
    let s : Step c.entries.at c.entry_at-entry.result.end c.args.bytes.now c.entry_at-entry.result =
    step c.entries.at c.args.bytes.now c.tail.result.now c.entry_at-entry.result c.entries-test.true
    c.entries.invariant.follow c.tail.ensures c.entry_at-entry.ensures in
    record {
      within = s.within;
      follow = s.follow;
      so_far = c.entries.invariant.so_far ∙ ap (λ rest. c.entries.all.items ++ rest) s.listed
          ∙ sym (append_assoc c.entries.all.items (c.entry_at-entry.result ∷ [])
          (listed c.entry_at-entry.result.end 0 (drop c.entry_at-entry.result.end c.args.bytes.now)))
          ∙ ap (λ items. items ++ listed c.entry_at-entry.result.end 0 (drop c.entry_at-entry.result.end c.args.bytes.now))
          (sym c.in_ok-push.ensures.items);
    }

pub returns : goal.returns
returns c =
    sym (c.entries.invariant.so_far
    ∙ ap (λ rest. c.entries.all.items ++ rest)
    (none_listed c.entries.at c.args.bytes.now c.entries-test.false)
    ∙ append-nil c.entries.all.items)
