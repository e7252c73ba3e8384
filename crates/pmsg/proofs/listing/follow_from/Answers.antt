-- If a whole entry stands at the place, entries follow from there exactly when they do from its
-- end. If none stands there, they do not. For `follow_from`.
use Rattle.std.proofs.Common.{◌≡◌, ◌+◌, ◌<◌, Bool, true, false, List, ℕ, ◌∙◌, sym, ap, length, drop, arith, length-drop}
use Rattle.pmsg_spec.specs.Entries.{is_entry, entry_len, are_entries}
use Rattle.pmsg.proofs.Skips.{Fits, fits, follow_here, follow_no}
use Rattle.pmsg.proofs.listing.follow_from.Goals as goal

-- an entry stands at the place
here : (rest xs : List ℕ) (b : Bool) → rest ≡ xs → b ≡ is_entry rest → b ≡ true → is_entry xs ≡ true
here rest xs b e f g = ap is_entry (sym e) ∙ sym f ∙ g

pub returns-then-is_entry : goal.returns-then-is_entry
returns-then-is_entry c =
    let xs : List ℕ = drop c.args.at c.args.bytes.now in
    let e : is_entry xs ≡ true =
    here c.tail-rest.result.now xs c.is_entry.result c.tail-rest.ensures c.is_entry.ensures c.if-is_entry.true in
    let n : c.entry_len.result ≡ entry_len xs = c.entry_len.ensures.len ∙ ap entry_len c.tail-rest.ensures in
    let f : Fits xs = fits xs e in
    c.requires.known.each (c.args.at + c.entry_len.result) (omega (arith, c.entry_len.ensures.least))
    (omega (arith, n, f.within, length-drop c.args.at c.args.bytes.now))
    ∙ ap (λ k. are_entries (drop (c.args.at + k) c.args.bytes.now)) n
    ∙ sym (follow_here c.args.at c.args.bytes.now e)

pub returns-else-is_entry : goal.returns-else-is_entry
returns-else-is_entry c =
    c.if-is_entry.false
    ∙ sym (follow_no (drop c.args.at c.args.bytes.now) (omega (arith, length-drop c.args.at c.args.bytes.now)) (ap is_entry (sym c.tail-rest.ensures) ∙ sym c.is_entry.ensures ∙ c.if-is_entry.false))
