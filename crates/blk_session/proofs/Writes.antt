-- The first bytes of writes of which first bytes are taken, and lines that do not ask the store
use Rattle.std.proofs.Common.{◌≡◌, ℕ, ◌-◌, ◌<◌, ◌≤◌, ◌==◌, min, Bool, true, false, if◌then◌else◌, List, [], ◌∷◌, ◌++◌}
use Rattle.std.proofs.Common.{length, take, Option, Some, None, refl, sym, ap, ◌∙◌, arith, length-take}
use Rattle.std.proofs.lemmas.List.{take-take}
use Rattle.blk_spec.specs.declared.BlkCut.{BlkCut}
use Rattle.blk_spec.specs.declared.BlkCut.TheVariants.{Uncut, After, Dropped}
use Rattle.blk_spec.specs.declared.BlkLayout.{BlkLayout}
use Rattle.blk_spec.specs.declared.BlkRing.TheVariants.{Console, Pmsg}
use Rattle.blk_spec.specs.Layout.{ring_zone, dump_zone}
use Rattle.blk_spec.specs.Rings.{header_write, empty_words}
use Rattle.blk_spec.specs.Dumps.{counter_for}
use Rattle.blk_spec.specs.States.{BlkState, load_writes, append_of, dump_of, dump_pieces_of, erase_of}
use Rattle.blk_spec.specs.Session.{Operation, Load, Append, Dump, Erase}
use Rattle.blk_spec.specs.Writes.{Write, store_after, bytes_in, first_bytes, through, reaching, spent, asks_of}
use Rattle.blk_spec.specs.Answers.{Device, further, FailsWithin, HasFront}
use Rattle.grammar_spec.specs.declared.line.Line.{Line}
use Rattle.script_spec.specs.BlkScripts.{operation_of, writes_if, line_writes}
use Rattle.blk_session.specs.Asked.{asks_if, line_asks}
use Rattle.blk_laws.proofs.Pieces.{dump-pieces}
use Rattle.zone_blk.proofs.Effects.{through-within, through-more}
use Rattle.zone_blk.proofs.Sequences.{tried-within}

first-first : (k m : ℕ) (ws : List Write) → k ≤ m → first_bytes k (first_bytes m ws) ≡ first_bytes k ws
unfolding first_bytes
first-first k m [] h = refl
first-first k m (w ∷ ws) h =
    let cut : k - length (take m w.bytes) ≡ k - length w.bytes = omega (arith, length-take m w.bytes) in
    ap (λ (bs : List ℕ). record { at = w.at; bytes = bs } ∷ first_bytes (k - length (take m w.bytes))
    (first_bytes (m - length w.bytes) ws)) (take-take k m w.bytes h)
    ∙ ap (λ (n : ℕ). record { at = w.at; bytes = take k w.bytes } ∷ first_bytes n
    (first_bytes (m - length w.bytes) ws)) cut
    ∙ ap (λ (vs : List Write). record { at = w.at; bytes = take k w.bytes } ∷ vs)
    (first-first (k - length w.bytes) (m - length w.bytes) ws (omega arith))

bytes-first : (m : ℕ) (ws : List Write) → bytes_in (first_bytes m ws) ≡ min m (bytes_in ws)
unfolding bytes_in first_bytes
bytes-first m [] = omega arith
bytes-first m (w ∷ ws) = omega (arith, length-take m w.bytes, bytes-first (m - length w.bytes) ws)

through-all : (c : BlkCut) (n m : ℕ) → n ≤ m → through c n ≤ through c m
through-all Uncut n m h = h
through-all (After limit) n m h = omega arith
through-all Dropped n m h = omega arith

through-few : (c : BlkCut) (n : ℕ) (ws : List Write) → n ≤ bytes_in ws → through c n ≤ bytes_in (reaching c ws)
through-few c n ws h = omega (
  arith,
  through-all c n (bytes_in ws) h,
  bytes-first (through c (bytes_in ws)) ws,
  through-within c (bytes_in ws),
)

-- writes and their pieces, which have as many bytes
module _ (c d : BlkCut) (ws pieces : List Write) (same : bytes_in pieces ≡ bytes_in ws) (before now : Device)
    (f : FailsWithin ws pieces c d before now) where
  tried : f.tried ≤ bytes_in ws
  tried = omega (arith, same, tried-within f.made f.others pieces f.failed f.tried f.parts f.within)

  -- what a failed call wrote is a front of what reaches the store
  pub front-reached : HasFront (reaching c ws) before.holds now.holds
  front-reached =
      let most : f.kept ≤ through c (bytes_in ws) = omega (arith, f.most, through-all c f.tried (bytes_in ws) tried) in
      record {
        kept = f.kept;
        within = omega (arith, f.most, through-few c f.tried ws tried);
        store = f.store ∙ ap (λ (vs : List Write). store_after vs before.holds)
            (sym (first-first f.kept (through c (bytes_in ws)) ws most));
      }

  -- and some byte of it reaches the store
  pub some-reached : 0 < bytes_in (reaching c ws)
  some-reached = omega (arith, f.some, through-few c f.tried ws tried)

-- pieces of which no byte reaches the store do not ask it
asks-nothing : (c : BlkCut) (ps : List Write) → through c (bytes_in ps) ≡ 0 → asks_of c ps ≡ 0
unfolding asks_of bytes_in
asks-nothing c [] e = refl
asks-nothing c (p ∷ ps) e =
    let parts = through-more c (length p.bytes) (bytes_in ps) in
    let first : through c (length p.bytes) ≡ 0 = omega (arith, e, parts) in
    let rest : through (spent (length p.bytes) c) (bytes_in ps) ≡ 0 = omega (arith, e, parts) in
    let one : ◌≡◌ {A = ℕ} (if through c (length p.bytes) == 0 then 0 else 1) 0 = rw first refl in
    omega (arith, one, asks-nothing (spent (length p.bytes) c) ps rest)

-- nor do those of writes of which none reaches it
none-asked : (c : BlkCut) (ws pieces : List Write) → bytes_in pieces ≡ bytes_in ws → bytes_in (reaching c ws) ≡ 0
    → asks_of c pieces ≡ 0
none-asked c ws pieces same e =
    let none : through c (bytes_in ws) ≡ 0 = omega (
      arith,
      e,
      bytes-first (through c (bytes_in ws)) ws,
      through-within c (bytes_in ws),
    ) in
    asks-nothing c pieces (ap (through c) same ∙ none)

-- a header is never empty
load-unasked : (l : BlkLayout) → bytes_in (load_writes l) ≡ 0 → length (load_writes l) ≡ 0
unfolding load_writes bytes_in
load-unasked l e = both (l.pmsg == 0) (l.console == 0) e
  where
    rings : Bool → Bool → List Write
    rings p q = (if p then [] else header_write (ring_zone l Pmsg) empty_words ∷ [])
        ++ (if q then [] else header_write (ring_zone l Console) empty_words ∷ [])

    both : (p q : Bool) → bytes_in (rings p q) ≡ 0 → length (rings p q) ≡ 0
    both true true e = refl
    both true false e = cc
    both false true e = cc
    both false false e = cc

operation-unasked : (layout : BlkLayout) (old : Option BlkState) (o : Option Operation)
    → bytes_in (writes_if layout old o) ≡ 0 → asks_if layout old o ≡ 0
operation-unasked layout old None e = refl
operation-unasked layout None (Some Load) e = load-unasked layout e
operation-unasked layout None (Some other) e = refl
operation-unasked layout (Some b) (Some Load) e = load-unasked b.layout e
operation-unasked layout (Some b) (Some (Append ring payload)) e =
    none-asked b.cut (append_of b ring payload) (append_of b ring payload) refl e
operation-unasked layout (Some b) (Some (Dump time packed reason body)) e =
    none-asked b.cut (dump_of b time packed reason body) (dump_pieces_of b time packed reason body)
    (dump-pieces (dump_zone b.layout b.cursor) time packed (counter_for reason b.counters) reason body).0 e
operation-unasked layout (Some b) (Some (Erase (Some name))) e =
    none-asked b.cut (erase_of b name) (erase_of b name) refl e
operation-unasked layout (Some b) (Some other) e = refl

pub line-unasked : (layout : BlkLayout) (old : Option BlkState) (line : Line) (before now : Device)
    → now.writes ≡ further (line_asks layout old line) before.writes → bytes_in (line_writes layout old line) ≡ 0
    → now.writes ≡ before.writes
line-unasked layout old line before now asked e =
    asked ∙ ap (λ n. further n before.writes) (operation-unasked layout old (operation_of old line) e)
