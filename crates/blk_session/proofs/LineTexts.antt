-- What the output was given of lines, whether the store tells its bytes or not
use Rattle.std.proofs.Common.{ℕ, List, [], ◌++◌, take, Option}
use Rattle.std.proofs.KnownBytes.{Appends-nil, Appends-trans}
use Rattle.blk_spec.specs.declared.BlkLayout.{BlkLayout}
use Rattle.blk_spec.specs.States.{BlkState}
use Rattle.grammar_spec.specs.declared.line.Line.{Line}
use Rattle.script_spec.specs.declared.LineStop.{LineStop}
use Rattle.script_spec.specs.declared.LineStop.TheVariants.{Memory, StoreFault, SinkFault, Refused}
use Rattle.script_spec.specs.Playing.{PutsText}
use Rattle.blk_session.specs.Playing.{Seen, Puts, LineStops}

pub text_none : (given : Option (List ℕ)) → PutsText given given
text_none given = record { text = []; put = Appends-nil given }

text_more : (old now next : Option (List ℕ)) → PutsText old now → PutsText now next → PutsText old next
text_more old now next h k =
    record { text = h.text ++ k.text; put = Appends-trans old now next h.text k.text h.put k.put }

-- of a line that stopped
stop_text : (stop : LineStop) (layout : BlkLayout) (blk : Option BlkState) (line : Line) (number : ℕ) (b c : Seen)
    → LineStops stop layout blk line number b c → PutsText b.given c.given
stop_text Memory layout blk line number b c h = rw h.0 (text_none b.given)
stop_text StoreFault layout blk line number b c h = rw h.0 (text_none b.given)
stop_text SinkFault layout blk line number b c h =
    record { text = take h.1.put.count h.1.text; put = h.1.put.bytes }
stop_text (Refused n cause) layout blk line number b c h = rw h.1 (text_none b.given)

module _ (layout : BlkLayout) (blk : Option BlkState) (line : Line) (a b : Seen) (so_far : PutsText a.given b.given)
  where
    pub next_text : (next : Option BlkState) (c : Seen) → Puts layout blk line next b c → PutsText a.given c.given
    next_text next c puts =
        text_more a.given b.given c.given so_far (record { text = puts.text; put = puts.put })

    pub stopped_text : (stop : LineStop) (number : ℕ) (c : Seen) → LineStops stop layout blk line number b c
        → PutsText a.given c.given
    stopped_text stop number c h =
        text_more a.given b.given c.given so_far (stop_text stop layout blk line number b c h)
