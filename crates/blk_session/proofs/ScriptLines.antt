-- A script's lines, done one by one on the block store
use Rattle.std.proofs.Common.{◌≡◌, ℕ, zero, suc, ◌+◌, ◌<◌, ◌≤◌, List, [], ◌∷◌, ◌++◌, length, take, get_or, slice_get}
use Rattle.std.proofs.Common.{Option, Some, None, Result, Ok, Err, refl, sym, ap, ◌∙◌, ◌⊎◌, inl, inr, arith}
use Rattle.std.proofs.Common.{length-append}
use Rattle.std.proofs.lemmas.List.Sums.{fold_more}
use Rattle.std.proofs.lemmas.List.Folds.{fold_stuck}
use Rattle.std.proofs.lemmas.Option.{slice_get_read}
use Rattle.std.proofs.lemmas.List.{take_all}
use Rattle.std.specs.List.{fold}
use Rattle.std.specs.Io.KnownBytes.{Appends}
use Rattle.std.proofs.KnownBytes.{Appends-nil, Appends-trans}
use Rattle.blk_spec.specs.declared.BlkLayout.{BlkLayout}
use Rattle.blk_spec.specs.States.{BlkState}
use Rattle.blk_spec.specs.Session.{Session}
use Rattle.grammar_spec.specs.Fields.{Text}
use Rattle.grammar_spec.specs.declared.line.Line.{Line}
use Rattle.grammar_spec.specs.declared.line.Line.TheVariants.{Boot}
use Rattle.blk_spec.specs.Writes.{bytes_in}
use Rattle.blk_spec.specs.Answers.{Device, HasFront, IsUnwritten, further}
use Rattle.script_spec.specs.BlkScripts.{BlkDone, BlkRan, blk_ran, blk_ran_on, blk_next_line, blk_started}
use Rattle.script_spec.specs.BlkScripts.{blk_line_done, line_writes, WriteNothing}
use Rattle.script_spec.specs.Texts.{front, whole}
use Rattle.script_spec.specs.BlkStops.{StopsAt, EndsAt}
use Rattle.script_spec.specs.Playing.{LinesEnd, BlkPlayCaused}
use Rattle.script_spec.specs.declared.Cause.{Cause}
use Rattle.script_spec.specs.declared.LineStop.{LineStop}
use Rattle.script_spec.specs.declared.LineStop.TheVariants.{Memory, StoreFault, SinkFault, Refused}
use Rattle.script_laws.proofs.Play.{Extends, extends_self, extends_on, front_of, whole_more}
use Rattle.blk_session.specs.Asked.{line_asks, asks_from, lines_ask}
use Rattle.blk_session.specs.Playing.{Seen, Puts, LineStops, StopsLoading}
use Rattle.blk_session.proofs.Writes.{line-unasked}
use Rattle.zone_blk.proofs.Effects.{further-more}

-- ---- texts only grow

line_extends : (r : BlkRan) (c : Option Cause) (next : Result BlkDone Cause)
    → Extends r.texts (blk_ran_on r c next).texts
line_extends r (Some c) next = extends_self r.texts
line_extends r None (Ok d) = record { more = d.text ∷ []; is = refl }
line_extends r None (Err c) = extends_self r.texts

fold_extends : (layout : BlkLayout) (lines : List Line) (r : BlkRan)
    → Extends r.texts (fold (blk_next_line layout) r lines).texts
fold_extends layout [] r = extends_self r.texts
fold_extends layout (line ∷ lines) r =
    extends_on r.texts (blk_next_line layout r line).texts
    (fold (blk_next_line layout) (blk_next_line layout r line) lines).texts
    (line_extends r r.refused (blk_line_done layout r.session line))
    (fold_extends layout lines (blk_next_line layout r line))

take_extends : (layout : BlkLayout) (lines : List Line) (k : ℕ) (r : BlkRan)
    → Extends (fold (blk_next_line layout) r (take k lines)).texts (fold (blk_next_line layout) r lines).texts
take_extends layout lines zero r = fold_extends layout lines r
take_extends layout [] (suc k) r = extends_self r.texts
take_extends layout (line ∷ lines) (suc k) r = take_extends layout lines k (blk_next_line layout r line)

extends_ran : (layout : BlkLayout) (bytes : List ℕ) (lines : List Line) (k : ℕ)
    → Extends (blk_ran layout bytes (take k lines)).texts (blk_ran layout bytes lines).texts
extends_ran layout bytes lines k = take_extends layout lines k (blk_started bytes)

prefix_front : (layout : BlkLayout) (bytes : List ℕ) (lines : List Line) (k : ℕ)
    → front (blk_ran layout bytes lines).texts (length (blk_ran layout bytes (take k lines)).texts)
    ≡ whole (blk_ran layout bytes (take k lines)).texts
prefix_front layout bytes lines k = front_of (blk_ran layout bytes (take k lines)).texts
    (blk_ran layout bytes lines).texts (extends_ran layout bytes lines k)

-- the texts of some first lines are no more than all
no_more : (short long : List Text) → Extends short long → length short ≤ length long
no_more short long h = rw h.is (omega (arith, length-append short h.more))

-- a text that others follow is found at its place
text_at : (texts : List Text) (text : Text) (long : List Text) (i : ℕ) → length texts ≡ i
    → Extends (texts ++ text ∷ []) long → slice_get long i ≡ Some text
text_at texts text long i e h = rw (h.is, ← e) (behind texts h.more)
  where
    behind : (texts more : List Text) → slice_get ((texts ++ text ∷ []) ++ more) (length texts) ≡ Some text
    behind [] more = refl
    behind (t ∷ texts) more = behind texts more

-- ---- how often lines ask

first_ask : (n : ℕ) → n + 0 ≡ 0 + n
first_ask n = omega arith

next_ask : (n k m l : ℕ) → k ≡ m + l → n + k ≡ (n + m) + l
next_ask n k m l e = omega (arith, e)

asks_more : (layout : BlkLayout) (lines : List Line) (r : BlkRan) (i : ℕ) (line : Line) → i < length lines
    → asks_from layout r (take (i + 1) lines) ≡ asks_from layout r (take i lines)
    + line_asks layout (fold (blk_next_line layout) r (take i lines)).session.blk (get_or lines i line)
unfolding asks_from
asks_more layout [] r i line below = absurd (omega (arith, below))
asks_more layout (x ∷ lines) r zero line below = first_ask (line_asks layout r.session.blk x)
asks_more layout (x ∷ lines) r (suc i) line below =
    let one : suc i + 1 ≡ suc (i + 1) = omega arith in
    ap (λ (n : ℕ). asks_from layout r (take n (x ∷ lines))) one
    ∙ next_ask (line_asks layout r.session.blk x) _ _ _
    (asks_more layout lines (blk_next_line layout r x) i line (omega (arith, below)))

-- ---- one line more

on_done : (r : BlkRan) (c : Option Cause) (next : Result BlkDone Cause) (d : BlkDone) → c ≡ None → next ≡ Ok d
    → blk_ran_on r c next ≡ record { session = d.session; texts = r.texts ++ d.text ∷ []; refused = None }
on_done r c next d e h = rw (e, h) refl

on_refused : (r : BlkRan) (c : Option Cause) (next : Result BlkDone Cause) (cause : Cause) → c ≡ None
    → next ≡ Err cause → blk_ran_on r c next ≡ record r { refused = Some cause }
on_refused r c next cause e h = rw (e, h) refl

-- the first i lines were done
pub record PlaysTo (layout : BlkLayout) (bytes : List ℕ) (lines : List Line) (i : ℕ) (blk : Option BlkState)
    (a b : Seen) : Type 0 where
  pub store : List ℕ
  pub holds : b.store.holds ≡ Some store
  pub session : (blk_ran layout bytes (take i lines)).session ≡ record { store = store; blk = blk }
  pub none : (blk_ran layout bytes (take i lines)).refused ≡ None
  pub count : length (blk_ran layout bytes (take i lines)).texts ≡ i
  pub texts : Appends a.given b.given (whole (blk_ran layout bytes (take i lines)).texts)
  pub unwritten : WriteNothing layout bytes lines → b.store.writes ≡ a.store.writes
  pub asked : b.store.writes ≡ further (lines_ask layout bytes (take i lines)) a.store.writes

abbrev pub PlaysSoFar : BlkLayout → List Line → ℕ → Option BlkState → Seen → Seen → Type 0
PlaysSoFar layout lines i blk a b = (bytes : List ℕ) → a.store.holds ≡ Some bytes → PlaysTo layout bytes lines i blk a b

-- how the lines end from one moment to another, where the store tells its bytes
abbrev pub Plays : LinesEnd → BlkLayout → List Line → Seen → Seen → Type 0
Plays e layout lines a b = (bytes : List ℕ) → a.store.holds ≡ Some bytes
    → EndsAt e layout bytes lines a.given b.given b.store.holds

pub plays_none : (layout : BlkLayout) (lines : List Line) (a : Seen) → PlaysSoFar layout lines 0 None a a
unfolding asks_from
plays_none layout lines a bytes told = record {
  store = bytes;
  holds = told;
  session = refl;
  none = refl;
  count = refl;
  texts = Appends-nil a.given;
  unwritten = λ none. refl;
  asked = refl;
}

module _ (layout : BlkLayout) (bytes : List ℕ) (lines : List Line) (i : ℕ) (line : Line) (below : i < length lines)
    (is : line ≡ get_or lines i line) (blk : Option BlkState) (a b : Seen) (p : PlaysTo layout bytes lines i blk a b)
  where
    abbrev so_far : BlkRan
    so_far = blk_ran layout bytes (take i lines)

    -- a line that is done is the next of the script
    done_at : (d : BlkDone) → blk_line_done layout (record { store = p.store; blk = blk }) line ≡ Ok d
        → blk_ran layout bytes (take (i + 1) lines) ≡ record {
          session = d.session;
          texts = so_far.texts ++ d.text ∷ [];
          refused = None;
        }
    done_at d g =
        let now : blk_next_line layout so_far (get_or lines i line)
        ≡ record { session = d.session; texts = so_far.texts ++ d.text ∷ []; refused = None } =
        rw (← is) (on_done so_far so_far.refused (blk_line_done layout so_far.session line) d p.none (rw p.session g))
        in
        fold_more (blk_next_line layout) (blk_started bytes) lines i line below ∙ now

    -- a line that is refused ends the script
    refused_at : (cause : Cause) → blk_line_done layout (record { store = p.store; blk = blk }) line ≡ Err cause
        → blk_ran layout bytes lines ≡ record so_far { refused = Some cause }
    refused_at cause g =
        let now : blk_next_line layout so_far (get_or lines i line) ≡ record so_far { refused = Some cause } =
        rw (← is) (on_refused so_far so_far.refused (blk_line_done layout so_far.session line) cause p.none
        (rw p.session g)) in
        sym (fold_stuck (blk_next_line layout) (record so_far { refused = Some cause }) (λ x. refl) (blk_started bytes)
        lines i line below now)

    -- how many texts there are behind a line that is done
    one_more : (d : BlkDone) → blk_line_done layout (record { store = p.store; blk = blk }) line ≡ Ok d
        → length (blk_ran layout bytes (take (i + 1) lines)).texts ≡ i + 1
    one_more d g = rw (done_at d g) (omega (arith, length-append so_far.texts (d.text ∷ []), p.count))

    -- the line is found at its place, and is done if it is not refused
    line_at : slice_get lines i ≡ Some line
    line_at = slice_get_read lines (length lines) i line refl below is

    in_all : (d : BlkDone) → blk_line_done layout (record { store = p.store; blk = blk }) line ≡ Ok d
        → i < length (blk_ran layout bytes lines).texts
    in_all d g = omega (
      arith,
      one_more d g,
      no_more (blk_ran layout bytes (take (i + 1) lines)).texts
          (blk_ran layout bytes lines).texts (extends_ran layout bytes lines (i + 1)),
    )

    writes_none : i < length (blk_ran layout bytes lines).texts → WriteNothing layout bytes lines
        → bytes_in (line_writes layout blk line) ≡ 0
    writes_none done none = rw p.session at (none i line done line_at)

    -- the line asks so often more
    asks_next : lines_ask layout bytes (take (i + 1) lines)
        ≡ lines_ask layout bytes (take i lines) + line_asks layout blk line
    asks_next = asks_more layout lines (blk_started bytes) i line below
        ∙ ap (λ (x : Line). lines_ask layout bytes (take i lines) + line_asks layout so_far.session.blk x) (sym is)
        ∙ ap (λ (s : Session). lines_ask layout bytes (take i lines) + line_asks layout s.blk line) p.session

    pub on_next : (next : Option BlkState) (c : Seen) → Puts layout blk line next b c
        → PlaysTo layout bytes lines (i + 1) next a c
    on_next next c puts =
        let l = puts.done.told p.store p.holds in
        let d : BlkDone = record { session = record { store = l.after; blk = next }; text = puts.text } in
        let e = done_at d l.done in
        record {
          store = l.after;
          holds = l.holds;
          session = rw e refl;
          none = rw e refl;
          count = one_more d l.done;
          texts = rw (e, whole_more so_far.texts puts.text) (Appends-trans a.given b.given c.given (whole so_far.texts)
              puts.text p.texts puts.put);
          unwritten = λ none. line-unasked layout blk line b.store c.store puts.done.asked
              (writes_none (in_all d l.done) none) ∙ p.unwritten none;
          asked = puts.done.asked ∙ ap (further (line_asks layout blk line)) p.asked
              ∙ further-more (lines_ask layout bytes (take i lines)) (line_asks layout blk line) a.store.writes
              ∙ ap (λ (n : ℕ). further n a.store.writes) (sym asks_next);
        }

    pub on_stop : (stop : LineStop) (c : Seen) → LineStops stop layout blk line (i + 1) b c
        → StopsAt stop layout bytes lines a.given c.given c.store.holds
    on_stop Memory c h =
        let w = h.1.2 p.store in
        record {
          text = front (blk_ran layout bytes lines).texts i;
          stops = record {
            count = i;
            line = line;
            next = line_at;
            wanted = in_all w.wants w.is;
            takes = h.1.1;
            texts = refl;
            holds = h.1.0.0 ∙ p.holds ∙ ap (λ (s : Session). Some s.store) (sym p.session);
          };
          put = rw (h.0, ← p.count, prefix_front layout bytes lines i) p.texts;
        }
    on_stop StoreFault c h =
        let w = h.1.1.wanted p.store in
        let f : HasFront (line_writes layout (blk_ran layout bytes (take i lines)).session.blk line)
        (Some (blk_ran layout bytes (take i lines)).session.store) c.store.holds = rw (p.session, ← p.holds)
        h.1.1.front in
        record {
          text = front (blk_ran layout bytes lines).texts i;
          stops = record {
            count = i;
            line = line;
            next = line_at;
            wanted = in_all w.wants w.is;
            needs = rw p.session h.1.1.needs;
            texts = refl;
            kept = f.kept;
            within = f.within;
            holds = f.store;
          };
          put = rw (h.0, ← p.count, prefix_front layout bytes lines i) p.texts;
        }
    on_stop SinkFault c h =
        let l = h.1.done.told p.store p.holds in
        let d : BlkDone = record { session = record { store = l.after; blk = h.1.new }; text = h.1.text } in
        let e = done_at d l.done in
        record {
          text = front (blk_ran layout bytes lines).texts i ++ take h.1.put.count h.1.text;
          stops = record {
            count = i;
            next = h.1.text;
            last = text_at so_far.texts h.1.text (blk_ran layout bytes lines).texts i p.count
                (rw (ap (λ (r : BlkRan). r.texts) e) at (extends_ran layout bytes lines (i + 1)));
            part = h.1.put.count;
            texts = refl;
            holds = l.holds ∙ ap (λ (r : BlkRan). Some r.session.store) (sym e);
          };
          put = rw (← p.count, prefix_front layout bytes lines i)
              (Appends-trans a.given b.given c.given (whole so_far.texts) (take h.1.put.count h.1.text)
              p.texts h.1.put.bytes);
        }
    on_stop (Refused n cause) c h =
        let e = refused_at cause (h.2.1 p.store) in
        record {
          text = whole (blk_ran layout bytes lines).texts;
          stops = record {
            number = rw (e, p.count) (h.0);
            refused = rw e refl;
            texts = refl;
            holds = ap (λ (d : Device). d.holds) h.2.0 ∙ p.holds ∙ ap (λ (s : Session). Some s.store) (sym p.session)
                ∙ ap (λ (r : BlkRan). Some r.session.store) (sym e);
          };
          put = rw (e, h.1) p.texts;
        }

    -- and where no line of those that are done writes, a stop leaves the store's count of writes
    pub stays_on : (stop : LineStop) (c : Seen) → LineStops stop layout blk line (i + 1) b c
        → WriteNothing layout bytes lines → c.store.writes ≡ a.store.writes
    stays_on Memory c h none = h.1.0.1 ∙ p.unwritten none
    stays_on StoreFault c h none =
        let w = h.1.1.wanted p.store in
        h.1.1.unwritten (writes_none (in_all w.wants w.is) none) ∙ p.unwritten none
    stays_on SinkFault c h none =
        let l = h.1.done.told p.store p.holds in
        let d : BlkDone = record { session = record { store = l.after; blk = h.1.new }; text = h.1.text } in
        line-unasked layout blk line b.store c.store h.1.done.asked (writes_none (in_all d l.done) none)
        ∙ p.unwritten none
    stays_on (Refused n cause) c h none = ap (λ (d : Device). d.writes) h.2.0 ∙ p.unwritten none

    -- a loading that failed as it read
    loads_next : (c : Seen) → line ≡ Boot → IsUnwritten b.store c.store
        → StopsLoading layout bytes lines a.store c.store
    loads_next c loads same = record {
      count = i;
      next = line_at ∙ ap Some loads;
      holds = same.0 ∙ p.holds ∙ ap (λ (s : Session). Some s.store) (sym p.session);
      asked = same.1 ∙ p.asked;
    }

    pub reads_on : (stop : LineStop) (c : Seen) → LineStops stop layout blk line (i + 1) b c
        → (c.store.read_faults ≡ b.store.read_faults) ⊎ StopsLoading layout bytes lines a.store c.store
    reads_on Memory c h = elim h.1.3 [ inl loads ↦ inr (loads_next c loads h.1.0) | inr same ↦ inl same ]
    reads_on StoreFault c h = elim h.1.1.unread [
      | inl first ↦ inr (loads_next c first.0 first.1)
      | inr same ↦ inl same
    ]
    reads_on SinkFault c h = inl h.1.done.unread
    reads_on (Refused n cause) c h = inl (ap (λ (d : Device). d.read_faults) h.2.0)

module _ (layout : BlkLayout) (lines : List Line) (i : ℕ) (line : Line) (below : i < length lines)
    (is : line ≡ get_or lines i line) (blk : Option BlkState) (a b : Seen)
    (so_far : PlaysSoFar layout lines i blk a b) where
  pub plays_next : (next : Option BlkState) (c : Seen) → Puts layout blk line next b c
      → PlaysSoFar layout lines (i + 1) next a c
  plays_next next c puts bytes told = on_next layout bytes lines i line below is blk a b (so_far bytes told) next c puts

  pub plays_stop : (stop : LineStop) (c : Seen) → LineStops stop layout blk line (i + 1) b c
      → Plays (Err stop) layout lines a c
  plays_stop stop c h bytes told = on_stop layout bytes lines i line below is blk a b (so_far bytes told) stop c h

  pub plays_unwritten : (stop : LineStop) (c : Seen) → LineStops stop layout blk line (i + 1) b c → (bytes : List ℕ)
      → a.store.holds ≡ Some bytes → WriteNothing layout bytes lines → c.store.writes ≡ a.store.writes
  plays_unwritten stop c h bytes told none =
      stays_on layout bytes lines i line below is blk a b (so_far bytes told) stop c h none

  -- no reading failed before
  pub plays_unread : b.store.read_faults ≡ a.store.read_faults → (stop : LineStop) (c : Seen)
      → LineStops stop layout blk line (i + 1) b c → (bytes : List ℕ) → a.store.holds ≡ Some bytes
      → (c.store.read_faults ≡ a.store.read_faults) ⊎ StopsLoading layout bytes lines a.store c.store
  plays_unread none stop c h bytes told =
      elim (reads_on layout bytes lines i line below is blk a b (so_far bytes told) stop c h) [
        | inl same ↦ inl (same ∙ none)
        | inr loads ↦ inr loads
      ]

pub plays_all : (layout : BlkLayout) (lines : List Line) (i : ℕ) (blk : Option BlkState) (a b : Seen)
    → length lines ≤ i → PlaysSoFar layout lines i blk a b → Plays (Ok tt) layout lines a b
plays_all layout lines i blk a b all so_far bytes told =
    let p : PlaysTo layout bytes lines i blk a b = so_far bytes told in
    let same : take i lines ≡ lines = take_all i lines all in
    record {
      none = rw same at p.none;
      texts = rw same at p.texts;
      holds = p.holds ∙ ap (λ (s : Session). Some s.store) (sym (rw same at p.session));
    }

pub asked_all : (layout : BlkLayout) (lines : List Line) (i : ℕ) (blk : Option BlkState) (a b : Seen)
    → length lines ≤ i → PlaysSoFar layout lines i blk a b → (bytes : List ℕ) → a.store.holds ≡ Some bytes
    → b.store.writes ≡ further (lines_ask layout bytes lines) a.store.writes
asked_all layout lines i blk a b all so_far bytes told =
    let p : PlaysTo layout bytes lines i blk a b = so_far bytes told in
    let same : take i lines ≡ lines = take_all i lines all in
    p.asked ∙ ap (λ (ls : List Line). further (lines_ask layout bytes ls) a.store.writes) same

-- a stop's cause, whether the store tells its bytes or not
pub stop_caused : (stop : LineStop) (layout : BlkLayout) (blk : Option BlkState) (line : Line) (number : ℕ)
    (a b c : Seen)
    → a.store_faults ≤ b.store_faults → a.sink_faults ≤ b.sink_faults → LineStops stop layout blk line number b c
    → BlkPlayCaused (Err stop) a.store_faults c.store_faults a.sink_faults c.sink_faults
stop_caused Memory layout blk line number a b c s o h = tt
stop_caused StoreFault layout blk line number a b c s o h = omega (arith, s, h.1.0)
stop_caused SinkFault layout blk line number a b c s o h = omega (arith, o, h.0)
stop_caused (Refused n cause) layout blk line number a b c s o h = tt
