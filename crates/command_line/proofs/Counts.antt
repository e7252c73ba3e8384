-- What of the image was kept, and which counts of faults, from how the work ended and what the last line left
use Rattle.std.proofs.Common.{◌≡◌, ◌≢◌, ◌⊎◌, ℕ, Result, Ok, Err, refl, sym, ap, ◌∙◌, arith, inl, inr}
use Rattle.command_spec.specs.Ends.{End, status_of}
use Rattle.command_spec.specs.Commands.{Plan, OfRam, OfBlk, OfMove, Class, RunsScript, WritesImage, MakesImage}
use Rattle.command_spec.specs.Commands.{class_of}
use Rattle.command_spec.specs.Answers.{Outside, NoScript, NoImage, RoseFor, NoOtherFault}
use Rattle.command_spec.specs.PlanAnswers.{Untouched, StoreFailed, FailsWriting, PlanWrites, ClassWrites}
use Rattle.command_line.specs.Ends.{LastPut, Finished}
use Rattle.script_spec.specs.Playing.{KeptUnless}
use Rattle.command_line.specs.Ended.{Caused, Counted, KeptAt, LinesAsk, FailsAsked, Asks, WorkDone, ClassAsks}
use Rattle.command_line.proofs.RunAnswers.{GoesOn, rose_on}
use Rattle.command_line.proofs.Tool.{status_is}
use Rattle.command_spec.specs.declared.Stop.{Stop}
use Rattle.command_spec.specs.declared.Stop.TheVariants.{Memory, ScriptFault, ImageFault, SinkFault, Refused}

module _ (a m b : Outside) (on : GoesOn a m b) (status : ℕ) where
  -- the store failed, and the last line was put, or the output failed in it
  store_failed : Caused a m (Err ImageFault) → LastPut ImageFault m.given b.given m.sink_faults b.sink_faults status
      → StoreFailed a b status
  store_failed c f = elim f.shown [
    | inl k ↦ (inl k.0, rose_on a m b on ImageFault c f.later)
    | inr k ↦ (inr k.0, rose_on a m b on ImageFault c f.later)
  ]

  -- what was kept until all was done, or writing it failed
  kept_by : {A : Type 0} (old mid new : A) (e : End) → new ≡ mid → Caused a m e → KeptAt old mid e
      → Finished e m.given b.given m.sink_faults b.sink_faults status → status ≢ 0
      → (new ≡ old) ⊎ StoreFailed a b status
  kept_by old mid new (Ok u) same c k f zero = absurd (zero f.answer)
  kept_by old mid new (Err ImageFault) same c k f zero = inr (store_failed c f)
  kept_by old mid new (Err s) same c k f zero = inl (same ∙ k)

  -- what was kept until the lines of a script on the block store were begun
  kept_early : (old mid new : ℕ) (e : End) → new ≡ mid → LinesAsk old mid e
      → (status ≡ status_of e) ⊎ ((status ≡ 7) × RoseFor SinkFault a b)
      → status ≢ 0 → status ≢ 1 → status ≢ 6 → status ≢ 7 → status ≢ 10 → new ≡ old
  kept_early old mid new e same k (inr s) zero one six seven ten = absurd (seven s.0)
  kept_early old mid new (Ok u) same k (inl s) zero one six seven ten = absurd (zero s)
  kept_early old mid new (Err Memory) same k (inl s) zero one six seven ten = absurd (one s)
  kept_early old mid new (Err ImageFault) same k (inl s) zero one six seven ten = absurd (six s)
  kept_early old mid new (Err SinkFault) same k (inl s) zero one six seven ten = absurd (seven s)
  kept_early old mid new (Err (Refused x y)) same k (inl s) zero one six seven ten = absurd (ten s)
  kept_early old mid new (Err t) same k (inl s) zero one six seven ten = same ∙ k

  -- the image failed only after it was asked to be written
  not_six : (n : ℕ) → n ≢ 6 → (status ≡ n) ⊎ ((status ≡ 7) × RoseFor SinkFault a b) → status ≡ 6 → ⊥
  not_six n other (inl k) six = other (sym k ∙ six)
  not_six n other (inr k) six = absurd (omega (arith, k.0, six))

  fails_asked : (e : End) → b.writes ≡ m.writes → Caused a m e → FailsAsked a.writes m.writes e
      → Finished e m.given b.given m.sink_faults b.sink_faults status → FailsWriting a b status
  fails_asked (Err ImageFault) same c k f six = rw same k
  fails_asked (Ok u) same c k f six = absurd (not_six 0 (λ z. absurd (omega arith))
      (status_is a m b on status (Ok u) c f) six)
  fails_asked (Err s) same c k f six = absurd (not_six (status_of (Err s)) (λ z. absurd (omega arith))
      (status_is a m b on status (Err s) c f) six)

  class_writes : (class : Class) (e : End) → b.writes ≡ m.writes → Caused a m e
      → ClassAsks class a.writes m.writes e → Finished e m.given b.given m.sink_faults b.sink_faults status
      → ClassWrites class a b status
  class_writes RunsScript e same c k f = kept_by a.writes m.writes b.writes e same c k f
  class_writes WritesImage e same c k f = kept_by a.writes m.writes b.writes e same c k f
  class_writes MakesImage e same c k f =
      (kept_by a.writes m.writes b.writes e same c k.0 f, fails_asked e same c k.1 f)
  class_writes class e same c k f = same ∙ k

  writes_by : (r : Result Plan Stop) (e : End) → b.writes ≡ m.writes → Caused a m e → Asks r a.writes m.writes e
      → Finished e m.given b.given m.sink_faults b.sink_faults status → PlanWrites r a b status
  writes_by (Ok (OfRam plan)) e same c k f = class_writes (class_of plan.command) e same c k f
  writes_by (Ok (OfBlk layout)) e same c k f =
      kept_early a.writes m.writes b.writes e same k (status_is a m b on status e c f)
  writes_by (Ok (OfMove plan)) e same c k f = class_writes WritesImage e same c k f
  writes_by (Err s) e same c k f = same ∙ k

  -- ---- counts of faults

  -- of the output: the last line too leaves it, unless the output failed
  line_sink : (s : Stop) → LastPut s m.given b.given m.sink_faults b.sink_faults status → status ≢ 7
      → b.sink_faults ≡ m.sink_faults
  line_sink s f seven = elim f.shown [ inl k ↦ k.2 | inr k ↦ absurd (seven k.0) ]

  last_sink : (e : End) → Finished e m.given b.given m.sink_faults b.sink_faults status → status ≢ 7
      → b.sink_faults ≡ m.sink_faults
  last_sink (Ok u) f seven = f.faults
  last_sink (Err SinkFault) f seven = f.faults
  last_sink (Err s) f seven = line_sink s f seven

  -- an end other than for this fault
  kept_unless : (fault : Stop) (before now n : ℕ) (e : End) → status_of (Err fault) ≡ n → KeptUnless fault e before now
      → (status ≡ status_of e) ⊎ ((status ≡ 7) × RoseFor SinkFault a b) → status ≢ n → status ≢ 7 → now ≡ before
  kept_unless fault before now n (Ok u) is k s other seven = k
  kept_unless fault before now n (Err stop) is k (inl s) other seven =
      k (λ same. other (s ∙ ap (λ x. status_of (Err x)) same ∙ is))
  kept_unless fault before now n (Err stop) is k (inr s) other seven = absurd (seven s.0)

  either_kept : (e : End) → Counted a m e
      → (b.source_faults ≡ a.source_faults) ⊎ (b.store_faults ≡ a.store_faults)
  either_kept (Ok u) k = inl (on.script.source ∙ k.source)
  either_kept (Err ScriptFault) k = inr (on.image.store ∙ k.store (λ same. cc))
  either_kept (Err s) k = inl (on.script.source ∙ k.source (λ same. cc))

  no_other_fault : (e : End) → Caused a m e → Counted a m e
      → Finished e m.given b.given m.sink_faults b.sink_faults status → NoOtherFault a b status
  no_other_fault e c k f = record {
    source = λ five seven. on.script.source ∙ kept_unless ScriptFault a.source_faults m.source_faults 5 e refl k.source
        (status_is a m b on status e c f) five seven;
    store = λ six seven. on.image.store ∙ kept_unless ImageFault a.store_faults m.store_faults 6 e refl k.store
        (status_is a m b on status e c f) six seven;
    sink = λ seven. last_sink e f seven ∙ kept_unless SinkFault a.sink_faults m.sink_faults 7 e refl k.sink
        (status_is a m b on status e c f) seven seven;
    either = either_kept e k;
  }

-- ---- of any words

module _ (r : Result Plan Stop) (a m b : Outside) (e : End) (status : ℕ) (script : NoScript m b) (image : NoImage m b)
    (w : WorkDone r a m e) (f : Finished e m.given b.given m.sink_faults b.sink_faults status) where
  on : GoesOn a m b
  on = record { later = w.later; script = script; image = image }

  pub work_untouched : Untouched r a b status
  work_untouched last zero = kept_by a m b on status a.holds m.holds b.holds e image.holds w.caused (w.kept last) f zero

  pub work_writes : b.writes ≡ m.writes → PlanWrites r a b status
  work_writes same = writes_by a m b on status r e same w.caused w.asks f

  pub work_no_other_fault : NoOtherFault a b status
  work_no_other_fault = no_other_fault a m b on status e w.caused w.counts f
