-- What the calls answer and leave is what calls of a session leave
use Rattle.std.proofs.Common.{◌≡◌, ℕ, ◌≤◌, Bool, true, false, if◌then◌else◌, List, Option, Some, None, IfSome, Result}
use Rattle.std.proofs.Common.{Ok, Err, refl, sym, ap, ◌∙◌, arith, ◌⊎◌, inl, inr}
use Rattle.std.proofs.lemmas.Option.{same_Some}
use Rattle.blk_spec.specs.declared.BlkLayout.{BlkLayout}
use Rattle.blk_spec.specs.declared.BlkCut.{BlkCut}
use Rattle.blk_spec.specs.declared.BlkCut.TheVariants.{Uncut, After, Dropped}
use Rattle.blk_spec.specs.declared.BlkFault.{BlkFault}
use Rattle.blk_spec.specs.declared.BlkFault.TheVariants.{NoZone as NoZoneFault, NoRecord as NoRecordFault, StoreFault}
use Rattle.blk_spec.specs.declared.BlkFault.TheVariants.{Memory}
use Rattle.blk_spec.specs.Writes.{Write, after_writes, store_after, first_bytes, bytes_in, through, reaching, spent}
use Rattle.blk_spec.specs.Answers.{Device, FailsWithin, Answers, IsUnwritten, Loads}
use Rattle.blk_spec.specs.States.{BlkState, append_refusal, append_of, appended, dump_refusal, dump_of, dump_pieces_of}
use Rattle.blk_spec.specs.States.{dumped, is_listed, erase_refusal, erase_of, erased, load_writes}
use Rattle.blk_spec.specs.Session.{Operation, Load, Append, Dump, Erase, NoRecord, cause_for, cause_loaded, cause_of}
use Rattle.blk_spec.specs.Session.{called, done_loaded, session_after, Done, Fails, NoMemory, failed_call, failed_in}
use Rattle.blk_spec.specs.Session.{call_after}
use Rattle.blk_laws.specs.Ends.{Leaves, holding, held_after, AnswersAreCalls}
use Rattle.blk_laws.proofs.Zones.{after-none}

-- what is kept had come through
pub kept-through : (c : BlkCut) (kept tried : ℕ) → kept ≤ through c tried → through c kept ≡ kept
kept-through Uncut kept tried h = refl
kept-through (After limit) kept tried h = omega arith
kept-through Dropped kept tried h = omega arith

-- an operation that is a call with these writes, refused for this cause
record IsCallOf (b : BlkState) (operation : Operation) (refusal : Option BlkFault) (ws : List Write)
    (next : BlkState) : Type 0 where
  cause : cause_loaded b operation ≡ cause_for refusal
  done : (store : List ℕ) → done_loaded store b operation ≡ called store b ws next
  failed : (store : List ℕ) (kept tried : ℕ)
      → failed_in b.layout store (Some b) operation kept tried ≡ failed_call store b ws kept tried

module _ (b new : BlkState) (operation : Operation) (refusal : Option BlkFault)
    (ws pieces : List Write) (next : BlkState) (before now : List ℕ) (old last : Device)
    (first : old.holds ≡ Some before) (ends : last.holds ≡ Some now)
    (is : IsCallOf b operation refusal ws next) where
  told : (vs : List Write) → last.holds ≡ store_after vs old.holds → now ≡ after_writes vs before
  told vs e = same_Some _ _ (sym ends ∙ e ∙ ap (store_after vs) first)

  done-leaves : Answers (Ok tt) refusal ws pieces next b new old last
      → Leaves {T = Unit} (Ok tt) b.layout (holding before b) operation (holding now new)
  unfolding call_after session_after cause_of
  done-leaves a =
      let store : now ≡ after_writes (reaching b.cut ws) before = told (reaching b.cut ws) a.1.store in
      let state : new ≡ record next { cut = spent (bytes_in ws) b.cut } =
      a.2 ∙ ap (λ (c : BlkCut). record next { cut = c }) a.1.cut in
      record {
        outcome = Done;
        answered = (rw (is.cause, a.0) refl, refl);
        is = rw (is.cause, a.0, is.done before) (sym (ap (λ (xs : List ℕ). holding xs new) store
            ∙ ap (λ (x : BlkState). holding (after_writes (reaching b.cut ws) before) x) state));
      }

  fault-leaves : Answers (Err StoreFault) refusal ws pieces next b new old last
      → Leaves {T = Unit} (Err StoreFault) b.layout (holding before b) operation (holding now new)
  unfolding call_after cause_of
  fault-leaves a =
      let f = a.1 in
      let store : now ≡ after_writes (first_bytes f.kept ws) before = told (first_bytes f.kept ws) f.store in
      let state : new ≡ record b { cut = spent f.tried b.cut } =
      a.2 ∙ ap (λ (c : BlkCut). record b { cut = c }) f.cut in
      let through-kept : through b.cut f.kept ≡ f.kept = kept-through b.cut f.kept f.tried f.most in
      record {
        outcome = Fails f.kept f.tried;
        answered = rw (is.cause, a.0) refl;
        is = rw (is.cause, a.0, is.failed before f.kept f.tried, through-kept) (sym (
            ap (λ (xs : List ℕ). holding xs new) store
            ∙ ap (λ (x : BlkState). holding (after_writes (first_bytes f.kept ws) before) x) state));
      }

  same-session : new ≡ b → last ≡ old → holding before b ≡ holding now new
  same-session state store = sym (ap (λ (xs : List ℕ). holding xs new) (same_Some _ _
      (sym ends ∙ ap (λ (d : Device). d.holds) store ∙ first))
      ∙ ap (λ (x : BlkState). holding before x) state)

  answer-leaves : (r : Result Unit BlkFault) → Answers r refusal ws pieces next b new old last
      → Leaves r b.layout (holding before b) operation (holding now new)
  unfolding call_after session_after cause_of
  answer-leaves (Ok done) a = done-leaves a
  answer-leaves (Err StoreFault) a = fault-leaves a
  answer-leaves (Err Memory) a = record { outcome = NoMemory; answered = refl; is = same-session a.1 a.2 }
  answer-leaves (Err NoZoneFault) a = record {
    outcome = Done;
    answered = (rw (is.cause, a.0) refl, refl);
    is = rw (is.cause, a.0) (same-session a.1 a.2);
  }
  answer-leaves (Err NoRecordFault) a = record {
    outcome = Done;
    answered = (rw (is.cause, a.0) refl, refl);
    is = rw (is.cause, a.0) (same-session a.1 a.2);
  }

unlisted : (listed : Bool) → (if listed then None else Some NoRecord)
    ≡ cause_for (if listed then None else Some NoRecordFault)
unlisted true = refl
unlisted false = refl

-- a loading
load-leaves : (r : Result BlkState BlkFault) (l : BlkLayout) (held : Option BlkState) (before now : List ℕ)
    (old last : Device) → old.holds ≡ Some before → last.holds ≡ Some now
    → IfSome held (λ (b : BlkState). b.layout ≡ l) → Loads r l old last
    → Leaves r l (record { store = before; blk = held }) Load (record { store = now; blk = held_after r held })
unfolding call_after session_after cause_of
load-leaves (Ok b) l None before now old last first ends same h = record {
  outcome = Done;
  answered = (refl, refl);
  is = cc (rw first at h.1, same_Some _ _ (sym ends ∙ h.2 ∙ ap (store_after (load_writes l)) first));
}
load-leaves (Ok b) l (Some c) before now old last first ends same h = record {
  outcome = Done;
  answered = (refl, refl);
  is = rw same (cc (rw first at h.1, same_Some _ _ (sym ends ∙ h.2 ∙ ap (store_after (load_writes l)) first)));
}
load-leaves (Err StoreFault) l held before now old last first ends same h = record {
  outcome = Fails (kept h) 0;
  answered = none held;
  is = leaves held (sym (store h));
}
  where
    kept : IsUnwritten old last ⊎ FailsWithin (load_writes l) (load_writes l) Uncut Uncut old last → ℕ
    kept (inl quiet) = 0
    kept (inr f) = f.kept

    store : (h : IsUnwritten old last ⊎ FailsWithin (load_writes l) (load_writes l) Uncut Uncut old last)
        → now ≡ after_writes (first_bytes (kept h) (load_writes l)) before
    store (inl quiet) = same_Some _ _ (sym ends ∙ quiet.0 ∙ first) ∙ sym (after-none (load_writes l) before)
    store (inr f) = same_Some _ _ (sym ends ∙ f.store ∙ ap (store_after (first_bytes f.kept (load_writes l))) first)

    none : (held : Option BlkState) → cause_of held Load ≡ None
    none None = refl
    none (Some c) = refl

    leaves : (held : Option BlkState) → after_writes (first_bytes (kept h) (load_writes l)) before ≡ now
        → call_after l (record { store = before; blk = held }) (record { operation = Load; outcome = Fails (kept h) 0 })
        ≡ record { store = now; blk = held }
    leaves None e = ap (λ (xs : List ℕ). record { store = xs; blk = None }) e
    leaves (Some c) e = ap (λ (xs : List ℕ). record { store = xs; blk = Some c }) e
load-leaves (Err Memory) l held before now old last first ends same h = record {
  outcome = NoMemory;
  answered = refl;
  is = ap (λ (xs : List ℕ). record { store = xs; blk = held }) (sym (same_Some _ _ (sym ends ∙ h.0 ∙ first)));
}
load-leaves (Err NoZoneFault) l held before now old last first ends same h = absurd h
load-leaves (Err NoRecordFault) l held before now old last first ends same h = absurd h

pub answers-are-calls : AnswersAreCalls
answers-are-calls = (
  load-leaves,
  λ r b new ring payload before now old last first ends a. answer-leaves b new (Append ring payload)
      (append_refusal b ring) (append_of b ring payload) (append_of b ring payload) (appended b ring payload) before now
      old last first ends
      (record { cause = refl; done = λ store. refl; failed = λ store kept tried. refl }) r a,
  λ r b new time packed reason body before now old last first ends a. answer-leaves b new
      (Dump time packed reason body) (dump_refusal b) (dump_of b time packed reason body)
      (dump_pieces_of b time packed reason body) (dumped b reason) before now old last first ends
      (record { cause = refl; done = λ store. refl; failed = λ store kept tried. refl }) r a,
  λ r b new name before now old last first ends a. answer-leaves b new (Erase (Some name)) (erase_refusal b name)
      (erase_of b name) (erase_of b name) (erased b name) before now old last first ends
      (record {
        cause = unlisted (is_listed b name);
        done = λ store. refl;
        failed = λ store kept tried. refl;
      }) r a,
)
