-- An append without parity, handed out whole, is at its end
use Rattle.std.proofs.Common.{◌≡◌, ℕ, ◌+◌, ◌-◌, ◌≤◌, List, [], ◌∷◌, ◌++◌, length, take, drop, refl, sym, ap, ◌∙◌}
use Rattle.std.proofs.Common.{subst, arith, inr, length-append}
use Rattle.std.specs.List.{sum_by}
use Rattle.std.proofs.lemmas.List.{take_all, drop_all}
use Rattle.zone_spec.specs.Stores.{Store, after_stores, byte_stores, word_store}
use Rattle.zone_spec.specs.Calls.{call_stores, call_stages, append_stages}
use Rattle.zone_spec.specs.Stages.{stage_count}
use Rattle.zone_spec.specs.declared.Zone.{Zone}
use Rattle.zone_spec.specs.declared.Words.{Words}
use Rattle.zone_spec.specs.declared.CallKind.{CallKind}
use Rattle.zone_spec.specs.declared.CallKind.TheVariants.{Append}
use Rattle.store_steps.specs.Calls.{call_of}
use Rattle.store_steps.specs.Counts.{total_of}
use Rattle.store_steps.specs.Flying.{flying, IsSameCall}
use Rattle.store_steps.specs.Machine.{IsKept, StandsFor}
use Rattle.store_steps.specs.PlainAppends.{size_store}
use Rattle.store_steps.specs.Whole.{whole_handed, TakesWhole, IsWholeCall}
use Rattle.store_steps.proofs.FlightSteps.{total_same}
use Rattle.store_steps.specs.declared.plain.Whole.{Whole}
use Rattle.store_steps.specs.declared.steps.Steps.{Steps}
use Rattle.oopsbox_c.specs.Numbers.{call_in}
use Rattle.oopsbox_c.specs.Places.{IsPlace, zone_in}
use Rattle.oopsbox_c.specs.Stores.{stores_in, AreInside}
use Rattle.oopsbox_c.specs.Flights.{steps_of, flight_in, IsFlight, IsNext}
use Rattle.oopsbox_c.specs.declared.flights.Flight.{Flight}
use Rattle.oopsbox_c.specs.declared.stores.Stores.{Stores}
use Rattle.oopsbox_c.proofs.FlightAnswer.{IsOf}

-- the start word is always there
some_handed : (w : Whole) (payload : List ℕ) → 1 ≤ length (whole_handed w payload)
some_handed w payload =
    let sizes : List Store = size_store w.byte_order w.size in
    let word : List Store = word_store w.byte_order 4 w.start in
    let one : length word ≡ 1 = refl in
    omega (
      arith,
      one,
      length-append sizes word,
      length-append (sizes ++ word) (byte_stores w.place (take w.first (drop w.from payload))
          ++ byte_stores 12 (take w.second (drop (w.from + w.first) payload))),
    )

module _ (f g : Flight) (image payload : List ℕ) (t : Steps) (w : Whole) (out : Stores) where
  pub whole_answered : IsFlight f [] payload
      → TakesWhole (flight_in f [] payload) (flying t [] payload) w payload 4294967295 → IsOf f g t
      → stores_in out [] payload ≡ whole_handed w payload → AreInside f.zone.size out [] payload
      → IsNext f g image [] payload 4294967295 (record out { is_last = 1 })
  whole_answered was took of stores inside =
      let ss : List Store = stores_in out [] payload in
      let made : g.made ≡ t.made = ap (λ (x : Steps). x.made) of.steps in
      let count : length ss ≡ total_of (flight_in f [] payload) = ap length stores ∙ took.count in
      record {
        flight = record {
          place = subst IsPlace (sym of.zone) was.place;
          kind = of.kind;
          leg = of.leg;
          phase = of.phase;
          line_len = of.line ∙ was.line_len;
          payload_len = of.payload ∙ was.payload_len;
          short = was.short;
          kept = subst (λ x. IsKept (flying x [] payload)) (sym of.steps) took.kept;
        };
        zone = of.zone;
        same = subst (λ x. IsSameCall (flight_in f [] payload) (flying x [] payload)) (sym of.steps) took.same;
        made = omega (arith, made, took.made, count, took.fresh);
        at_most = omega (arith, count, took.few);
        some = λ h. omega (arith, count, h);
        inside = record { count = inside.count; rows = inside.rows };
        handed = λ now before alike st.
            sym (take_all (length ss) ss (omega arith))
            ∙ ap (take (length ss)) (stores ∙ took.stores now before st)
            ∙ ap (λ n. take (length ss) (drop n
            (call_stores (zone_in f.zone) (call_of (call_in f.kind) [] payload) before))) (sym took.fresh);
        stands = λ now before alike st.
            subst (λ x. StandsFor (flying x [] payload) (after_stores now ss) before) (sym of.steps)
            (subst (λ xs. StandsFor (flying t [] payload) (after_stores now xs) before) (sym stores)
            (took.stands now before st));
        none = λ h. absurd (omega (arith, h, took.fresh, took.count, some_handed w payload));
        is_last = (λ _. made ∙ took.made, λ _. refl);
        flag = omega arith;
        stops = inr (inr (inr refl));
      }

-- ---- where none is handed out whole

total_none : (z : Zone) (w : Words) (kind : CallKind) → kind ≡ Append
    → sum_by (stage_count z) (call_stages z w (call_of kind [] [])) ≡ 0
total_none z w kind e =
    ap (λ (k : CallKind). sum_by (stage_count z) (call_stages z w (call_of k [] []))) e
    ∙ ap (λ (bytes : List ℕ). sum_by (stage_count z) (append_stages z w.start w.size bytes ++ []))
    (drop_all (0 - z.cap) [] (omega arith))

-- an append without parity that is not handed out whole is of no bytes, and so at its end
pub last_unless_whole : (f g : Flight) (image payload : List ℕ) (out : Stores) → IsFlight f [] payload
    → (IsWholeCall (steps_of f) [] payload 4294967295 → ⊥) → call_in f.kind ≡ Append → f.zone.parity ≡ 0 → f.made ≡ 0
    → IsNext f g image [] payload 4294967295 out → out.is_last ≡ 1
last_unless_whole f g image [] out was due kind parity fresh next =
    let total : total_of (flight_in f [] []) ≡ 0 =
    total_none (zone_in f.zone) (steps_of f).words (call_in f.kind) kind in
    let same : total_of (flight_in g [] []) ≡ total_of (flight_in f [] []) = total_same next.same in
    next.is_last.1 (omega (arith, next.flight.kept.counted, same, total))
last_unless_whole f g image (b ∷ bs) out was due kind parity fresh next = absurd (due (record {
  kind = kind;
  parity = parity;
  fresh = fresh;
  some = omega arith;
  few = omega (arith, was.kept.small);
}))
