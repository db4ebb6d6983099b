-- The cause of each change that a step makes of a process's bytes, among its labels. In a step its record stays, or
-- becomes that after its turn, or after what it is told, and that label is among the step's (`of_step`); so the causes
-- of turns and of answers are those of the step. Stretches of quiet turns go by induction.
use Rattle.kernel_laws.proofs.Turns.{split}
use Rattle.kernel_laws.proofs.Cases.{cases_option}
use Rattle.std.proofs.lemmas.Bool.{cases_Bool}
use Rattle.std.proofs.Common.{◌≡◌, inl, inr, ℕ, zero, suc, ◌+◌, ◌++◌, ◌==◌, true, false, List, []}
use Rattle.std.proofs.Common.{◌∷◌, slice_get}
use Rattle.std.proofs.Common.{slice_index, Option, None, Some, IfSome, is_some, refl, sym, ap, subst, ◌∙◌, arith}
use Rattle.std.proofs.Common.{eqb-true}
use Rattle.std.proofs.Common.{eq-eqb}
use Rattle.std.proofs.Math.Logic.{⊎_map}
use Rattle.std.specs.List.{Any, Contains}
use Rattle.std.specs.Prelude.{All}
use Rattle.std.proofs.lemmas.Bool.{false≢true}
use Rattle.tk_base.specs.declared.process.Choice.{Choice}
use Rattle.tk_base.specs.declared.process.Choice.TheVariants.{Run, Device, Pass}
use Rattle.process_model.specs.Changes.{ChangesAt, IsWhole}
use Rattle.driver_model.specs.Bytes.{AnswersWriteInBuffers}
use Rattle.process_record.specs.declared.emit.CallMade.{CallMade}
use Rattle.kernel_model.specs.Record.{Record}
use Rattle.kernel_model.specs.Turn.{Turned, apply, is_turn, turned}
use Rattle.kernel_model.specs.World.{Answer, DeviceStep, Label, Stepped, World, after, answer_label, carried_out}
use Rattle.kernel_model.specs.World.{device_step_of, done, labels, labels_told, ran}
use Rattle.kernel_model.specs.Parts.{labels_of}
use Rattle.kernel_model.specs.World.{stepped, turn_label, unmade}
use Rattle.kernel_model.specs.Run.{next, round}
use Rattle.kernel_model.specs.Stretch.{IsQuietTurn}
use Rattle.kernel_model.specs.Replay.{chosen, events}
use Rattle.kernel_laws.specs.Clock.{AsksNoClock, StepsWithoutClockHaveCauses, TurnsWithoutClockHaveCauses}
use Rattle.kernel_model.specs.Causes.{AllHaveCauses, AnswerHasCauses, EachChangeHasACause, IsCause}
use Rattle.kernel_model.specs.Causes.{Overwrites, StepsHaveCauses, StorageChangesAt, TurnHasCauses, TurnsHaveCauses}
use Rattle.kernel_laws.proofs.Answered.{told_has_causes}
use Rattle.kernel_model.proofs.Places.{of_stepped, ran-other, ran-own, same_there}
use Rattle.kernel_model.proofs.Replays.{one_step}
use Rattle.kernel_model.proofs.Steps.{TellsNoTurn, device_answers}
use Rattle.kernel_model.proofs.Told.{told_at}

-- a label is in a list, where it is in its rest
contains_past : (before ls : List Label) (label : Label) → Contains ls label → Contains (before ++ ls) label
contains_past [] ls label found = found
contains_past (x ∷ before) ls label found =
    let rest = contains_past before ls label found in (suc rest.0, omega (arith, rest.1), rest.2)

-- the label of what a process is told is among those of the step
label_in : (told : ℕ → Option Answer) (from slot at : ℕ) (a : Answer) (rs : List Record) (r : Record)
    → at ≡ from + slot → told at ≡ Some a → slice_get rs slot ≡ Some r
    → Contains (labels_told told from rs) (answer_label at a)
label_in told from slot at a [] r here is there = absurd (cc)
label_in told from zero at a (x ∷ rs) r here is there =
    let same : at ≡ from = omega (arith, here) in
    rw (← same, is) (0, omega arith, refl)
label_in told from (suc slot) at a (x ∷ rs) r here is there =
    contains_past (labels_of from (told from)) (labels_told told (suc from) rs) (answer_label at a)
    (label_in told (suc from) slot at a rs r (omega (arith, here)) is there)

-- what holds of all labels holds of one among them
holds_of : (P : Label → Type 0) (ls : List Label) (label : Label) → All P ls → Contains ls label → P label
holds_of P ls label each found = subst P found.2 (each found.0 label found.1)

-- what holds of a step's labels and of the record after it, where it does if the record stays, after its turn, and
-- after an answer to it
module _ (w : World) (slot : ℕ) (r : Record) (is : slice_get w.records slot ≡ Some r) (P : List Label → Record → Type 0)
    (stays : (labels : List Label) → P labels r) where
  -- after its turn
  abbrev ByTurn : Type 0
  ByTurn = let t = turned w.settings w.clock.time r in P (turn_label slot w.clock.time t.told ∷ []) t.after

  -- after an answer to it, which is among those that the step tells
  abbrev ByAnswer : Type 0
  ByAnswer = (labels : List Label) (a : Answer) → is_turn a.event ≡ false → Contains labels (answer_label slot a)
      → P labels (apply w.settings a.event r)

  abbrev Leads : Stepped → Type 0
  Leads x = (s : Record) → slice_get x.after.records slot ≡ Some s → P x.labels s

  at_record : (labels : List Label) (x s : Record) (o : Option Record) → o ≡ Some x → o ≡ Some s → P labels x
      → P labels s
  at_record labels x s o e f holds = subst (P labels) (same_there o x s e f) holds

  of_ran : (other : ℕ) → ((other == slot) ≡ true → ByTurn) → (o : Option Record) → slice_get w.records other ≡ o
      → Leads (ran w other o)
  unfolding apply
  of_ran other turn None e s f = at_record [] r s _ is f (stays [])
  of_ran other turn (Some q) e s f =
      let t = λ (x : Record). turned w.settings w.clock.time x in
      elim (cases_Bool (other == slot)) [
        | inl same_is ↦
            let same = eqb-true other slot same_is in
            let at_slot : slice_get w.records slot ≡ Some q = rw same at e in
            let left : slice_get (ran w other (Some q)).after.records slot ≡ Some (t q).after =
            ap (slice_get (ran w other (Some q)).after.records) (sym same) ∙ ran-own w other (Some q) e in
            rw same (at_record (turn_label slot w.clock.time (t q).told ∷ []) (t q).after s _ left f
            (subst (λ (x : Record). P (turn_label slot w.clock.time (t x).told ∷ []) (t x).after)
            (same_there _ r q is at_slot) (turn same_is)))
        | inr apart_is ↦
            at_record _ r s _ (ran-other w other slot (Some q)
            (λ same. false≢true (sym apart_is ∙ eq-eqb other slot (sym same))) ∙ is) f (stays _)
      ]

  -- a device's step, whatever it tells
  of_deed : ByAnswer → (o : Option DeviceStep) → IfSome o (λ deed. TellsNoTurn deed.told) → Leads (done w o)
  of_deed answer None answers s f = at_record [] r s _ is f (stays [])
  of_deed answer (Some deed) answers s f =
      let ls = labels_told deed.told 0 w.records in
      let left = told_at w.settings deed.told w.records slot in
      elim (cases_option (deed.told slot)) [
        | inl none ↦ at_record ls r s _ (left ∙ rw (is, none)) f (stays ls)
        | inr a ↦
            at_record ls (apply w.settings a.0.event r) s _ (left ∙ rw (is, a.1)) f
            (answer ls a.0 (answers slot a.0 a.1) (label_in deed.told 0 slot slot a.0 w.records r (omega arith) a.1 is))
      ]

  of_none : Leads (unmade w)
  of_none s f = at_record [] r s _ is f (stays [])

  of_run : (other : ℕ) → ((other == slot) ≡ true → ByTurn) → Leads (stepped w (Run other))
  unfolding carried_out
  of_run other turn =
      of_stepped Leads w (Run other) of_none (λ ready. of_ran other turn (slice_get w.records other) refl)

  of_step : ByTurn → ByAnswer → (choice : Choice) → Leads (stepped w choice)
  unfolding carried_out
  of_step turn answer (Run other) = of_run other (λ same. turn)
  of_step turn answer (Device device) =
      of_stepped Leads w (Device device) of_none
      (λ ready. of_deed answer (device_step_of w device) (device_answers w device))
  of_step turn answer (Pass ticks) = of_stepped Leads w (Pass ticks) of_none (λ ready. of_none)

-- the first of some labels has the cause
first : (P : Label → Type 0) (label : Label) (rest : List Label) → P label → Any P (label ∷ rest)
first P label rest holds = (0, label, omega arith, refl, holds)

-- a label with the cause of a change of a byte of the storage
abbrev IsStorageCause : ℕ → Record → ℕ → Label → Type 0
IsStorageCause slot r k label = (label.slot ≡ slot) × Overwrites label.event r k

-- what is to be shown of the labels, and of the record after the step
record Caused (slot : ℕ) (r : Record) (labels : List Label) (s : Record) : Type 0 where
  own : ChangesAt (λ at. Any (IsCause slot r s at) labels) r.own s.own
  storage : StorageChangesAt (λ k. Any (IsStorageCause slot r k) labels) r.storage s.storage

caused_same : (slot : ℕ) (r : Record) (labels : List Label) → Caused slot r labels r
caused_same slot r labels = record { own = λ at before after. inl refl; storage = λ k within. inl refl }

caused_turn : (slot time : ℕ) (r : Record) (t : Turned) → TurnHasCauses r t.after t.told
    → Caused slot r (turn_label slot time t.told ∷ []) t.after
caused_turn slot time r t causes = record {
  own = λ at before after.
      ⊎_map (λ same. same)
      (λ cause. first (IsCause slot r t.after at) (turn_label slot time t.told) [] (refl, inl cause))
      (causes.own at before after);
  storage = λ k within. inl (ap (λ (xs : List ℕ). slice_index xs k) causes.storage);
}

caused_answer : (slot : ℕ) (labels : List Label) (a : Answer) (r s : Record) → Contains labels (answer_label slot a)
    → AnswerHasCauses a.event r s → Caused slot r labels s
caused_answer slot labels a r s told causes = record {
  own = λ at before after.
      ⊎_map (λ same. same) (λ inside. found (IsCause slot r s at) (refl, inr inside)) (causes.own at before after);
  storage = λ k within.
      ⊎_map (λ same. same) (λ covers. found (IsStorageCause slot r k) (refl, covers)) (causes.storage k within);
}
  where
    found : (P : Label → Type 0) → P (answer_label slot a) → Any P labels
    found P holds = (told.0, answer_label slot a, told.1, told.2, holds)

-- where the step is none of its events, its record stays
stays_else : (w : World) (choice : Choice) (slot : ℕ) (r s : Record) → slice_get w.records slot ≡ Some r
    → slice_get (after w choice).records slot ≡ Some s → events slot w choice ≡ [] → s ≡ r
stays_else w choice slot r s is left none =
    same_there (slice_get (after w choice).records slot) s r left
    (one_step w choice slot ∙ rw (none, is))

no_call : (o : Option CallMade) → o ≡ None → is_some o ≡ true → ⊥
no_call None none some = false≢true some
no_call (Some made) none some = cc

-- a step of which all labels are quiet turns answers nobody
quiet_step : TurnsHaveCauses → (w : World) (choice : Choice) → All IsQuietTurn (labels w choice)
    → EachChangeHasACause w choice
quiet_step turns w choice quiet slot r s is left =
    let caused = of_step w slot r is (λ ls s. All IsQuietTurn ls → Caused slot r ls s)
    (λ ls each. caused_same slot r ls)
    (λ each. let t = turned w.settings w.clock.time r in
    caused_turn slot w.clock.time r t (turns w.settings w.clock.time r
    (λ calls. absurd (no_call t.told.call (each 0 (turn_label slot w.clock.time t.told) (omega arith)).2 calls))))
    (λ ls a tells told each.
    absurd (false≢true (sym tells ∙ (holds_of IsQuietTurn ls (answer_label slot a) each told).0)))
    choice s left quiet in
    record { own = caused.own; storage = caused.storage; others = stays_else w choice slot r s is left }

quiet_steps : TurnsHaveCauses → (k : ℕ) (w : World) → All IsQuietTurn (round k w).labels → AllHaveCauses w (chosen k w)
unfolding round chosen
quiet_steps turns zero w quiet = tt
quiet_steps turns (suc k) w quiet =
    elim (cases_option (next w)) [
      | inl none ↦ rw none tt
      | inr some ↦
          let both = split IsQuietTurn (labels w some.0) (round k (after w some.0)).labels (rw some.1 at quiet) in
          rw some.1 (quiet_step turns w some.0 both.0, quiet_steps turns k (after w some.0) both.1)
    ]

pub steps_without_clock : TurnsWithoutClockHaveCauses → StepsWithoutClockHaveCauses
steps_without_clock turns w other none slot r s is left =
    let t = turned w.settings w.clock.time r in
    let caused = of_run w slot r is (λ ls s. All AsksNoClock ls → Caused slot r ls s)
    (λ ls each. caused_same slot r ls) other
    (λ same each. caused_turn slot w.clock.time r t (turns w.settings w.clock.time r
    (each 0 (turn_label slot w.clock.time t.told) (omega arith)))) s left none in
    record { own = caused.own; storage = caused.storage; others = stays_else w (Run other) slot r s is left }

pub steps_have_causes : TurnsHaveCauses → AnswersWriteInBuffers → StepsHaveCauses
steps_have_causes turns answers = record {
  turn = λ w other whole slot r s is left.
      let caused = of_run w slot r is (Caused slot r) (caused_same slot r) other
      (λ same. by_turn w slot r (at_slot w other slot r is whole same)) s left in
      record { own = caused.own; storage = caused.storage; others = stays_else w (Run other) slot r s is left };
  any = λ w choice whole slot r s is left.
      let caused = of_step w slot r is (Caused slot r) (caused_same slot r)
      (by_turn w slot r (whole slot r is)) (by_answer w slot r (whole slot r is)) choice s left in
      record { own = caused.own; storage = caused.storage; others = stays_else w choice slot r s is left };
  stretch = λ k w later stretch. quiet_steps turns k w stretch.quiet;
}
  where
    by_turn : (w : World) (slot : ℕ) (r : Record) → IsWhole r.own → let t = turned w.settings w.clock.time r in
        Caused slot r (turn_label slot w.clock.time t.told ∷ []) t.after
    by_turn w slot r whole =
        caused_turn slot w.clock.time r (turned w.settings w.clock.time r)
        (turns w.settings w.clock.time r (λ calls. whole))

    -- the turn of another slot leaves the record, so what it asks of its own process is asked where it is that of the
    -- slot
    at_slot : (w : World) (other slot : ℕ) (r : Record) → slice_get w.records slot ≡ Some r
        → IfSome (slice_get w.records other) (λ x. IsWhole x.own) → (other == slot) ≡ true → IsWhole r.own
    at_slot w other slot r is whole same =
        rw (ap (slice_get w.records) (eqb-true other slot same) ∙ is) at whole

    by_answer : (w : World) (slot : ℕ) (r : Record) → IsWhole r.own → (labels : List Label) (a : Answer)
        → is_turn a.event ≡ false → Contains labels (answer_label slot a)
        → Caused slot r labels (apply w.settings a.event r)
    by_answer w slot r whole labels a tells told =
        caused_answer slot labels a r _ told (told_has_causes answers w.settings a.event r tells whole)
