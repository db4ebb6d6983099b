-- What holds of each thing that a turn may come to holds of every turn, and so of each label that tells one; and what
-- holds of what each event leaves holds of each label that tells one. The definition of a turn is walked once
-- (`of_each_end`), and an instruction that calls does no more than that; and labels are (`of_labels`).
use Rattle.std.proofs.Common.{◌≡◌, ℕ, false, List, Option, Some, slice_get}
use Rattle.std.proofs.Common.{sym, ap, subst, ◌∙◌}
use Rattle.std.specs.Prelude.{All}
use Rattle.std.specs.Option.{option_map}
use Rattle.std.proofs.lemmas.Bool.{false≢true}
use Rattle.tk_base.specs.declared.access.Denial.{Denial}
use Rattle.tk_base.specs.declared.process.Choice.{Choice}
use Rattle.upcall_queue.specs.declared.inbox.Delivery.{Delivery}
use Rattle.upcall_queue.specs.Pending.{due, left_by}
use Rattle.rv32_model.specs.declared.turn_end.TurnEnd.TheVariants as ends
use Rattle.rv32_model.specs.Laws.{CallsAreOfEcall}
use Rattle.rv32_model.specs.UserTurn.{MemoryAccess, UserTurn}
use Rattle.syscall_abi.specs.declared.form.CallForm.{CallForm}
use Rattle.syscall_abi.specs.Call.{call_of}
use Rattle.process_model.specs.Permission.{denied}
use Rattle.process_record.specs.declared.process.State.TheVariants.{Running, Yielded}
use Rattle.kernel_model.specs.Record.{Record, byte_at, instruction, with_effect}
use Rattle.kernel_model.specs.declared.settings.Settings.{Settings}
use Rattle.kernel_model.specs.Calls.{deliver, served}
use Rattle.kernel_model.specs.Turn.{Event, TurnTrace, Turned, apply, called, faulted, idle, is_turn}
use Rattle.kernel_model.specs.Turn.{surroundings, turn_counted, turned, untraced}
use Rattle.kernel_model.specs.Parts.{calls, happens}
use Rattle.kernel_model.specs.World.{Answer, World, after}
use Rattle.kernel_model.specs.World.{labels}
use Rattle.kernel_model.proofs.Places.{set_own}
use Rattle.kernel_model.proofs.Told.{told_at}
use Rattle.kernel_laws.specs.Between.{OfAnswerIn, OfEachAnswer, OfEachTurn, OfTurnIn}
use Rattle.kernel_model.proofs.Labels.{of_labels}
use Rattle.kernel_model.proofs.Turning.{of_each_end, only_counts}

-- what holds of each thing that a turn may come to: nothing; an instruction that goes; a denial; a call, of a process
-- whose instruction did no more; a delivery
pub record OfEachThing (settings : Settings) (time : ℕ) (r : Record) (P : Turned → Type 0) : Type 0 where
  pub nothing : P (idle r)
  pub went : (t : UserTurn) → t ≡ instruction r
      → P (record (idle (with_effect (turn_counted r) t)) { told = record untraced { accesses = t.accesses } })
  pub faults : (t : UserTurn) (denial : Denial) → t ≡ instruction r
      → P (faulted settings (with_effect (turn_counted r) t) denial)
  pub makes : (accesses : List MemoryAccess) (form : CallForm) → call_of r.process.regs ≡ Some form
      → r.process.state ≡ Running
      → let s = turn_counted r in
      P (called s accesses form (served settings.strict (surroundings settings time s) s form))
  pub delivers : (next : Delivery) → due r.own.inbox ≡ Some next → r.process.state ≡ Yielded
      → P (idle (deliver (turn_counted r) next (left_by next)))

module _ (of_ecall : CallsAreOfEcall) (settings : Settings) (time : ℕ) (r : Record) (P : Turned → Type 0)
    (each : OfEachThing settings time r P) where
  -- an instruction that calls only counts
  calls_count : (t : UserTurn) → t ≡ instruction r → t.end ≡ ends.Call → with_effect (turn_counted r) t ≡ turn_counted r
  calls_count t is calls =
      let e = of_ecall (denied r.own.layout) (byte_at r) r.process.regs
      (sym (ap (λ (u : UserTurn). u.end) is) ∙ calls) in
      ap (with_effect (turn_counted r)) is ∙ only_counts r (instruction r) e.1 e.2

  pub of_turn : P (turned settings time r)
  of_turn =
      of_each_end settings time r P (record {
        nothing = λ none. each.nothing;
        went = each.went;
        faults = λ t denial is runs. each.faults t denial is;
        makes = λ t form is calls runs.
            subst (λ (x : Record). call_of x.process.regs ≡ Some form
            → P (called x t.accesses form (served settings.strict (surroundings settings time x) x form)))
            (sym (calls_count t is calls)) (λ made. each.makes t.accesses form made runs);
        delivers = each.delivers;
      })

-- of those of one world, which may know its time
pub of_turns_at : (Holds : Record → Record → TurnTrace → Type 0) (w : World)
    → ((r : Record) → let t = turned w.settings w.clock.time r in Holds r t.after t.told)
    → (choice : Choice) → All (OfTurnIn Holds w (after w choice)) (labels w choice)
of_turns_at Holds w turns =
    of_labels (λ s. OfTurnIn Holds w s.after) w
    (λ slot r is may turn.
    rw (is, set_own w.records slot (turned w.settings w.clock.time r).after r is) (turns r))
    (λ deed slot r a is told no_turn turn. absurd (false≢true (sym no_turn ∙ turn)))

pub of_each_turn : (Holds : Record → Record → TurnTrace → Type 0)
    → ((settings : Settings) (time : ℕ) (r : Record) → let t = turned settings time r in Holds r t.after t.told)
    → OfEachTurn Holds
of_each_turn Holds turns w choice = of_turns_at Holds w (turns w.settings w.clock.time) choice

-- of each label that tells another event, which leaves what that event makes of the process
pub of_each_answer : (Holds : Event → Record → Record → Type 0)
    → ((settings : Settings) (event : Event) (r : Record) → is_turn event ≡ false
    → Holds event r (apply settings event r))
    → OfEachAnswer Holds
of_each_answer Holds events w =
    of_labels (λ s. OfAnswerIn Holds w s.after) w (λ slot r is may no_turn. absurd (false≢true (sym no_turn)))
    (λ deed slot r a is told no_turn.
    let left = told_at w.settings deed.told w.records slot
    ∙ ap (λ (told : Option Answer). option_map (happens w.settings told) (slice_get w.records slot)) told
    ∙ ap (option_map (happens w.settings (Some a))) is in
    rw (left, is) (events w.settings a.event r))
