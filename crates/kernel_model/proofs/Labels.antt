-- The labels of a step: that of a turn, of a process that may have one, or those of the answers to processes that are
-- there, or none (`of_labels`); of a device's step those of its answers. What labels show that was printed.
use Rattle.std.proofs.Common.{◌≡◌, ◌≢◌, ◌==◌, ◌||◌, not, ℕ, Bool, true, false, cond, List, [], ◌∷◌, ◌++◌, length, Some}
use Rattle.std.proofs.Common.{slice_get, Option, None, IfSome}
use Rattle.std.proofs.Common.{refl, sym, ap, ◌∙◌, arith, eqb-true}
use Rattle.std.specs.Prelude.{All}
use Rattle.std.proofs.lemmas.List.Elements.{All-nil, All-cons}
use Rattle.tk_base.specs.declared.process.Choice.{Choice}
use Rattle.tk_base.specs.declared.process.Choice.TheVariants.{Run, Device, Pass}
use Rattle.tk_base.specs.declared.process.Dev.{Dev}
use Rattle.tk_base.specs.declared.process.Dev.TheVariants as dev
use Rattle.kernel_model.specs.Record.{Record}
use Rattle.kernel_model.specs.Run.{printed}
use Rattle.kernel_model.specs.Shown.{act_shown, shown_by}
use Rattle.kernel_model.specs.Named.{can_run}
use Rattle.kernel_model.specs.Turn.{is_act, is_turn, may_turn, turned}
use Rattle.kernel_model.specs.World.{Answer, DeviceStep, Label, Stepped, World, answer_label, carried_out}
use Rattle.kernel_model.specs.World.{device_step_of}
use Rattle.kernel_model.specs.World.{done, is_ready, labels, ran, stepped, turn_label, unmade}
use Rattle.kernel_model.proofs.Places.{may_where_ready, of_stepped}
use Rattle.kernel_model.proofs.Steps.{AnswersOnly, IsAnswer, TellsNoTurn, device_answers, only_answers}
use Rattle.kernel_model.proofs.Told.{told_labels}

-- what holds, with what the step comes to, of the label of each turn, and of those of each device's step, holds of each
module _ (P : Stepped → Label → Type 0) (w : World)
    (turns : (slot : ℕ) (r : Record) → slice_get w.records slot ≡ Some r → may_turn r ≡ true
    → P (ran w slot (Some r)) (turn_label slot w.clock.time (turned w.settings w.clock.time r).told))
    (devices : (device : Dev) → let s = done w (device_step_of w device) in All (P s) s.labels) where
  of_ran : (slot : ℕ) (o : Option Record) → slice_get w.records slot ≡ o → can_run o ≡ true
      → let s = ran w slot o in All (P s) s.labels
  of_ran slot None is may = All-nil (P (ran w slot None))
  of_ran slot (Some r) is may =
      let s = ran w slot (Some r) in All-cons (P s) _ [] (turns slot r is may) (All-nil (P s))

  of_choice : (choice : Choice) → is_ready w choice ≡ true → let s = carried_out w choice in All (P s) s.labels
  unfolding carried_out
  of_choice (Run slot) ready = of_ran slot (slice_get w.records slot) refl (may_where_ready w slot ready)
  of_choice (Device device) ready = devices device
  of_choice (Pass ticks) ready = All-nil (P (carried_out w (Pass ticks)))

  pub labels_by_device : (choice : Choice) → All (P (stepped w choice)) (labels w choice)
  labels_by_device choice =
      of_stepped (λ (s : Stepped). All (P s) s.labels) w choice (All-nil (P (unmade w))) (of_choice choice)

-- and of each answer, whatever the device
pub of_labels : (P : Stepped → Label → Type 0) (w : World)
    → ((slot : ℕ) (r : Record) → slice_get w.records slot ≡ Some r → may_turn r ≡ true
    → P (ran w slot (Some r)) (turn_label slot w.clock.time (turned w.settings w.clock.time r).told))
    → ((deed : DeviceStep) (slot : ℕ) (r : Record) (a : Answer) → slice_get w.records slot ≡ Some r
    → deed.told slot ≡ Some a → is_turn a.event ≡ false → P (done w (Some deed)) (answer_label slot a))
    → (choice : Choice) → All (P (stepped w choice)) (labels w choice)
of_labels P w turns answers =
    labels_by_device P w turns (λ device. of_deed (device_step_of w device) (device_answers w device))
  where
    of_deed : (o : Option DeviceStep) → IfSome o (λ deed. TellsNoTurn deed.told)
        → let s = done w o in All (P s) s.labels
    of_deed None tells = All-nil (P (done w None))
    of_deed (Some deed) tells =
        told_labels (P (done w (Some deed))) deed.told 0 w.records
        (λ slot at r a here there is.
        let same : slot ≡ at = omega (arith, here) in
        answers deed at r a (ap (slice_get w.records) (sym same) ∙ there) is (tells at a is))

-- what holds of the label of each answer of a device that lets nothing come in holds of them
pub answer_labels : (P : Label → Type 0) (w : World)
    → ((slot : ℕ) (r : Record) (a : Answer) → slice_get w.records slot ≡ Some r → IsAnswer a.event
    → P (answer_label slot a))
    → (device : Dev) → device ≢ dev.Event → All P (done w (device_step_of w device)).labels
answer_labels P w answered device apart = by_deed (device_step_of w device) (only_answers w device apart)
  where
    by_deed : (o : Option DeviceStep) → IfSome o (λ deed. AnswersOnly deed.told) → All P (done w o).labels
    by_deed None answers = All-nil P
    by_deed (Some deed) answers =
        told_labels P deed.told 0 w.records
        (λ slot at r a here there is.
        let same : slot ≡ at = omega (arith, here) in
        answered at r a (ap (slice_get w.records) (sym same) ∙ there) (answers at a is))

-- nothing is in a list without elements
pub none_in : {X : Type 0} (xs : List X) → (length xs == 0) ≡ true → xs ≡ []
none_in [] e = refl
none_in (x ∷ xs) e = absurd (omega (arith, eqb-true (length (x ∷ xs)) 0 e))

-- what a step shows that it printed
pub shown_by-printed : (ls : List Label) → (shown_by ls).printed.items ≡ printed ls
unfolding shown_by
shown_by-printed [] = refl
shown_by-printed (label ∷ ls) =
    by_shown (shown_by-printed ls) (is_turn label.event) (is_act label.event) (length label.printed == 0) refl
  where
    more : List ℕ → List ℕ
    more bytes = label.printed ++ bytes

    by_shown : (shown_by ls).printed.items ≡ printed ls
        → (turn act none : Bool) → (length label.printed == 0) ≡ none
        → (cond (turn || (act || not none)) (record {
          slot = Some label.slot;
          act = act_shown label.slot label.event;
          made = label.trace.call;
          denial = label.trace.denial;
          printed = record { items = more (shown_by ls).printed.items };
        }) (shown_by ls)).printed.items ≡ more (printed ls)
    by_shown later true act none e = ap more later
    by_shown later false true none e = ap more later
    by_shown later false false false e = ap more later
    by_shown later false false true e = later ∙ sym (ap (λ (xs : List ℕ). xs ++ printed ls) (none_in label.printed e))
