-- What a step leaves at each place of the records: a turn changes that of its slot, and all others are as they were
-- (`ran-own`, `ran-other`). Here stand the first case splits of every walk: a step is made or not (`of_stepped`), a
-- turn is had or not (`of_turned`), and a world after a step is that of a turn, of a deed or of a pass (`of_world`).
use Rattle.std.proofs.Common.{◌≡◌, ◌≢◌, ℕ, zero, suc, ◌<◌, Bool, true, false, cond, List, [], ◌∷◌}
use Rattle.std.proofs.Common.{length, slice_get, slice_set, Option, None, Some, refl, sym, ap, is_some, ◌∙◌, ◌++◌}
use Rattle.std.proofs.Common.{not, nat_lt}
use Rattle.std.specs.Option.{option_map}
use Rattle.std.proofs.lemmas.Bool.{false≢true, and_parts}
use Rattle.std.proofs.lemmas.Option.{slice_get_within, slice_get-get_or}
use Rattle.std.proofs.lemmas.List.{get_or-set_same, length-set}
use Rattle.kernel_model.specs.Record.{Record}
use Rattle.kernel_model.specs.declared.settings.Settings.{Settings}
use Rattle.kernel_model.specs.Turn.{Turn, Turned, apply, idle, may_turn, turn_in, turned}
use Rattle.kernel_model.specs.World.{DeviceStep, Stepped, World, after, after_deed, after_turn_of, carried_out}
use Rattle.kernel_model.specs.World.{device_step_of, done, is_ready, may_be_made, ran, stepped}
use Rattle.kernel_model.specs.Parts.{passed}
use Rattle.kernel_model.specs.World.{Devices, acted, queue_without, routed, unmade, with_queue}
use Rattle.kernel_model.specs.Named.{can_run, slots_in}
use Rattle.driver_model.specs.Commands.{BoardRequest, Leaves, Lights, QueueName, Waits, Writes, Reads, Randoms, Stores}
use Rattle.driver_model.specs.Commands.{is_same}
use Rattle.tk_base.specs.declared.limits.TheConstants.{STEP_LIMIT}
use Rattle.tk_base.specs.declared.process.Choice.{Choice}
use Rattle.tk_base.specs.declared.process.Choice.TheVariants.{Run, Device, Pass}
use Rattle.tk_base.specs.declared.process.Dev.{Dev}
use Rattle.std.proofs.lemmas.Bool.{cond_both, not-true}
use Rattle.std.proofs.Common.{◌⊎◌, inl, inr}

-- what holds where nothing is made, and of what a choice that is ready comes to, holds of a step
pub of_stepped : (P : Stepped → Type 0) (w : World) (choice : Choice) → P (unmade w)
    → (is_ready w choice ≡ true → P (carried_out w choice)) → P (stepped w choice)
unfolding stepped
of_stepped P w choice none made = cond_both (is_ready w choice) (carried_out w choice) (unmade w) P made (λ e. none)

-- a step that is ready is made, and no other is
pub stepped_ready : (w : World) (choice : Choice) → is_ready w choice ≡ true → stepped w choice ≡ carried_out w choice
unfolding stepped
stepped_ready w choice e = ap (λ (b : Bool). cond b (carried_out w choice) (unmade w)) e

pub stepped_else : (w : World) (choice : Choice) → is_ready w choice ≡ false → stepped w choice ≡ unmade w
unfolding stepped
stepped_else w choice e = ap (λ (b : Bool). cond b (carried_out w choice) (unmade w)) e

-- what holds where nothing is done, and of the turn in a process's state, holds of its turn, held or not
pub of_turned : (P : Turned → Type 0) (settings : Settings) (time : ℕ) (r : Record) → P (idle r)
    → P (turn_in settings time r.process.state r) → P (turned settings time r)
unfolding turned
of_turned P settings time r none turns = cond_both r.process.held _ _ P (λ e. none) (λ e. turns)

-- and where no operator holds it its turn is that in its state
pub free_turned : (settings : Settings) (time : ℕ) (r : Record) → r.process.held ≡ false
    → turned settings time r ≡ turn_in settings time r.process.state r
unfolding turned
free_turned settings time r free =
    ap (λ (held : Bool). cond held (idle r) (turn_in settings time r.process.state r)) free

-- a turn that is ready is that of a process which may have one, and no operator holds that
pub may_where_ready : (w : World) (slot : ℕ) → is_ready w (Run slot) ≡ true
    → can_run (slice_get w.records slot) ≡ true
unfolding may_be_made
may_where_ready w slot ready = (and_parts (nat_lt w.clock.steps STEP_LIMIT) _ ready).1

pub free_where_may : (r : Record) → may_turn r ≡ true → r.process.held ≡ false
free_where_may r may = not-true r.process.held (and_parts (not r.process.held) _ may).0

-- a queue once one has changed
pub queue_with : (queue name : QueueName) (change : List ℕ → List ℕ) (d : Devices)
    → slots_in queue (with_queue name change d).waiting
    ≡ cond (is_same name queue) (change (slots_in queue d.waiting)) (slots_in queue d.waiting)
queue_with Writes Writes change d = refl
queue_with Reads Reads change d = refl
queue_with Randoms Randoms change d = refl
queue_with Stores Stores change d = refl
queue_with queue name change d = refl

-- two names of queues that are the same are one
pub same_name : (a b : QueueName) → is_same a b ≡ true → a ≡ b
same_name Writes Writes e = refl
same_name Reads Reads e = refl
same_name Randoms Randoms e = refl
same_name Stores Stores e = refl
same_name a b e = absurd (false≢true e)

-- what is asked of the board changes queues and LEDs alone
pub routed_rest : (slot : ℕ) (acts : List BoardRequest) (d : Devices)
    → let v = routed slot acts d in v ≡ record d { waiting = v.waiting; leds = v.leds }
routed_rest slot [] d = refl
routed_rest slot (act ∷ acts) d =
    let v = routed slot acts (acted slot act d) in
    routed_rest slot acts (acted slot act d)
    ∙ ap (λ (x : Devices). record x { waiting = v.waiting; leds = v.leds }) (by_act act)
  where
    by_queue : (name : QueueName) (change : List ℕ → List ℕ)
        → let v = with_queue name change d in v ≡ record d { waiting = v.waiting; leds = v.leds }
    by_queue Writes change = refl
    by_queue name change = refl

    by_act : (act : BoardRequest) → let v = acted slot act d in v ≡ record d { waiting = v.waiting; leds = v.leds }
    by_act (Waits queue) = by_queue queue (λ slots. slots ++ slot ∷ [])
    by_act (Leaves queue) = by_queue queue (queue_without slot)
    by_act (Lights led switch) = refl

-- an option is none, or something
pub cases_Option : {X : Type 0} (o : Option X) → (o ≡ None) ⊎ ((x : X) × (o ≡ Some x))
cases_Option None = inl refl
cases_Option (Some x) = inr (x, refl)

-- what is there is one
pub same_some : {X : Type 0} (x y : X) → Some x ≡ Some y → x ≡ y
same_some x y e = cc

pub same_there : {X : Type 0} (o : Option X) (x y : X) → o ≡ Some x → o ≡ Some y → x ≡ y
same_there o x y e f = same_some x y (sym e ∙ f)

pub none_there : {X : Type 0} (o : Option X) → is_some o ≡ false → o ≡ None
none_there None e = refl
none_there (Some x) e = absurd (false≢true (sym e))

pub slice_get-set_same : {X : Type 0} (xs : List X) (i : ℕ) (y : X) → i < length xs
    → slice_get (slice_set xs i y) i ≡ Some y
slice_get-set_same xs i y h =
    slice_get-get_or (slice_set xs i y) i y (rw length-set h) ∙ ap Some (get_or-set_same xs i y y h)

pub slice_get-set_other : {X : Type 0} (xs : List X) (i j : ℕ) (y : X) → j ≢ i
    → slice_get (slice_set xs i y) j ≡ slice_get xs j
slice_get-set_other [] i j y ne = refl
slice_get-set_other (x ∷ xs) zero zero y ne = absurd (ne refl)
slice_get-set_other (x ∷ xs) (suc i) (suc j) y ne = slice_get-set_other xs i j y (λ e. ne (ap suc e))
slice_get-set_other (x ∷ xs) i j y ne = refl

-- the record whose turn it is
pub ran-own : (w : World) (slot : ℕ) (o : Option Record) → slice_get w.records slot ≡ o
    → slice_get (ran w slot o).after.records slot ≡ option_map (apply w.settings (Turn w.clock.time)) o
unfolding apply
ran-own w slot None e = e
ran-own w slot (Some r) e =
    slice_get-set_same w.records slot (turned w.settings w.clock.time r).after (slice_get_within w.records slot r e)

-- each other record
pub ran-other : (w : World) (slot other : ℕ) (o : Option Record) → other ≢ slot
    → slice_get (ran w slot o).after.records other ≡ slice_get w.records other
ran-other w slot other None ne = refl
ran-other w slot other (Some r) ne =
    slice_get-set_other w.records slot other (turned w.settings w.clock.time r).after ne

-- the one record that is another
pub set_own : {X : Type 0} (xs : List X) (i : ℕ) (y x : X) → slice_get xs i ≡ Some x
    → slice_get (slice_set xs i y) i ≡ Some y
set_own xs i y x there = slice_get-set_same xs i y (slice_get_within xs i x there)

-- what holds of a world holds of the one after a step, where it holds after each turn, each deed and each pass of time
module _ (P : World → Type 0) (w : World) (before : P w) where
  of_done : ((deed : DeviceStep) → P (after_deed w deed)) → (o : Option DeviceStep) → P (done w o).after
  of_done acts None = before
  of_done acts (Some deed) = acts deed

  of_carried_out : ((slot : ℕ) (t : Turned) → P (after_turn_of w slot t))
      → ((deed : DeviceStep) → P (after_deed w deed)) → ((ticks : ℕ) → P (passed w ticks)) → (choice : Choice)
      → P (carried_out w choice).after
  unfolding carried_out
  of_carried_out turns acts passes (Run slot) =
      elim (slice_get w.records slot) as (λ o. P (ran w slot o).after)
      [ None ↦ before | Some r ↦ turns slot (turned w.settings w.clock.time r) ]
  of_carried_out turns acts passes (Device device) = of_done acts (device_step_of w device)
  of_carried_out turns acts passes (Pass ticks) = passes ticks

  pub of_world : ((slot : ℕ) (t : Turned) → P (after_turn_of w slot t)) → ((deed : DeviceStep) → P (after_deed w deed))
      → ((ticks : ℕ) → P (passed w ticks)) → (choice : Choice) → P (after w choice)
  of_world turns acts passes choice =
      of_stepped (λ (s : Stepped). P s.after) w choice before (λ ready. of_carried_out turns acts passes choice)

  -- no turn, in particular
  pub of_acted : ((deed : DeviceStep) → P (after_deed w deed)) → (device : Dev) → P (after w (Device device))
  unfolding carried_out
  of_acted acts device =
      of_stepped (λ (s : Stepped). P s.after) w (Device device) before (λ ready. of_done acts (device_step_of w device))
