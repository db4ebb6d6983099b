-- The round robin where the process in one slot alone can have a turn: its slices follow one another. No other slot is
-- ready, so it has the next turn however much of its slice is used; each turn is a stretch of one, joined to those
-- after it by induction on the turns, and what is used then is counted through the slices (`used_through`).
use Rattle.kernel_laws.proofs.Cases.{cases_option}
use Rattle.std.proofs.lemmas.Bool.{cases_Bool}
use Rattle.std.proofs.Common.{inl, inr}
use Rattle.std.proofs.Common.{◌≡◌, ℕ, zero, suc, ◌+◌, ◌-◌, ◌%◌, ◌<◌, ◌≤◌, ◌==◌, Bool, true, false, ◌&&◌, nat_lt}
use Rattle.std.proofs.Common.{if◌then◌else◌, map, slice_get, Option, None, Some, refl, sym, ap}
use Rattle.std.proofs.Common.{subst, ◌∙◌, arith, eqb-true, eq-eqb}
use Rattle.std.proofs.Math.Nat.{mod-add-mod, mod-eq_of_lt, mod_self}
use Rattle.std.proofs.lemmas.Bool.{false≢true}
use Rattle.std.proofs.lemmas.Bool.Decides.{nat_tests}
use Rattle.std.proofs.lemmas.List.{set-set}
use Rattle.std.proofs.lemmas.Option.{slice_get_within}
use Rattle.tk_base.specs.declared.limits.TheConstants.{SLOT_COUNT, STEP_LIMIT}
use Rattle.tk_base.specs.declared.process.Choice.TheVariants.{Run}
use Rattle.process_record.specs.declared.process.State.TheVariants.{Running}
use Rattle.turn_scheduler.specs.RoundRobin.{next_slot, ready_device, used_after}
use Rattle.kernel_model.specs.Record.{Record}
use Rattle.kernel_model.specs.Turn.{may_turn}
use Rattle.kernel_model.specs.Named.{can_run}
use Rattle.kernel_model.specs.World.{World, is_let, only_at, only_in}
use Rattle.kernel_model.specs.Run.{next, ready_devices, ready_slots}
use Rattle.kernel_model.specs.Stretch.{AllGo, IsLetOnTheWay, IsStretch, NoneActs, after_instructions, after_stretch}
use Rattle.kernel_model.specs.Stretch.{at_turn, instruction_made}
use Rattle.kernel_model.proofs.Places.{slice_get-set_other, slice_get-set_same}
use Rattle.kernel_model.proofs.Runs.{going_is_ready, next_slot_ready, ready_runs}
use Rattle.kernel_laws.specs.Alone.{IsAlone, OneAloneGoesOn, OneAloneIsNext, after_slices, used_through}
use Rattle.kernel_laws.proofs.OneRun.{no_turn}
use Rattle.kernel_laws.proofs.Stretch.{chosen_next, one_then, present_is_next_on_the_way, round_is_stretch}
use Rattle.kernel_laws.proofs.Stretch.{runs_and_goes, stretches_join, together}
use Rattle.kernel_laws.proofs.Turns.{turn_is_free}

pub one_alone_is_next : OneAloneIsNext
one_alone_is_next w slot r within at runs free alone lets =
    let chosen = next_slot (ready_slots w) w.present.slot w.present.used w.pace.slice in
    elim (cases_option chosen) [
      | inl e ↦
          absurd (false≢true (sym (no_turn (ready_slots w) w.present.slot w.present.used w.pace.slice slot e within)
          ∙ runs_and_goes w slot r at runs free lets))
      | inr other ↦ elim (cases_Bool (other.0 == slot)) [
        | inl same ↦ other.1 ∙ ap Some (eqb-true other.0 slot same)
        | inr apart ↦
            absurd (false≢true (sym (alone other.0 (λ is. false≢true (sym apart ∙ eq-eqb other.0 slot is)))
            ∙ ready_runs w.records other.0 (going_is_ready (only_in w) (map may_turn w.records) other.0
            (next_slot_ready (ready_slots w) w.present.slot w.present.used w.pace.slice other.0 other.1))))
      ]
    ]

-- before its next turn a slot has used less than a slice
used_less : (o : Option ℕ) (used slice slot : ℕ) → 1 ≤ slice → used_after o used slice slot - 1 < slice
used_less None used slice slot one = omega (arith, one)
used_less (Some present) used slice slot one = by (present == slot) (nat_lt used slice) refl
  where
    by : (same less : Bool) → nat_lt used slice ≡ less → (if same && less then used + 1 else 1) - 1 < slice
    by true true e = let below : used < slice = grind (arith, nat_tests) in omega (arith, below)
    by true false e = omega (arith, one)
    by false less e = omega (arith, one)

-- a turn more, and the next slice begins where this one is used
used_on : (slot before slice : ℕ) → before < slice
    → used_after (Some slot) (before + 1) slice slot - 1 ≡ (before + 1) % slice
used_on slot before slice less =
    elim (cases_Bool (nat_lt (before + 1) slice)) [
      | inl e ↦
          let below : before + 1 < slice = grind (arith, nat_tests) in
          rw (eq-eqb slot slot refl, e, mod-eq_of_lt below) (omega arith)
      | inr e ↦
          let above : slice ≤ before + 1 = grind (arith, nat_tests) in
          let is : before + 1 ≡ slice = omega (arith, less, above) in
          rw (eq-eqb slot slot refl, e) (sym (ap (λ (n : ℕ). n % slice) is ∙ mod_self slice))
    ]

-- so what is used after one turn and then some is what is used after all of them
used_one : (before slice : ℕ) → before < slice → before + 1 ≡ used_through slice before 1
used_one before slice less =
    let same : before + 1 - 1 ≡ before = omega arith in
    sym (ap (λ (n : ℕ). n % slice + 1) same ∙ ap (λ (n : ℕ). n + 1) (mod-eq_of_lt less))

used_then : (slot before slice m : ℕ) → before < slice
    → used_through slice (used_after (Some slot) (before + 1) slice slot - 1) (suc m)
    ≡ used_through slice before (suc (suc m))
used_then slot before slice m less =
    let less_one : (before + 1) % slice + suc m - 1 ≡ (before + 1) % slice + m = let n = (before + 1) % slice in
    omega arith in
    let all : before + suc (suc m) - 1 ≡ before + 1 + m = omega arith in
    rw (used_on slot before slice less, less_one, mod-add-mod (before + 1) slice m, all)

module _ (slot : ℕ) (w : World) (r : Record) (limit : w.clock.steps + 1 ≤ STEP_LIMIT) (one : 1 ≤ w.pace.slice)
    (within : slot < SLOT_COUNT) (f : next w ≡ Some (Run slot)) (at : slice_get w.records slot ≡ Some r)
    (runs : r.process.state ≡ Running) (alone : IsAlone w slot) where
  free : r.process.held ≡ false
  free = turn_is_free w slot r at f

  abbrev before : ℕ
  before = (at_turn w slot).present.used

  less : before < w.pace.slice
  less = used_less w.present.slot w.present.used w.pace.slice slot one

  -- the world after its next turn
  abbrev there : World
  there = after_stretch 1 (at_turn w slot) slot (instruction_made r)

  first_turn : AllGo 1 r → IsLetOnTheWay 1 w slot → NoneActs 1 w slot r → IsStretch 1 w there
  unfolding after_instructions
  first_turn go lets none =
      round_is_stretch 1 slot w r (omega arith) limit f at runs (omega (arith, less)) go
      (present_is_next_on_the_way 1 slot (at_turn w slot) r refl at runs free (omega (arith, less)) lets none)

  at_there : slice_get there.records slot ≡ Some (instruction_made r)
  at_there = slice_get-set_same w.records slot (instruction_made r) (slice_get_within w.records slot r at)

  alone_there : IsAlone there slot
  alone_there other apart =
      ap can_run (slice_get-set_other w.records slot other (instruction_made r) apart) ∙ alone other apart

  next_there : is_let (only_in there) slot ≡ true → ready_device (ready_devices there) ≡ None
      → next there ≡ Some (Run slot)
  next_there lets none =
      chosen_next there slot none
      (one_alone_is_next there slot (instruction_made r) within at_there runs free alone_there lets)

  -- the turns after it lead where all of them do
  all_turns : (m : ℕ) (later : Record) → after_slices (suc m) there slot later ≡ after_slices (suc (suc m)) w slot later
  all_turns m later =
      rw (
        set-set w.records slot (instruction_made r) later,
        one_then w.clock.time (suc m),
        one_then w.clock.steps (suc m),
        used_then slot before w.pace.slice m less,
      )

pub one_alone_goes_on : OneAloneGoesOn
unfolding after_instructions
one_alone_goes_on zero slot w r some limit one within f at runs alone go lets none = absurd (omega (arith, some))
one_alone_goes_on (suc zero) slot w r some limit one within f at runs alone go lets none =
    rw (used_one (at_turn w slot).present.used w.pace.slice (less slot w r limit one within f at runs alone))
    at (first_turn slot w r limit one within f at runs alone go lets none)
one_alone_goes_on (suc (suc m)) slot w r some limit one within f at runs alone go lets none =
    let second = there slot w r limit_one one within f at runs alone in
    let later = after_instructions (suc m) (instruction_made r) in
    subst (IsStretch (suc (suc m)) w) (all_turns slot w r limit_one one within f at runs alone m later)
    (stretches_join 1 (suc m) (suc (suc m)) w second (after_slices (suc m) second slot later) (omega arith)
    (first_turn slot w r limit_one one within f at runs alone (λ j h. go j (omega (arith, h)))
    (λ j h. lets j (omega (arith, h))) (λ j h. none j (omega (arith, h))))
    (one_alone_goes_on (suc m) slot second (instruction_made r) (omega arith) (omega (arith, limit)) one within
    (next_there slot w r limit_one one within f at runs alone (lets 1 (omega arith)) (none 1 (omega arith)))
    (at_there slot w r limit_one one within f at runs alone) runs
    (alone_there slot w r limit_one one within f at runs alone)
    (λ j h. go (suc j) (omega (arith, h)))
    (λ j h. subst (λ (time : ℕ). is_let (only_at time w.pace.window) slot ≡ true) (one_then w.clock.time j)
    (lets (suc j) (omega (arith, h))))
    (λ j h. ap (λ (v : World). ready_device (ready_devices v))
    (together (at_turn w slot) slot r refl at runs (turn_is_free w slot r at f) j
    (after_instructions j (instruction_made r)))
    ∙ none (suc j) (omega (arith, h)))))
  where
    limit_one : w.clock.steps + 1 ≤ STEP_LIMIT
    limit_one = omega (arith, limit)
