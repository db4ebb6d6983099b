-- Kept times, as they are looked for, as time passes, and as processes change: each tells when the alarm of its slot
-- becomes due (`TellsAlarm`). As time passes fewer ticks are left by as many, so the time stays; a change of one slot
-- leaves what is told of all others, and to look at that slot again makes it all.
use Rattle.std.proofs.Common.{◌≡◌, ◌≢◌, ℕ, zero, suc, ◌+◌, ◌-◌, ◌%◌, ◌^◌, ◌<◌, Bool, true, false, cond, List}
use Rattle.std.proofs.Common.{[], ◌∷◌}
use Rattle.std.proofs.Common.{length, replicate, slice_get, slice_set, slice_index_or, option_and_then, option_map}
use Rattle.std.proofs.Common.{Option, None}
use Rattle.std.proofs.Common.{Some, refl, sym, ap, ap₂, subst, ◌∙◌, arith}
use Rattle.std.proofs.Common.{inl, inr}
use Rattle.std.proofs.lemmas.Bool.{cases_Bool, cases_eq}
use Rattle.std.proofs.lemmas.List.{get_or-set_same, get_or-set_other}
use Rattle.tk_base.specs.declared.limits.TheConstants.{SLOT_COUNT}
use Rattle.grant_values.specs.declared.alarm.Armed.{Armed}
use Rattle.grant_model.specs.Grants.{Grant, grant_of}
use Rattle.process_model.specs.Own.{Own}
use Rattle.driver_model.specs.Alarm.{alarm_driver, alarm_in, armed_in, ticks_left, ticks_left_of}
use Rattle.driver_model.specs.Laws.{TimeBringsNearer}
use Rattle.grant_enter.specs.Homes.{living}
use Rattle.board_devices.specs.Clock.{clock_at}
use Rattle.alarm_capsule.specs.Times.{AllTell, BecomesDue, OthersTell, TellsAlarm}

-- what is left of an alarm of a process, by whether it lives
left_by : ℕ → Bool → Option Armed → Option ℕ
left_by now lives alarm = cond lives (option_map (ticks_left now) alarm) None

-- of a slot in which nobody lives none tells
pub nobody_tells : (now slot : ℕ) (o : Option Own) → living slot o ≡ None → option_and_then (ticks_left_of now) o ≡ None
nobody_tells now slot None e = refl
nobody_tells now slot (Some own) e = elim (cases_Bool own.lives) [
  | inl lives ↦ let here = rw lives at e in absurd (cc)
  | inr not ↦ rw not refl
]

-- and of one that has none armed
pub unarmed_tells : (now : ℕ) (own : Own) → alarm_in own ≡ None → ticks_left_of now own ≡ None
unarmed_tells now own e = ap (λ (a : Option Armed). cond own.lives (option_map (ticks_left now) a)
    None) e ∙ both own.lives
  where
    both : (b : Bool) → ◌≡◌ {A = Option ℕ} (cond b None None) None
    both true = refl
    both false = refl

-- so does that in a slot
pub none_left_in : (now slot : ℕ) (owns : List Own) (nobody : Own) → alarm_in (slice_index_or owns slot nobody) ≡ None
    → option_and_then (ticks_left_of now) (slice_get owns slot) ≡ None
none_left_in now slot [] nobody e = refl
none_left_in now zero (own ∷ owns) nobody e = unarmed_tells now own e
none_left_in now (suc slot) (own ∷ owns) nobody e = none_left_in now slot owns nobody e

-- what is left of an alarm leads to the time at which it becomes due
pub ahead_tells : (now time : ℕ) (o : Option Own) (own : Own) (alarm : Armed) → o ≡ Some own → own.lives ≡ true
    → alarm_in own ≡ Some alarm → alarm.reference < 2 ^ 32 → alarm.delta < 2 ^ 32
    → BecomesDue now time (time + ticks_left now alarm) o
ahead_tells now time o own alarm there lives armed reference delta = record {
  own = own;
  there = there;
  lives = lives;
  alarm = alarm;
  armed = armed;
  reference = reference;
  delta = delta;
  left = omega arith;
}

-- what a kept time that lies ahead says is left
pub left_ahead : (now time at : ℕ) (o : Option Own) → BecomesDue now time at o
    → option_and_then (ticks_left_of now) o ≡ Some (at - time)
left_ahead now time at o due =
    ap (option_and_then (ticks_left_of now)) due.there
    ∙ ap₂ (λ (b : Bool) (a : Option Armed). cond b (option_map (ticks_left now) a) None) due.lives due.armed
    ∙ ap Some due.left

-- fewer than 2^32 ticks are left
pub soon : (now time at : ℕ) (o : Option Own) → BecomesDue now time at o → at - time < 2 ^ 32
soon now time at o due = omega (arith, due.left, due.delta)

none_left_on : (now later : ℕ) (o : Option Own) → option_and_then (ticks_left_of now) o ≡ None
    → option_and_then (ticks_left_of later) o ≡ None
none_left_on now later None e = refl
none_left_on now later (Some own) e = by_lives own.lives (alarm_in own) e
  where
    by_lives : (b : Bool) (alarm : Option Armed) → cond b (option_map (ticks_left now) alarm) None ≡ None
        → cond b (option_map (ticks_left later) alarm) None ≡ None
    by_lives false alarm e = refl
    by_lives true None e = refl
    by_lives true (Some alarm) e = cc

-- one that becomes due does so too as it is reckoned from another time, where as much is left of it then
pub left_now : (now time at later after due_at : ℕ) (o : Option Own) (due : BecomesDue now time at o)
    → ticks_left later due.alarm ≡ due_at - after → BecomesDue later after due_at o
left_now now time at later after due_at o due left = record {
  own = due.own;
  there = due.there;
  lives = due.lives;
  alarm = due.alarm;
  armed = due.armed;
  reference = due.reference;
  delta = due.delta;
  left = left;
}

-- time that passes leaves true what is told
pub later_tells : TimeBringsNearer → (now time passed : ℕ) (kept : Option ℕ) (o : Option Own) → now < 2 ^ 32
    → TellsAlarm now time kept o → TellsAlarm ((now + passed) % 2 ^ 32) (time + passed) kept o
later_tells law now time passed None o small tells = none_left_on now ((now + passed) % 2 ^ 32) o tells
later_tells law now time passed (Some at) o small tells = λ ahead.
    let due = tells (omega (arith, ahead)) in
    left_now now time at ((now + passed) % 2 ^ 32) (time + passed) at o due
    (law now passed due.alarm small due.reference due.delta (omega (arith, due.left, ahead)) ∙ omega (arith, due.left))

-- what the alarm has of a process
left_of : ℕ → Bool → List Grant → Option ℕ
left_of now lives grants =
    cond lives (option_map (ticks_left now) (armed_in (option_map (λ g. g.value) (grant_of alarm_driver grants)))) None

-- so does what becomes of a process, where it keeps the same for the alarm
pub same_tells : (now time : ℕ) (kept : Option ℕ) (own o : Own) → o.grants ≡ own.grants → o.lives ≡ own.lives
    → TellsAlarm now time kept (Some own) → TellsAlarm now time kept (Some o)
unfolding left_of
same_tells now time None own o grants lives tells = ap₂ (left_of now) lives grants ∙ tells
same_tells now time (Some at) own o grants lives tells = λ ahead.
    let due = tells ahead in
    let there = due.there in
    let same : own ≡ due.own = cc in
    record {
      own = o;
      there = refl;
      lives = lives ∙ ap (λ (x : Own). x.lives) same ∙ due.lives;
      alarm = due.alarm;
      armed = ap (λ (gs : List Grant). armed_in (option_map (λ g. g.value) (grant_of alarm_driver gs)))
          (grants ∙ ap (λ (x : Own). x.grants) same) ∙ due.armed;
      reference = due.reference;
      delta = due.delta;
      left = due.left;
    }

-- a slot that is set has what it is set to, and every other has what it had
set_same : {X : Type 0} (xs : List X) (i : ℕ) (x y : X) → slice_get xs i ≡ Some x → slice_get (slice_set xs i
    y) i ≡ Some y
set_same [] i x y e = cc
set_same (z ∷ zs) zero x y e = refl
set_same (z ∷ zs) (suc i) x y e = set_same zs i x y e

set_other : {X : Type 0} (xs : List X) (i j : ℕ) (y : X) → j ≢ i → slice_get (slice_set xs i y) j ≡ slice_get xs j
set_other [] i j y ne = refl
set_other (z ∷ zs) zero zero y ne = absurd (ne refl)
set_other (z ∷ zs) zero (suc j) y ne = refl
set_other (z ∷ zs) (suc i) zero y ne = refl
set_other (z ∷ zs) (suc i) (suc j) y ne = set_other zs i j y (λ e. ne (ap suc e))

-- where the process in one slot changes, what is told of all others stays true
pub others_tell : (now time slot : ℕ) (times : List (Option ℕ)) (owns : List Own) (o : Own)
    → AllTell now time times owns → OthersTell slot now time times (slice_set owns slot o)
others_tell now time slot times owns o tell other ne =
    rw (set_other owns slot other o ne) (tell other)

-- where the time of the process in one slot is looked for again, what is told of all is true
pub noted_tell : (now time slot : ℕ) (times : List (Option ℕ)) (owns : List Own) (kept : Option ℕ) → slot < length times
    → TellsAlarm now time kept (slice_get owns slot) → OthersTell slot now time times owns
    → AllTell now time (slice_set times slot kept) owns
noted_tell now time slot times owns kept within tells others other = elim (cases_eq other slot) [
  | inl same ↦ rw (same, get_or-set_same times slot kept None within) tells
  | inr apart ↦ rw (get_or-set_other times slot other kept None apart) (others other apart)
]

-- and of all, where it keeps the same for the alarm
pub kept_tell : (now time slot : ℕ) (times : List (Option ℕ)) (owns : List Own) (own o : Own)
    → slice_get owns slot ≡ Some own → o.grants ≡ own.grants → o.lives ≡ own.lives → AllTell now time times owns
    → AllTell now time times (slice_set owns slot o)
kept_tell now time slot times owns own o was grants lives tell other = elim (cases_eq other slot) [
  | inl same ↦ rw (same, set_same owns slot own o was)
      (same_tells now time (slice_index_or times slot None) own o grants lives (rw was at (tell slot)))
  | inr apart ↦ others_tell now time slot times owns o tell other apart
]

-- as time passes on the clock of a board, what is told of all stays true
pub all_later : TimeBringsNearer → (start time passed : ℕ) (times : List (Option ℕ)) (owns : List Own)
    → AllTell (clock_at start time) time times owns
    → AllTell (clock_at start (time + passed)) (time + passed) times owns
all_later law start time passed times owns tell slot =
    let kept = slice_index_or times slot None in
    subst (λ (now : ℕ). TellsAlarm now (time + passed) kept (slice_get owns slot)) (on_the_clock start time passed)
    (later_tells law (clock_at start time) time passed kept (slice_get owns slot) (omega arith) (tell slot))
  where
    on_the_clock : (start time passed : ℕ) → (clock_at start time + passed) % 2 ^ 32 ≡ clock_at start (time + passed)
    on_the_clock start time passed = omega arith

nothing_at : (n slot : ℕ) → ◌≡◌ {A = Option ℕ} (slice_index_or (replicate n None) slot None) None
nothing_at zero slot = refl
nothing_at (suc n) zero = refl
nothing_at (suc n) (suc slot) = nothing_at n slot

-- where no process has a grant, none has an alarm armed
pub fresh_tell : (now time : ℕ) (owns : List Own)
    → ((slot : ℕ) (own : Own) → slice_get owns slot ≡ Some own → own.grants ≡ [])
    → AllTell now time (replicate SLOT_COUNT None) owns
fresh_tell now time owns none slot =
    subst (λ (kept : Option ℕ). TellsAlarm now time kept (slice_get owns slot)) (sym (nothing_at SLOT_COUNT slot))
    (by_slot (slice_get owns slot) refl)
  where
    by_slot : (o : Option Own) → slice_get owns slot ≡ o → option_and_then (ticks_left_of now) o ≡ None
    by_slot None e = refl
    by_slot (Some own) e =
        unarmed_tells now own (ap (λ (gs : List Grant). armed_in (option_map (λ g. g.value) (grant_of alarm_driver gs)))
        (none slot own e))
