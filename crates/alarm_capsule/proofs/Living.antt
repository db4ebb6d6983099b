-- The process that lives in a slot, and what the alarm has of it.
use Rattle.std.proofs.Common.{◌≡◌, ◌<◌, ℕ, zero, suc, ◌+◌, ◌-◌, ◌^◌, ◌==◌, Bool, true, false, cond, List, [], ◌∷◌}
use Rattle.std.proofs.Common.{length, slice_get, slice_index_or, option_and_then, option_map}
use Rattle.std.proofs.Common.{Option, None, Some, Result, Ok, Err}
use Rattle.std.proofs.Common.{refl, sym, ap, ap₂, subst, ◌∙◌, arith, eq-eqb}
use Rattle.std.specs.Prelude.{is_some, not, ◌&&◌}
use Rattle.tk_base.specs.declared.process.ProcessId.{ProcessId}
use Rattle.grant_values.specs.declared.alarm.Alarm.{Alarm}
use Rattle.grant_values.specs.declared.alarm.Armed.{Armed}
use Rattle.grant_values.specs.Values.{AlarmValue}
use Rattle.process_model.specs.Own.{Own}
use Rattle.process_model.specs.Served.{kept}
use Rattle.process_seat.specs.declared.visit.Stale.{Stale}
use Rattle.grant_enter.specs.Homes.{Homes, living, nobody, own_of}
use Rattle.process_seat.specs.Visits.{GrantsOf, Peeks, is_stale}
use Rattle.driver_requests.specs.Asking.{IsPresent}
use Rattle.driver_model.specs.Alarm.{alarm_driver, alarm_in, armed_in, due_alarm, has_due, if_due, ticks_left}
use Rattle.driver_model.specs.Alarm.{ticks_left_of}
use Rattle.alarm_capsule.specs.Times.{BecomesDue}
use Rattle.alarm_capsule.proofs.KeptTimes.{left_now}

-- Of the slots of a board one has a process that lives, and this is its id.
pub record LivesIn (slot n : ℕ) (owns : List Own) (id : ProcessId) : Type 0 where
  pub is_slot : id.slot ≡ slot
  pub within : n < length owns
  pub there : slice_get owns n ≡ Some (slice_index_or owns n nobody)
  pub lives : (slice_index_or owns n nobody).lives ≡ true
  pub life : (slice_index_or owns n nobody).life ≡ id.life

pub lives_in : (slot n : ℕ) (owns : List Own) (id : ProcessId) → living slot (slice_get owns n) ≡ Some id
    → LivesIn slot n owns id
lives_in slot n [] id e = cc
lives_in slot zero (own ∷ owns) id e = by_life own.lives refl e
  where
    by_life : (b : Bool) → own.lives ≡ b → cond b (Some (record { slot = slot; life = own.life })) None ≡ Some id
        → LivesIn slot zero (own ∷ owns) id
    by_life false is f = cc
    by_life true is f =
        let same : ◌≡◌ {A = ProcessId} (record { slot = slot; life = own.life }) id = cc in record {
          is_slot = sym (ap (λ (i : ProcessId). i.slot) same);
          within = omega arith;
          there = refl;
          lives = is;
          life = ap (λ (i : ProcessId). i.life) same;
        }
lives_in slot (suc n) (own ∷ owns) id e =
    let rest = lives_in slot n owns id e in record {
      is_slot = rest.is_slot;
      within = omega (arith, rest.within);
      there = rest.there;
      lives = rest.lives;
      life = rest.life;
    }

-- so it is there
pub present : (slot : ℕ) (home : Homes) (id : ProcessId) → living slot (slice_get home.owns slot) ≡ Some id
    → IsPresent home id
present slot home id e =
    let it = lives_in slot slot home.owns id e in record {
      slot = subst (λ (n : ℕ). n < length home.owns) (sym it.is_slot) it.within;
      present = ap (λ (n : ℕ). is_stale id.life (own_of home n)) it.is_slot
          ∙ ap₂ (λ (b : Bool) (l : ℕ). not (b && l == id.life)) it.lives it.life
          ∙ ap not (eq-eqb id.life id.life refl);
    }

-- what is left of its alarm
pub left_of_it : (now slot : ℕ) (home : Homes) (id : ProcessId) (alarm : Option Armed)
    → living slot (slice_get home.owns slot) ≡ Some id → alarm ≡ alarm_in (own_of home id.slot)
    → option_map (ticks_left now) alarm ≡ option_and_then (ticks_left_of now) (slice_get home.owns slot)
left_of_it now slot home id alarm e has =
    let it = lives_in slot slot home.owns id e in
    sym (ap (option_and_then (ticks_left_of now)) it.there
    ∙ ap₂ (λ (b : Bool) (a : Option Armed). cond b (option_map (ticks_left now) a) None) it.lives
    (ap (λ (n : ℕ). alarm_in (own_of home n)) (sym it.is_slot) ∙ sym has))

-- when it becomes due
pub becomes_due : (now slot left : ℕ) (home : Homes) (id : ProcessId) (alarm : Armed)
    → living slot (slice_get home.owns slot) ≡ Some id → Some alarm ≡ alarm_in (own_of home id.slot)
    → left ≡ ticks_left now alarm → alarm.reference < 2 ^ 32 → alarm.delta < 2 ^ 32
    → BecomesDue now 0 left (slice_get home.owns slot)
becomes_due now slot left home id alarm e has is reference delta =
    let it = lives_in slot slot home.owns id e in record {
      own = own_of home slot;
      there = it.there;
      lives = it.lives;
      alarm = alarm;
      armed = ap (λ (n : ℕ). alarm_in (own_of home n)) (sym it.is_slot) ∙ sym has;
      reference = reference;
      delta = delta;
      left = sym (none_passed left (ticks_left now alarm) is);
    }
  where
    none_passed : (n k : ℕ) → n ≡ k → n - 0 ≡ k
    none_passed n k same = omega (arith, same)

-- and so it does as a later time is reckoned from
pub due_at : (now time left : ℕ) (o : Option Own) → BecomesDue now 0 left o → BecomesDue now time (time + left) o
due_at now time left o due = left_now now 0 left now time (time + left) o due (due.left ∙ back time left)
  where
    back : (n k : ℕ) → k - 0 ≡ n + k - n
    back n k = omega arith

-- whether its alarm is due
pub due_of_it : (now slot : ℕ) (home : Homes) (id : ProcessId) (due : Option Armed)
    → living slot (slice_get home.owns slot) ≡ Some id → due ≡ due_alarm now (own_of home id.slot)
    → is_some due ≡ has_due now (slice_get home.owns slot)
due_of_it now slot home id due e is =
    let it = lives_in slot slot home.owns id e in
    ap is_some (is ∙ ap (λ (n : ℕ). due_alarm now (own_of home n)) it.is_slot)
    ∙ sym (ap (has_due now) it.there)

pub due_there : (now slot : ℕ) (home : Homes) (id : ProcessId) (alarm : Armed)
    → living slot (slice_get home.owns slot) ≡ Some id → Some alarm ≡ due_alarm now (own_of home id.slot)
    → due_alarm now (own_of home slot) ≡ Some alarm
due_there now slot home id alarm e is =
    let it = lives_in slot slot home.owns id e in
    ap (λ (n : ℕ). due_alarm now (own_of home n)) (sym it.is_slot) ∙ sym is

-- where nobody lives none is due
pub none_due : (now slot : ℕ) (o : Option Own) → living slot o ≡ None → false ≡ has_due now o
none_due now slot None e = refl
none_due now slot (Some own) e = by_life own.lives e
  where
    by_life : (b : Bool) → ◌≡◌ {A = Option ProcessId} (cond b (Some (record { slot = slot; life = own.life })) None)
        None
        → false ≡ is_some (cond b (if_due now (alarm_in own)) None)
    by_life true f = cc
    by_life false f = refl

-- what a look at the value that it keeps finds of its alarm
abbrev pub armed_there : Result (Option Alarm) Stale → Option Armed
armed_there (Ok (Some value)) = value.armed
armed_there other = None

pub peeked : (grants : GrantsOf) (life : ℕ) (flash : List ℕ) (own : Own) (found : Result (Option Alarm) Stale)
    → grants.driver ≡ alarm_driver → is_stale life own ≡ false
    → Peeks grants (λ (a : Alarm). AlarmValue a.armed) (record { life = life; flash = flash; own = own }) found
    → armed_there found ≡ alarm_in own
peeked grants life flash own (Ok (Some value)) is there says =
    sym (ap (λ (d : ℕ). armed_in (kept d own)) (sym is) ∙ ap armed_in says.1)
peeked grants life flash own (Ok None) is there says =
    sym (ap (λ (d : ℕ). armed_in (kept d own)) (sym is) ∙ ap armed_in says.1)
peeked grants life flash own (Err stale) is there says = cc
