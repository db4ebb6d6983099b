-- The ticks that are left of alarms: none are left of the next one exactly where an alarm is due, and as time passes
-- fewer are left by as many. For one alarm it is arithmetic on a clock of 32 bits; for all slots it is an induction on
-- the fold that keeps the nearest, beside the search for one that is due.
use Rattle.std.proofs.Common.{◌≡◌, ◌<◌, ℕ, ◌+◌, ◌-◌, ◌%◌, ◌^◌, ◌==◌, min, nat_le, Bool, true, false, cond, ◌||◌}
use Rattle.std.proofs.Common.{List, [], ◌∷◌, find, fold, slice_get, is_some, IfSome, option_and_then, option_map}
use Rattle.std.proofs.Common.{Option, None}
use Rattle.std.proofs.Common.{Some, refl, ap, sym, ◌∙◌, arith, eqb-true}
use Rattle.std.proofs.lemmas.Bool.{false≢true}
use Rattle.std.proofs.lemmas.Bool.Decides.{nat_tests}
use Rattle.std.specs.List.{range_with_len}
use Rattle.tk_base.specs.declared.limits.TheConstants.{SLOT_COUNT}
use Rattle.grant_values.specs.declared.alarm.Armed.{Armed}
use Rattle.process_model.specs.Own.{Own}
use Rattle.driver_model.specs.Alarm.{alarm_in, due_for, due_slot, has_due, if_due, left_for, ticks_left}
use Rattle.driver_model.specs.Parts.{is_due, nearer_with}
use Rattle.driver_model.specs.Alarm.{ticks_left_in, ticks_left_of}
use Rattle.driver_model.specs.Alarm.{nearer, next_left}
use Rattle.driver_model.specs.Laws.{IsDueWhereNoneAreLeft, QuietUntilNext, TimeBringsNearer}
use Rattle.std.proofs.lemmas.Bool.{lt-leb}

-- whether there is a number of ticks, and it is 0
is_now : Option ℕ → Bool
is_now None = false
is_now (Some ticks) = ticks == 0

or_false : (a : Bool) → a ≡ a || false
or_false true = refl
or_false false = refl

least_zero : (m n : ℕ) → (min m n == 0) ≡ (m == 0) || (n == 0)
least_zero m n = grind (arith, nat_tests)

nearer_now : (a b : Option ℕ) → is_now (nearer a b) ≡ is_now a || is_now b
unfolding is_now
nearer_now None b = refl
nearer_now (Some m) None = or_false (m == 0)
nearer_now (Some m) (Some n) = least_zero m n

zero_where_passed : (d e : ℕ) → (d - e == 0) ≡ nat_le d e
zero_where_passed d e = grind (arith, nat_tests)

some_if : {X : Type 0} (b : Bool) (x : X) → b ≡ is_some (cond b (Some x) None)
some_if true x = refl
some_if false x = refl

armed_now : (now : ℕ) (lives : Bool) (armed : Option Armed)
    → is_now (cond lives (option_map (ticks_left now) armed) None) ≡ is_some (cond lives (if_due now armed) None)
unfolding is_now
armed_now now false armed = refl
armed_now now true None = refl
armed_now now true (Some alarm) =
    zero_where_passed alarm.delta ((now + (2 ^ 32 - alarm.reference)) % 2 ^ 32) ∙ some_if (is_due now alarm) alarm

slot_now : (now : ℕ) (own : Option Own) → is_now (option_and_then (ticks_left_of now) own) ≡ has_due now own
unfolding is_now
slot_now now None = refl
slot_now now (Some own) = armed_now now own.lives (alarm_in own)

one_more : (a b : Bool) (slot : ℕ) (rest : Option ℕ) → (a || b) || is_some rest ≡ a || is_some (cond b (Some slot) rest)
one_more true b slot rest = refl
one_more false true slot rest = refl
one_more false false slot rest = refl

folded_now : (now : ℕ) (owns : List Own) (slots : List ℕ) (least : Option ℕ)
    → is_now (fold (nearer_with now owns) least slots)
    ≡ is_now least || is_some (find (λ slot. has_due now (slice_get owns slot)) slots)
folded_now now owns [] least = or_false (is_now least)
folded_now now owns (slot ∷ slots) least =
    let rest = find (λ slot. has_due now (slice_get owns slot)) slots in
    rw (
      folded_now now owns slots (nearer_with now owns least slot),
      nearer_now least (ticks_left_in now owns slot),
      slot_now now (slice_get owns slot),
    ) (one_more (is_now least) (has_due now (slice_get owns slot)) slot rest)

next_now : (now : ℕ) (owns : List Own) → is_now (next_left now owns) ≡ is_some (due_slot now owns)
unfolding is_now next_left due_slot
next_now now owns = folded_now now owns (range_with_len 0 SLOT_COUNT) None

zero_if_now : (least : Option ℕ) → is_now least ≡ true → least ≡ Some 0
unfolding is_now
zero_if_now None e = absurd (false≢true e)
zero_if_now (Some ticks) e = ap Some (eqb-true ticks 0 e)

-- and of one slot alone
left_now : (only : Option ℕ) (now : ℕ) (owns : List Own)
    → is_now (left_for only now owns) ≡ is_some (due_for only now owns)
left_now None now owns = next_now now owns
left_now (Some only) now owns =
    slot_now now (slice_get owns only) ∙ some_if (has_due now (slice_get owns only)) only

pub is_due_where_none_are_left : IsDueWhereNoneAreLeft
unfolding is_now
is_due_where_none_are_left only now owns = (
  λ zero. sym (left_now only now owns) ∙ ap is_now zero,
  λ due. zero_if_now (left_for only now owns) (left_now only now owns ∙ due),
)

elapsed : (now passed from : ℕ) → now < 2 ^ 32 → from < 2 ^ 32 → (now + (2 ^ 32 - from)) % 2 ^ 32 + passed < 2 ^ 32
    → ((now + passed) % 2 ^ 32 + (2 ^ 32 - from)) % 2 ^ 32 ≡ (now + (2 ^ 32 - from)) % 2 ^ 32 + passed
elapsed now passed from n f fits = omega arith

pub time_brings_nearer : TimeBringsNearer
time_brings_nearer now passed alarm n r d left =
    let e = (now + (2 ^ 32 - alarm.reference)) % 2 ^ 32 in
    let below : e < 2 ^ 32 = omega arith in
    let later = elapsed now passed alarm.reference n r (omega (arith, d, left, below)) in omega (arith, later)

-- more ticks are left than have passed, if any number is
abbrev MoreLeft : ℕ → Option ℕ → Type 0
MoreLeft passed left = IfSome left (λ ticks. passed < ticks)

both_more : (passed : ℕ) (a b : Option ℕ) → MoreLeft passed (nearer a b) → MoreLeft passed a × MoreLeft passed b
both_more passed None b more = (tt, more)
both_more passed (Some m) None more = (more, tt)
both_more passed (Some m) (Some n) more = (omega (arith, more), omega (arith, more))

not_due : (now passed : ℕ) (alarm : Armed) → passed < alarm.delta - (now + (2 ^ 32 - alarm.reference)) % 2 ^ 32
    → is_due ((now + passed) % 2 ^ 32) alarm ≡ false
not_due now passed alarm more =
    lt-leb alarm.delta _ (still_below now passed (2 ^ 32 - alarm.reference) alarm.delta more)
  where
    still_below : (now passed from delta : ℕ) → passed < delta - (now + from) % 2 ^ 32
        → ((now + passed) % 2 ^ 32 + from) % 2 ^ 32 < delta
    still_below now passed from delta more = omega arith

armed_quiet : (now passed : ℕ) (lives : Bool) (armed : Option Armed)
    → MoreLeft passed (cond lives (option_map (ticks_left now) armed) None)
    → is_some (cond lives (if_due ((now + passed) % 2 ^ 32) armed) None) ≡ false
armed_quiet now passed false armed more = refl
armed_quiet now passed true None more = refl
armed_quiet now passed true (Some alarm) more = rw (not_due now passed alarm more)

slot_quiet : (now passed : ℕ) (own : Option Own) → MoreLeft passed (option_and_then (ticks_left_of now) own)
    → has_due ((now + passed) % 2 ^ 32) own ≡ false
slot_quiet now passed None more = refl
slot_quiet now passed (Some own) more = armed_quiet now passed own.lives (alarm_in own) more

all_quiet : (now passed : ℕ) (owns : List Own) (slots : List ℕ) (least : Option ℕ)
    → MoreLeft passed (fold (nearer_with now owns) least slots)
    → (find (λ slot. has_due ((now + passed) % 2 ^ 32) (slice_get owns slot)) slots ≡ None) × MoreLeft passed least
all_quiet now passed owns [] least more = (refl, more)
all_quiet now passed owns (slot ∷ slots) least more =
    let rest = all_quiet now passed owns slots (nearer_with now owns least slot) more in
    let both = both_more passed least (ticks_left_in now owns slot) rest.1 in
    (rw (slot_quiet now passed (slice_get owns slot) both.1) rest.0, both.0)

pub quiet_until_next : QuietUntilNext
unfolding next_left due_slot
quiet_until_next None now passed owns more = (all_quiet now passed owns (range_with_len 0 SLOT_COUNT) None more).0
quiet_until_next (Some only) now passed owns more =
    ap (λ (b : Bool). cond {A = Option ℕ} b (Some only) None) (slot_quiet now passed (slice_get owns only) more)
