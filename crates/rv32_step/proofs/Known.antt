-- The turn of an instruction that is known.
use Rattle.std.proofs.Common.{◌≡◌, ℕ, ◌+◌, ◌-◌, ◌*◌, ◌/◌, ◌%◌, ◌<◌, ◌≤◌, ◌^◌, ◌==◌, Bool, true, false, if◌then◌else◌}
use Rattle.std.proofs.Common.{Option, None, Some}
use Rattle.std.proofs.Common.{is_some, IfSome, IsTrue, refl, sym, subst, ap, ◌∙◌, arith}
use Rattle.std.proofs.lemmas.Bool.{false≢true}
use Rattle.tk_base.specs.declared.access.Access.{Access}
use Rattle.tk_base.specs.declared.access.Width.{Width}
use Rattle.tk_base.specs.declared.access.Rule.{Rule}
use Rattle.tk_base.specs.Regs.{Registers}
use Rattle.rv32_model.specs.declared.instr.Instr.{Instr}
use Rattle.rv32_model.specs.Stretch.{Goes, NoneGoes}
use Rattle.rv32_model.specs.UserTurn.{UserTurn, user_turn, executed, on_word}
use Rattle.rv32_entries.specs.declared.entry.Entry.{Entry}
use Rattle.rv32_entries.specs.Entries.{entry_instr, entry_length, entry_reach, goes_straight, reach_of}
use Rattle.rv32_entries.specs.Fetched.{IsFetched, TellsFetched, length_of}
use Rattle.rv32_step.specs.declared.near.Served.{Served}
use Rattle.rv32_step.specs.declared.near.Served.TheVariants as served
use Rattle.rv32_step.specs.Executed.{at_pc}
use Rattle.rv32_step.specs.Near.{address_of, StandsAtPlace, IsServedNear, IsTurned, Standing}

-- of what is fetched at pc
is_executed : (denies : Access → ℕ → Width → Option Rule) (bytes : ℕ → ℕ) (regs : Registers) (told : Instr) (size : ℕ)
    → IsFetched denies bytes regs.pc told size
    → user_turn denies bytes regs ≡ executed denies bytes size (Some told) regs
unfolding user_turn on_word
is_executed denies bytes regs told size is = rw (is.comes, is.decodes, is.long) refl

-- the next instruction has a place, where the entry's reach does
goes_on : (told : Instr) (size place after count : ℕ) → 2 * place + reach_of (Some told) size ≤ 2 * count
    → IsTrue (goes_straight told) → after ≡ place + size / 2 → size % 2 ≡ 0 → after < count
goes_on told size place after count reach straight is even =
    let long : reach_of (Some told) size ≡ size + 2 = by_way (goes_straight told) straight in
    let fits : 2 * place + (size + 2) ≤ 2 * count = subst (λ (n : ℕ). 2 * place + n ≤ 2 * count) long reach in
    omega (arith, is, fits, even)
  where
    by_way : (way : Bool) → IsTrue way → (if way then size + 2 else size) ≡ size + 2
    by_way true s = refl
    by_way false s = absurd (false≢true s)

-- what is fetched has one parcel or two
of_parcels : (word size : ℕ) → length_of word ≡ size → (size % 2 ≡ 0) × (size ≤ 4)
of_parcels word size long = by_way (word % 4 == 3) long
  where
    by_way : (way : Bool) → (if way then 4 else 2) ≡ size → (size % 2 ≡ 0) × (size ≤ 4)
    by_way true e = subst (λ (n : ℕ). (n % 2 ≡ 0) × (n ≤ 4)) e (refl, omega (arith))
    by_way false e = subst (λ (n : ℕ). (n % 2 ≡ 0) × (n ≤ 4)) e (refl, omega (arith))

module _ (denies : Access → ℕ → Width → Option Rule) (start count : ℕ) (before after : Standing) (answer : Served)
    (even : start % 2 ≡ 0) (ends : start + 2 * count ≤ 2 ^ 31) (inside : before.place < count) where
  served_by : (told : Instr) (size : ℕ) → IsFetched denies before.bytes (start + 2 * before.place) told size
      → 2 * before.place + reach_of (Some told) size ≤ 2 * count
      → (StandsAtPlace start count before.place size (Some told) → IsServedNear answer
      (executed denies before.bytes size (Some told) (at_pc before.regs (start + 2 * before.place))) start size
      (Some told) before after)
      → IsTurned answer
      (user_turn denies before.bytes (at_pc before.regs (start + 2 * before.place))) start count before after
  served_by told size is reach serves =
      let parcels = of_parcels is.word size is.long in
      let placed : StandsAtPlace start count before.place size (Some told) = record {
        even = even;
        ends = ends;
        inside = inside;
        parcels = parcels.0;
        short = parcels.1;
        hops = is.hops;
      } in
      subst (λ (t : UserTurn). IsTurned answer t start count before after)
      (sym (is_executed denies before.bytes (at_pc before.regs (start + 2 * before.place)) told size is))
      (by_answer answer (executed denies before.bytes size (Some told) (at_pc before.regs (start + 2 * before.place)))
      parcels.0 (serves placed))
    where
      by_answer : (a : Served) (t : UserTurn) → size % 2 ≡ 0 → IsServedNear a t start size (Some told) before after
          → IsTurned a t start count before after
      by_answer served.Straight t whole s = (s.0, goes_on told size before.place after.place count reach s.1 s.2 whole)
      by_answer served.Jumped t whole s = s
      by_answer served.Called t whole s = s
      by_answer served.Elsewhere t whole s = s

  -- an instruction that is known was served, and so its turn was made
  pub is_turned : (entry : Entry) → TellsFetched denies before.bytes (start + 2 * before.place) entry
      → 2 * before.place + entry_reach entry ≤ 2 * count → is_some (entry_instr entry) ≡ true
      → (StandsAtPlace start count before.place (entry_length entry) (entry_instr entry) → IsServedNear answer
      (executed denies before.bytes (entry_length entry) (entry_instr entry) (at_pc before.regs
      (start + 2 * before.place)))
      start (entry_length entry) (entry_instr entry) before after)
      → IsTurned answer
      (user_turn denies before.bytes (at_pc before.regs (address_of start before.place))) start count before after
  is_turned entry tells reach known serves =
      let small : start + 2 * before.place ≡ address_of start before.place = omega (arith, ends, inside) in
      subst (λ (at : ℕ). IsTurned answer (user_turn denies before.bytes
      (at_pc before.regs at)) start count before after) small
      (by_instr (entry_instr entry) (entry_length entry) tells reach known serves)
    where
      by_instr : (instr : Option Instr) (size : ℕ)
          → IfSome instr (λ told. IsFetched denies before.bytes (start + 2 * before.place) told size)
          → 2 * before.place + reach_of instr size ≤ 2 * count → is_some instr ≡ true
          → (StandsAtPlace start count before.place size instr → IsServedNear answer
          (executed denies before.bytes size instr (at_pc before.regs
          (start + 2 * before.place))) start size instr before after)
          → IsTurned answer
          (user_turn denies before.bytes (at_pc before.regs (start + 2 * before.place))) start count before after
      by_instr None size tells reach known serves = absurd (false≢true known)
      by_instr (Some told) size tells reach known serves = served_by told size tells reach serves

-- the place of an address that lies by whole parcels behind the first
pub place_is : (start pc : ℕ) → start < 2 ^ 32 → pc < 2 ^ 32 → (pc + (2 ^ 32 - start)) % 2 ^ 32 % 2 ≡ 0
    → address_of start ((pc + (2 ^ 32 - start)) % 2 ^ 32 / 2) ≡ pc
place_is start pc s p even =
    let whole : 2 * ((pc + (2 ^ 32 - start)) % 2 ^ 32 / 2) ≡ (pc + (2 ^ 32 - start)) % 2 ^ 32 = omega (arith, even) in
    ap (λ (n : ℕ). (start + n) % 2 ^ 32) whole ∙ back
  where
    back : (start + (pc + (2 ^ 32 - start)) % 2 ^ 32) % 2 ^ 32 ≡ pc
    back = grind (arith, s, p)

-- no turn was made yet
pub from_here : NoneGoes → (denies : Access → ℕ → Width → Option Rule) (bytes : ℕ → ℕ) (regs : Registers)
    (most start other pc place : ℕ) → other ≡ start → address_of other place ≡ pc
    → Goes denies (most - most) (at_pc regs pc) bytes (at_pc regs (address_of start place)) bytes
from_here none denies bytes regs most start other pc place e here =
    let zero : 0 ≡ most - most = omega (arith) in
    subst (λ (n : ℕ). Goes denies n (at_pc regs pc) bytes (at_pc regs (address_of start place)) bytes) zero
    (subst (λ (p : ℕ). Goes denies 0 (at_pc regs pc) bytes (at_pc regs p) bytes)
    (sym (ap (λ (s : ℕ). address_of s place) (sym e) ∙ here)) (none denies (at_pc regs pc) bytes))
