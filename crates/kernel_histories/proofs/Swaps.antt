-- What each turn does to the pairs that its process has handed, and what a swap in it gives back (`Hands`): a swap
-- hands one pair and leaves all others; other calls leave all; a new life has none. By the walk over turns, and over
-- calls by their class.
use Rattle.std.proofs.Common.{◌≡◌, ◌≢◌, ◌<◌, ℕ, ◌==◌, ◌&&◌, Bool, true, false, cond, List, [], ◌∷◌}
use Rattle.std.proofs.Common.{length, slice_set, Option, None, Some, unwrap_or}
use Rattle.std.proofs.Common.{refl}
use Rattle.std.proofs.Common.{ap, sym, subst, ◌∙◌, arith, eqb-true, eq-eqb, ◌||◌}
use Rattle.std.specs.Prelude.{slice_index}
use Rattle.std.proofs.Math.Bool.{and-false}
use Rattle.std.proofs.lemmas.Bool.{false≢true, or_parts, and_from, and_parts}
use Rattle.std.proofs.lemmas.List.{get_or-set_same, get_or-set_other, get_or_past, places}
use Rattle.tk_base.specs.Regs.{Registers}
use Rattle.tk_base.specs.declared.kinds.PairKind.{PairKind}
use Rattle.tk_base.specs.declared.kinds.PairKind.TheVariants.{Upcall, ReadOnly, ReadWrite, Readable}
use Rattle.process_model.specs.Own.{Own, own_ended as ended_own}
use Rattle.process_model.specs.Handed.{held}
use Rattle.process_model.specs.Pairs.{HandsTheSame, HasShape, OnlyHandingChangesPairs}
use Rattle.driver_model.specs.Drivers.{CommandContext}
use Rattle.driver_model.specs.Pairs.{DriversLeavePairs}
use Rattle.syscall_abi.specs.declared.form.Swap.{Swap}
use Rattle.syscall_abi.specs.Call.{a0, a1, a2, a3, class}
use Rattle.syscall_abi.specs.Reply.{put_reply}
use Rattle.syscall_abi.specs.declared.reply.Reply.TheVariants.{SuccessU32U32}
use Rattle.process_record.specs.declared.emit.CallMade.{CallMade}
use Rattle.process_record.specs.declared.outcome.Outcome.TheVariants.{Replied}
use Rattle.process_record.specs.declared.process.State.{State}
use Rattle.process_record.specs.declared.process.State.TheVariants.{Running, Yielded, Faulted, Terminated}
use Rattle.kernel_model.specs.Record.{Record, with_effect}
use Rattle.kernel_model.specs.Parts.{with_process}
use Rattle.kernel_model.specs.declared.settings.Settings.{Settings}
use Rattle.kernel_model.specs.Calls.{Served}
use Rattle.kernel_model.specs.Calls.{restart, swap_by, swap_refusal}
use Rattle.kernel_model.specs.Turn.{Turned, arguments, turn_counted}
use Rattle.kernel_model.specs.Turn.{idle, made, surroundings, turned}
use Rattle.kernel_model.specs.Turn.{turn_in}
use Rattle.kernel_model.specs.Laws.{CanStartAgain}
use Rattle.kernel_model.specs.Histories.{PairKey, class_of, handed_by, is_swap, swap_reply}
use Rattle.kernel_model.specs.Parts.{is_exit}
use Rattle.kernel_model.proofs.Classes.{swap_in}
use Rattle.kernel_model.proofs.Handed.{is_handed}
use Rattle.kernel_model.proofs.Turning.{of_denial}
use Rattle.kernel_model.proofs.Yields.{kept_by_yield}
use Rattle.kernel_model.proofs.Restarts.{restart_forgets, restart_object}
use Rattle.kernel_model.proofs.Places.{of_turned}
use Rattle.std.proofs.Common.{inl, inr, ◌⊎◌}
use Rattle.std.proofs.lemmas.Bool.{cases_Bool}
use Rattle.std.specs.Prelude.{option_and_then}
use Rattle.kernel_model.specs.Histories.{ends_life}
use Rattle.process_record.specs.declared.process.Process.{Process}
use Rattle.kernel_model.proofs.Calling.{of_commanded}
use Rattle.kernel_histories.proofs.Walk.{OfEachClass, of_class, of_state}
use Rattle.std.proofs.lemmas.Bool.{cases_lt}
use Rattle.std.proofs.Common.{length-set}

-- the pair that a process holds by a key
abbrev pub held_by : PairKey → Own → ℕ × ℕ
held_by key own = held key.kind key.driver key.number own

-- a process that has no turn any more
abbrev pub is_over : State → Bool
is_over Running = false
is_over Yielded = false
is_over Faulted = true
is_over (Terminated code) = true

-- What a process hands in a turn, of which the call is told, and which ends a life of it or does not, by the pairs that
-- it held before: the pairs that it holds then, unless it has ended; and what a swap gives back.
pub record Hands (former : PairKey → ℕ × ℕ) (s : Record) (ended : Bool) (call : Option CallMade) : Type 0 where
  pub shape : HasShape s.own
  pub application : CanStartAgain s
  pub pairs : (ended ≡ true → is_over s.process.state ≡ false) → (key : PairKey)
      → held_by key s.own ≡ cond ended (0, 0) (unwrap_or (option_and_then (handed_by key) call) (former key))
  pub reply : (made : CallMade) (key : PairKey) (pair : ℕ × ℕ) → call ≡ Some made → handed_by key made ≡ Some pair
      → made.reply ≡ Some (swap_reply (former key) pair)

-- of a turn
abbrev pub HandsBy : Record → Turned → Type 0
HandsBy r t = Hands (λ key. held_by key r.own) t.after (ends_life t.told) t.told.call

-- kinds are told apart by the classes of their calls
abbrev kind_of : ℕ → PairKind
kind_of n =
    cond (n == class_of Upcall) Upcall
    (cond (n == class_of ReadOnly) ReadOnly (cond (n == class_of ReadWrite) ReadWrite Readable))

kind_of_class : (kind : PairKind) → kind_of (class_of kind) ≡ kind
kind_of_class Upcall = refl
kind_of_class ReadOnly = refl
kind_of_class _ = refl

same_kind : (a b : PairKind) → (class_of a == class_of b) ≡ true → a ≡ b
same_kind a b e =
    sym (kind_of_class a) ∙ ap kind_of (eqb-true (class_of a) (class_of b) e) ∙ kind_of_class b

no_yield : (kind : PairKind) → (class_of kind == 0) ≡ false
no_yield Upcall = refl
no_yield _ = refl

no_exit : (kind : PairKind) → (class_of kind == 6) ≡ false
no_exit Upcall = refl
no_exit _ = refl

-- a call that hands nothing: one of another class, and a refused one
record IsSilent (call : Option CallMade) : Type 0 where
  none : (key : PairKey) → option_and_then (handed_by key) call ≡ None

no_call : IsSilent None
no_call = record { none = λ key. refl }

another_class : (n : ℕ) → (n == 1 || (n == 4 || (n == 3 || n == 7))) ≡ false → (kind : PairKind)
    → (n == class_of kind) ≡ false
another_class n apart Upcall = (or_parts (n == 1) _ apart).0
another_class n apart ReadOnly = (or_parts (n == 4) _ (or_parts (n == 1) _ apart).1).0
another_class n apart ReadWrite = (or_parts (n == 3) _ (or_parts (n == 4) _ (or_parts (n == 1) _ apart).1).1).0
another_class n apart Readable = (or_parts (n == 3) _ (or_parts (n == 4) _ (or_parts (n == 1) _ apart).1).1).1

of_other : (m : CallMade) → (m.class == 1 || (m.class == 4 || (m.class == 3 || m.class == 7))) ≡ false
    → IsSilent (Some m)
of_other m apart = record { none = λ key. rw (another_class m.class apart key.kind) refl }

none_handed : {X : Type 0} (call : Option CallMade) → IsSilent call → (made : CallMade) (key : PairKey) (pair : ℕ × ℕ)
    → call ≡ Some made → handed_by key made ≡ Some pair → X
none_handed call silent made key pair is handed =
    let none : ◌≡◌ {A = Option (ℕ × ℕ)} None (Some pair)
    = sym (subst (λ (o : Option CallMade). option_and_then (handed_by key) o ≡ None) is (silent.none key)) ∙ handed in
    absurd (cc)

-- a call whose class is not 0 stands in registers that there are
class_within : (regs : Registers) (n : ℕ) → class regs ≡ n → (n == 0) ≡ false → 14 < length regs.x
class_within regs n is apart =
    elim (cases_lt 14 (length regs.x)) [
      | inl within ↦ within
      | inr past ↦
          let zero : n ≡ 0 = sym is ∙ get_or_past regs.x 14 0 past in
          absurd (false≢true (sym apart ∙ eq-eqb n 0 zero))
    ]

-- the reply of a swap, in the registers
three_set : (xs : List ℕ) (a b c : ℕ) → 14 < length xs
    → let ys = slice_set (slice_set (slice_set xs 10 a) 11 b) 12 c in
    slice_index ys 10 ∷ slice_index ys 11 ∷ slice_index ys 12 ∷ slice_index ys 13 ∷ []
    ≡ a ∷ b ∷ c ∷ slice_index xs 13 ∷ []
three_set xs a b c within =
    let one = slice_set xs 10 a in
    let two = slice_set one 11 b in
    let three = slice_set two 12 c in
    let many : (length one ≡ length xs) × (length two ≡ length one) = (length-set xs 10 a, length-set one 11 b) in
    let first : slice_index three 10 ≡ a
    = get_or-set_other two 12 10 c 0 (λ e. cc) ∙ get_or-set_other one 11 10 b 0 (λ e. cc)
    ∙ get_or-set_same xs 10 a 0 (omega arith) in
    let second : slice_index three 11 ≡ b
    = get_or-set_other two 12 11 c 0 (λ e. cc) ∙ get_or-set_same one 11 b 0 (omega arith) in
    let third : slice_index three 12 ≡ c = get_or-set_same two 12 c 0 (omega arith) in
    let other : slice_index three 13 ≡ slice_index xs 13 = grind (arith, places) in
    cc

swap_shown : (regs : Registers) (first second : ℕ) → 14 < length regs.x
    → arguments (put_reply (SuccessU32U32 first second) regs) ≡ 130 ∷ first ∷ second ∷ a3 regs ∷ []
swap_shown regs first second within = three_set regs.x 130 first second within

module _ (law : OnlyHandingChangesPairs) (drivers : DriversLeavePairs) (r : Record) (shape : HasShape r.own)
    (can : CanStartAgain r) where
  abbrev regs : Registers
  regs = r.process.regs

  abbrev former : PairKey → ℕ × ℕ
  former key = held_by key r.own

  -- a turn, or a call in it, that hands nothing: which ends no life, and leaves the pairs; ends the process; or has it
  -- start again
  keeps : (s : Record) (ended : Bool) (call : Option CallMade) → HandsTheSame r.own s.own → s.object ≡ r.object
      → ended ≡ false → IsSilent call → Hands former s ended call
  keeps s ended call same object goes silent = record {
    shape = law.shape r.own s.own same shape;
    application = rw object can;
    pairs = λ alive key. rw (goes, silent.none key) (law.held r.own s.own same key.kind key.driver key.number);
    reply = λ made key pair. none_handed call silent made key pair;
  }

  ends : (process : Process) (call : Option CallMade) → is_over process.state ≡ true → IsSilent call
      → Hands former (record r { process = process; own = ended_own r.own }) true call
  ends process call over silent = record {
    shape = law.shape r.own (ended_own r.own) (law.grants r.own (ended_own r.own) refl) shape;
    application = can;
    pairs = λ alive key. absurd (false≢true (sym (alive refl) ∙ over));
    reply = λ made key pair. none_handed call silent made key pair;
  }

  again : (process : Process) (call : Option CallMade) → IsSilent call
      → Hands former (restart (with_process r process)) true call
  again process call silent =
      let s = with_process r process in
      let none = law.none (restart s).own (restart_forgets s can) in
      record {
        shape = none.shape;
        application = rw (restart_object s can) can;
        pairs = λ alive key. none.none key.kind key.driver key.number;
        reply = λ made key pair. none_handed call silent made key pair;
      }

  -- what the call of a class hands
  abbrev ByCall : ℕ → Served → Type 0
  ByCall n s =
      let m : CallMade = record (made regs s.outcome) { class = n } in Hands former s.after (is_exit m) (Some m)

  -- a swap that succeeds
  module _ (kind : PairKind) (is : class regs ≡ class_of kind) where
    abbrev swap : Swap
    swap = swap_in kind regs

    abbrev of_swap : PairKey
    of_swap = record { kind = kind; driver = swap.driver; number = swap.number }

    abbrev its : CallMade
    its = record (made regs (Replied (SuccessU32U32 (former of_swap).0 (former of_swap).1) None))
        { class = class_of kind }

    its_key : (key : PairKey) → is_swap key its ≡ true → key ≡ of_swap
    its_key key e =
        let kinds = and_parts (class_of kind == class_of key.kind)
        (swap.driver == key.driver && swap.number == key.number) e in
        let numbers = and_parts (swap.driver == key.driver) (swap.number == key.number) kinds.1 in
        rw (
          same_kind kind key.kind kinds.0,
          eqb-true swap.driver key.driver numbers.0,
          eqb-true swap.number key.number numbers.1,
        ) refl

    another_key : (key : PairKey) → is_swap key its ≡ false → key.kind ≡ kind → key.driver ≡ swap.driver
        → key.number ≢ swap.number
    another_key key e k d n =
        false≢true (sym e ∙ and_from _ _ (eq-eqb (class_of kind) (class_of key.kind) (ap class_of (sym k)))
        (and_from _ _ (eq-eqb swap.driver key.driver (sym d)) (eq-eqb swap.number key.number (sym n))))

    of_handed : swap_refusal swap r.own ≡ None → ByCall (class_of kind) (swap_by r swap None)
    of_handed accepted =
        let counted = (is_handed swap r.own accepted).counted in
        let hands = law.handing kind swap.driver swap.number swap.pair r.own shape counted in
        record {
          shape = hands.shape;
          application = can;
          pairs = λ alive key. rw (no_exit kind) (elim (cases_Bool (is_swap key its)) [
            | inl e ↦ rw (e, its_key key e) hands.this
            | inr e ↦ rw e (hands.others key.kind key.driver key.number (another_key key e))
          ]);
          reply = λ m key pair e handed. let same : its ≡ m = cc in
              rw (← same) (by_key key pair (rw (← same) at handed));
        }
      where
        by_key : (key : PairKey) (pair : ℕ × ℕ) → handed_by key its ≡ Some pair
            → its.reply ≡ Some (swap_reply (former key) pair)
        by_key key pair handed =
            elim (cases_Bool (is_swap key its)) [
              | inl e ↦
                  let same : swap.pair ≡ pair = let there = rw e at handed in cc in
                  rw (its_key key e, ← same) (ap Some (swap_shown regs (former of_swap).0 (former of_swap).1
                  (class_within regs (class_of kind) is (no_yield kind))))
              | inr e ↦ let none = rw e at handed in absurd (cc)
            ]

  of_calls : (around : CommandContext) → OfEachClass ByCall around r
  of_calls around = record {
    refused = λ n rule reply. let m : CallMade = record (made regs (Replied reply (Some rule))) { class = n } in
        keeps _ _ (Some m) (law.grants r.own r.own refl) refl (and-false (n == 6))
        (record { none = λ key. rw (and-false (is_swap key m)) refl });
    yields = let k = kept_by_yield r (a0 regs) (a1 regs) (a2 regs) in
        keeps _ _ _ (law.grants r.own _ k.same.grants) k.object refl (of_other _ refl);
    hands = of_handed;
    commands = λ taker is. let c = taker around (a1 regs) (a2 regs) (a3 regs) r.own in
        let same = drivers.command (a0 regs) taker is around (a1 regs) (a2 regs) (a3 regs) r.own in
        of_commanded (ByCall 2) r c (λ reply answers. keeps _ _ _ same refl refl (of_other _ refl))
        (λ rule answers. keeps _ _ _ same refl refl (of_other _ refl));
    replies = λ reply. keeps _ _ _ (law.grants r.own r.own refl) refl refl (of_other _ refl);
    moves = λ new reply. keeps _ _ _ (law.grants r.own _ refl) refl refl (of_other _ refl);
    ends = λ code. ends _ _ refl (of_other _ refl);
    again = again r.process _ (of_other _ refl);
  }

-- the turn of a process
pub hands_turn : OnlyHandingChangesPairs → DriversLeavePairs → (settings : Settings) (time : ℕ) (r : Record)
    → HasShape r.own → CanStartAgain r → HandsBy r (turned settings time r)
hands_turn law drivers settings time r shape can =
    of_turned (HandsBy r) settings time r (quiet r refl refl)
    (of_state settings time r (λ wait t. HandsBy r t) (record {
      idles = quiet r refl refl;
      went = λ t. quiet _ refl refl;
      faults = λ t denial. let s = with_effect (turn_counted r) t in let there = in_shape s refl in
          of_denial (λ x. Hands (λ key. held_by key r.own) x true None) settings s denial
          (ends law drivers s there can _ None refl no_call) (again law drivers s there can _ None no_call);
      makes = λ t form is calls runs makes. let s = with_effect (turn_counted r) t in
          let around = surroundings settings time s in
          of_class (ByCall law drivers s (in_shape s refl) can) around s
          (of_calls law drivers s (in_shape s refl) can around) settings.strict form makes;
      empty = λ is yielded. quiet r refl refl;
      first = λ u is yielded. quiet _ refl refl;
      rests = λ driver number. quiet r refl refl;
      given = λ args. quiet _ refl refl;
    }))
  where
    in_shape : (s : Record) → s.own.grants ≡ r.own.grants → HasShape s.own
    in_shape s same = law.shape r.own s.own (law.grants r.own s.own same) shape

    quiet : (s : Record) → s.own.grants ≡ r.own.grants → s.object ≡ r.object
        → Hands (λ key. held_by key r.own) s false None
    quiet s grants object =
        keeps law drivers r shape can s false None (law.grants r.own s.own grants) object refl no_call

-- it lives, or nothing is done
pub lives_or_idle : (settings : Settings) (time : ℕ) (r : Record)
    → (is_over r.process.state ≡ false) ⊎ (turned settings time r ≡ idle r)
lives_or_idle settings time r =
    of_turned (λ t. (is_over r.process.state ≡ false) ⊎ (t ≡ idle r)) settings time r (inr refl)
    (by_state r.process.state refl)
  where
    by_state : (state : State) → r.process.state ≡ state
        → (is_over r.process.state ≡ false) ⊎ (turn_in settings time state r ≡ idle r)
    by_state Running is = inl (ap is_over is)
    by_state Yielded is = inl (ap is_over is)
    by_state _ is = inr refl
