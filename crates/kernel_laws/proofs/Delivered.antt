-- What a delivery leaves in the registers of its process: a0 to a2 have the arguments, where a function runs also a3,
-- ra and pc what belongs to it, and all others are as they were, since words are put at their places alone
-- (`words_beside`). An accepted yield goes by its number, and a process that has yielded by what it waits for.
use Rattle.std.proofs.Common.{◌≡◌, ◌≢◌, inl, inr, ◌<◌, ℕ, ◌+◌, ◌%◌, ◌^◌, false}
use Rattle.std.proofs.Common.{List, [], ◌∷◌, length, remove, Option, None, Some, slice_get, slice_index}
use Rattle.std.proofs.Common.{refl, ap, ◌∙◌, arith}
use Rattle.std.specs.Prelude.{IfSome}
use Rattle.std.specs.Option.{option_map}
use Rattle.std.proofs.lemmas.Bool.{ne_eqb}
use Rattle.tk_base.specs.Regs.{Registers, register, with_register}
use Rattle.tk_base.specs.declared.upcall.Upcall.{Upcall as Scheduled}
use Rattle.tk_base.specs.declared.upcall.Wait.{Wait}
use Rattle.tk_base.specs.declared.upcall.Wait.TheVariants.{No, For, Given}
use Rattle.rv32_model.specs.Laws.{CallsAreOfEcall}
use Rattle.syscall_abi.specs.Reply.{with_words}
use Rattle.upcall_queue.specs.Pending.{due, due_by, left_by, place_of}
use Rattle.upcall_queue.specs.declared.inbox.Delivery.{Delivery}
use Rattle.upcall_queue.specs.declared.inbox.Delivery.TheVariants.{Function, Arguments}
use Rattle.process_record.specs.declared.emit.CallMade.{CallMade}
use Rattle.process_record.specs.declared.process.State.{State}
use Rattle.process_record.specs.declared.process.State.TheVariants.{Running, Yielded}
use Rattle.process_record.specs.Process.{delivery_regs}
use Rattle.kernel_model.specs.Record.{Record}
use Rattle.kernel_model.specs.declared.settings.Settings.{Settings}
use Rattle.kernel_model.specs.Calls.{deliver, yielding}
use Rattle.kernel_model.specs.Parts.{delivery}
use Rattle.kernel_model.specs.Turn.{idle, turn_counted, turn_in, turned}
use Rattle.kernel_model.proofs.Places.{free_turned}
use Rattle.kernel_laws.specs.Delivered.{DeliveriesAreSeen, Delivers, GoesOnWith, HasArguments, IsYield, RunsFunction}
use Rattle.kernel_laws.specs.Delivered.{RunsUpcall, StandsBehind}
use Rattle.kernel_laws.proofs.Accepted.{HasCome, accepted_yield, at_call, yields}
use Rattle.kernel_laws.proofs.Between.{of_each_turn}
use Rattle.kernel_laws.proofs.Registers.{as_many, register_beside, register_there, words_beside, words_many, words_pc}
use Rattle.kernel_laws.proofs.Scheduled.{flag_inbox}

-- the words of three arguments stand in a0 to a2
three : (a b c : ℕ) (regs : Registers) → length regs.x ≡ 32
    → let later = with_words 10 (a ∷ b ∷ c ∷ []) regs in
    (register later 10 ≡ a) × (register later 11 ≡ b) × (register later 12 ≡ c)
three a b c regs many =
    let one = with_register regs 10 a in
    let two = with_register one 11 b in
    let many_one : length one.x ≡ 32 = as_many regs 10 a ∙ many in
    let many_two : length two.x ≡ 32 = as_many one 11 b ∙ many_one in (
      register_beside two 12 10 c (λ e. omega (arith, e)) ∙ register_beside one 11 10 b (λ e. omega (arith, e))
          ∙ register_there regs 10 a (omega arith) (omega (arith, many)),
      register_beside two 12 11 c (λ e. omega (arith, e))
          ∙ register_there one 11 b (omega arith) (omega (arith, many_one)),
      register_there two 12 c (omega arith) (omega (arith, many_two)),
    )

list_of : (x y z a b c : ℕ) → x ≡ a → y ≡ b → z ≡ c → x ∷ y ∷ z ∷ [] ≡ a ∷ b ∷ c ∷ []
list_of x y z a b c e f g = cc

-- the registers of both deliveries
pub has_arguments : (args : List ℕ) (regs : Registers) → length regs.x ≡ 32 → length args ≡ 3
    → HasArguments args regs.pc regs (delivery_regs (Arguments args) regs)
has_arguments (a ∷ b ∷ c ∷ []) regs many long =
    let words = three a b c regs many in
    record {
      arguments = list_of _ _ _ a b c words.0 words.1 words.2;
      pc = words_pc 10 (a ∷ b ∷ c ∷ []) regs;
      others = λ n out. words_beside 10 (a ∷ b ∷ c ∷ []) regs n (elim out [
        | inl below ↦ inl below
        | inr past ↦ inr (omega (arith, past))
      ]);
    }
has_arguments args regs many long = absurd (omega (arith, long))

pub runs_function : (u : Scheduled) (regs : Registers) → length regs.x ≡ 32 → length u.args ≡ 3
    → RunsFunction u regs.pc regs (delivery_regs (Function u) regs)
runs_function u regs many long =
    let words = with_words 10 u.args regs in
    let with_app = with_register words 13 u.app in
    let args = has_arguments u.args regs many long in
    let many_words : length words.x ≡ 32 = words_many 10 u.args regs ∙ many in
    let many_app : length with_app.x ≡ 32 = as_many words 13 u.app ∙ many_words in
    let kept : (n : ℕ) → n ≢ 1 → n ≢ 13
    → register (with_register with_app 1 regs.pc) n ≡ register words n =
    λ n one thirteen. register_beside with_app 1 n regs.pc one ∙ register_beside words 13 n u.app thirteen in
    record {
      arguments =
          list_of _ _ _ _ _ _ (kept 10 (λ e. omega (arith, e)) (λ e. omega (arith, e)))
          (kept 11 (λ e. omega (arith, e)) (λ e. omega (arith, e)))
          (kept 12 (λ e. omega (arith, e)) (λ e. omega (arith, e))) ∙ args.arguments;
      app = register_beside with_app 1 13 regs.pc (λ e. omega (arith, e))
          ∙ register_there words 13 u.app (omega arith) (omega (arith, many_words));
      ra = register_there with_app 1 regs.pc (omega arith) (omega (arith, many_app));
      pc = omega arith;
      others = λ n one out.
          kept n one (λ e. grind arith)
          ∙ args.others n (elim out [ inl below ↦ inl below | inr past ↦ inr (omega (arith, past)) ]);
    }

-- the turn of a process that has yielded
module _ (settings : Settings) (time : ℕ) (r : Record) (free : r.process.held ≡ false)
    (yielded : r.process.state ≡ Yielded) where
  delivers_due : (next : Delivery) → due r.own.inbox ≡ Some next
      → turned settings time r ≡ idle (deliver (turn_counted r) next (left_by next))
  delivers_due next is =
      free_turned settings time r free ∙ ap (λ (state : State). turn_in settings time state r) yielded
      ∙ ap (delivery r) is

  due_is : (wait : Wait) → r.own.inbox.wait ≡ wait → due r.own.inbox ≡ due_by wait r.own.inbox.pending
  due_is wait is = ap (λ (x : Wait). due_by x r.own.inbox.pending) is

  woken : (u : Scheduled) (rest : List Scheduled) → r.own.inbox.wait ≡ No → r.own.inbox.pending ≡ u ∷ rest
      → RunsUpcall u rest r.process.regs.pc r (turned settings time r).after
  woken u rest wait is =
      rw (delivers_due (Function u) (due_is No wait
      ∙ ap (λ (pending : List Scheduled). option_map Function (slice_get pending 0)) is)) (record {
        registers = λ many long. runs_function u r.process.regs many long;
        runs = refl;
        left = ap (λ (pending : List Scheduled). remove pending 0) is;
      })

  given : (args : List ℕ) → r.own.inbox.wait ≡ Given args
      → let s = (turned settings time r).after in
      GoesOnWith args r.own.inbox.pending r.process.regs.pc r s × (s.own.inbox.wait ≡ No)
  given args wait =
      rw (delivers_due (Arguments args) (due_is (Given args) wait))
      (record { registers = λ many long. has_arguments args r.process.regs many long; runs = refl; left = refl }, refl)

-- what an accepted yield comes to, by its number
module _ (r : Record) (runs : r.process.state ≡ Running) where
  now_leaves : (x y : ℕ) (u : Scheduled) (rest : List Scheduled) → r.own.inbox.pending ≡ u ∷ rest
      → RunsUpcall u rest ((r.process.regs.pc + 4) % 2 ^ 32) r (yielding (turn_counted r) 0 x y).after
  unfolding yielding
  now_leaves x y u rest pending =
      rw (ap (λ (p : List Scheduled). slice_get p 0) pending)
      (record {
        registers = λ many long.
            let function = runs_function u (record r.process.regs { pc = (r.process.regs.pc + 4) % 2 ^ 32 }) many
            long in
            assumption (function);
        runs = refl;
        left = ap (λ inbox. remove inbox.pending 0) (flag_inbox x 1 r.own)
            ∙ ap (λ (p : List Scheduled). remove p 0) pending;
      })

  none_leaves : (x y : ℕ) → r.own.inbox.pending ≡ []
      → StandsBehind Running r.own.inbox r (yielding (turn_counted r) 0 x y).after
  unfolding yielding
  none_leaves x y none =
      rw (ap (λ (p : List Scheduled). slice_get p 0) none)
      (record { registers = refl; state = runs; scheduled = flag_inbox x 0 r.own })

  wait_leaves : (x y : ℕ) → StandsBehind Yielded r.own.inbox r (yielding (turn_counted r) 1 x y).after
  unfolding yielding
  wait_leaves x y = record { registers = refl; state = refl; scheduled = refl }

  one_leaves : (x y : ℕ) (u : Scheduled)
      → slice_get r.own.inbox.pending (place_of x y r.own.inbox.pending) ≡ Some u
      → GoesOnWith u.args (remove r.own.inbox.pending (place_of x y r.own.inbox.pending))
      ((r.process.regs.pc + 4) % 2 ^ 32) r (yielding (turn_counted r) 2 x y).after
  unfolding yielding
  one_leaves x y u there =
      rw there (record {
        registers = λ many long.
            let args = has_arguments u.args (record r.process.regs { pc = (r.process.regs.pc + 4) % 2 ^ 32 }) many
            long in
            assumption (args);
        runs = refl;
        left = refl;
      })

  for_leaves : (x y : ℕ) → slice_get r.own.inbox.pending (place_of x y r.own.inbox.pending) ≡ None
      → StandsBehind Yielded (record r.own.inbox { wait = For x y }) r (yielding (turn_counted r) 2 x y).after
  unfolding yielding
  for_leaves x y none =
      rw none (record { registers = refl; state = refl; scheduled = refl })

  other_leaves : (n x y : ℕ) → 2 < n → StandsBehind Running r.own.inbox r (yielding (turn_counted r) n x y).after
  unfolding yielding
  other_leaves n x y more =
      rw (
        ne_eqb n 0 (λ e. omega (arith, e, more)),
        ne_eqb n 1 (λ e. omega (arith, e, more)),
        ne_eqb n 2 (λ e. omega (arith, e, more)),
      ) (record { registers = refl; state = runs; scheduled = refl })

-- what holds of that holds after the turn that tells the yield
at_yield : (r s : Record) (told : Option CallMade)
    → IfSome told (λ call. call.class ≡ 0 → call.rule ≡ None → HasCome yields r s call)
    → (P : Record → Type 0) (n : ℕ) (call : CallMade) → told ≡ Some call → IsYield n call
    → (r.process.state ≡ Running
    → P (yielding (turn_counted r) n (slice_index call.args 1) (slice_index call.args 2)).after)
    → P s
at_yield r s told each P n call is yield holds =
    let comes = at_call told (λ call. call.class ≡ 0 → call.rule ≡ None → HasCome yields r s call) call each is
    yield.class yield.accepted in
    rw comes.after (rw yield.number (holds comes.runs))

pub deliveries_are_seen : CallsAreOfEcall → DeliveriesAreSeen
deliveries_are_seen of_ecall =
    of_each_turn Delivers (λ settings time r.
    let t = turned settings time r in
    let behind = (r.process.regs.pc + 4) % 2 ^ 32 in
    let after = at_yield r t.after t.told.call (accepted_yield of_ecall settings time r) in
    record {
      woken = λ free yielded wait u rest is. woken settings time r free yielded u rest wait is;
      given = λ free yielded args wait. given settings time r free yielded args wait;
      now = λ call is yield u rest pending.
          after (RunsUpcall u rest behind r) 0 call is yield (λ runs.
          now_leaves r runs (slice_index call.args 1) (slice_index call.args 2) u rest pending);
      one = λ call is yield u there.
          after (GoesOnWith u.args (remove r.own.inbox.pending (place_of (slice_index call.args 1)
          (slice_index call.args 2) r.own.inbox.pending)) behind r) 2 call is yield (λ runs.
          one_leaves r runs (slice_index call.args 1) (slice_index call.args 2) u there);
      none = λ call is yield none.
          after (StandsBehind Running r.own.inbox r) 0 call is yield (λ runs.
          none_leaves r runs (slice_index call.args 1) (slice_index call.args 2) none);
      waits = λ call is yield.
          after (StandsBehind Yielded r.own.inbox r) 1 call is yield (λ runs.
          wait_leaves r runs (slice_index call.args 1) (slice_index call.args 2));
      waits_for = λ call is yield none.
          after (StandsBehind Yielded
          (record r.own.inbox { wait = For (slice_index call.args 1) (slice_index call.args 2) }) r) 2 call is yield
          (λ runs. for_leaves r runs (slice_index call.args 1) (slice_index call.args 2) none);
      other = λ n call is yield more.
          after (StandsBehind Running r.own.inbox r) n call is yield (λ runs.
          other_leaves r runs n (slice_index call.args 1) (slice_index call.args 2) more);
    })
