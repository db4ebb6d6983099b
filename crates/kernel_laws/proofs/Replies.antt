-- What a call gets stands in the registers of its process, and a refused one changes nothing else of it. By the walk
-- over calls each form puts one reply into the registers, or has none (`Gets`); its words stand at their places, and
-- all other registers are as before. That an ECALL tells a call goes by the instruction at pc.
use Rattle.std.proofs.lemmas.List.Elements.{All-weaker}
use Rattle.kernel_model.proofs.Calling.{of_commanded}
use Rattle.std.proofs.Common.{◌≡◌, ◌≢◌, ◌⊎◌, inl, inr, ◌<◌, ◌≤◌, ℕ, suc, ◌+◌, ◌%◌, ◌^◌, ◌==◌, Bool, true, false}
use Rattle.std.proofs.Common.{cond, find, List, [], ◌∷◌, length, Option, None, Some, is_some, option_map}
use Rattle.std.proofs.Common.{Result}
use Rattle.std.proofs.Common.{IfSome, refl, sym, ap, subst, ◌∙◌, arith}
use Rattle.std.proofs.lemmas.Bool.{false≢true}
use Rattle.tk_base.specs.Call.{code_of, error_of}
use Rattle.tk_base.specs.Regs.{Registers, register, with_register}
use Rattle.tk_base.specs.declared.access.Denial.{Denial}
use Rattle.tk_base.specs.declared.call.CallRule.{CallRule}
use Rattle.tk_base.specs.declared.kinds.PairKind.{PairKind}
use Rattle.tk_base.specs.declared.kinds.PairKind.TheVariants.{Upcall}
use Rattle.rv32_model.specs.Laws.{CallsAreOfEcall, Denies, IsInstrAt}
use Rattle.rv32_model.specs.UserTurn.{MemoryAccess, executed, on_word, user_turn}
use Rattle.rv32_model.specs.declared.instr.Instr.{Instr}
use Rattle.rv32_model.specs.declared.instr.Instr.TheVariants.{Ecall}
use Rattle.rv32_model.specs.declared.turn_end.TurnEnd.{TurnEnd}
use Rattle.rv32_model.specs.declared.turn_end.TurnEnd.TheVariants.{Call}
use Rattle.driver_model.specs.Commands.{BoardRequest}
use Rattle.syscall_abi.specs.declared.form.CallForm.{CallForm}
use Rattle.syscall_abi.specs.declared.form.CallForm.TheVariants as forms
use Rattle.syscall_abi.specs.declared.reply.Reply.{Reply}
use Rattle.syscall_abi.specs.declared.reply.Reply.TheVariants as replies
use Rattle.syscall_abi.specs.declared.reply.Reply.TheVariants.{Failure, FailureU32U32}
use Rattle.syscall_abi.specs.Call.{a2, a3, call_of, class, class_table}
use Rattle.syscall_abi.specs.Reply.{put_reply, reply_words}
use Rattle.process_record.specs.declared.outcome.Outcome.{Outcome}
use Rattle.process_record.specs.declared.outcome.Outcome.TheVariants as outcomes
use Rattle.process_record.specs.declared.outcome.Outcome.TheVariants.{Replied}
use Rattle.process_record.specs.declared.process.Process.{Process}
use Rattle.process_record.specs.Process.{after_reply}
use Rattle.process_model.specs.Permission.{denied}
use Rattle.process_record.specs.declared.process.State.{State}
use Rattle.kernel_model.specs.Record.{Record, byte_at, instruction, with_effect}
use Rattle.kernel_model.specs.declared.settings.Settings.{Settings}
use Rattle.kernel_model.specs.Calls.{Served, failure_of, refused_with, served}
use Rattle.kernel_model.specs.Histories.{class_of}
use Rattle.kernel_model.specs.Parts.{calls}
use Rattle.kernel_model.specs.Turn.{Turned, arguments, at_turn_end, made, reply_shown, surroundings}
use Rattle.kernel_model.specs.Turn.{turn_counted, turn_in}
use Rattle.kernel_model.specs.Turn.{turned}
use Rattle.kernel_model.specs.World.{Label, World, after, labels}
use Rattle.kernel_model.specs.Refused.{IfRefused, RefusalsChangeLittle}
use Rattle.kernel_model.proofs.Classes.{made_as, of_registers, same_form}
use Rattle.kernel_model.proofs.Places.{free_turned}
use Rattle.kernel_laws.specs.Replies.{CallIsSeen, ChangesByRefusal, EcallsAreTold, IfRefusedSeen, TellsItsCall}
use Rattle.kernel_laws.specs.Replies.{RefusalsAreSeen, RepliesStand, ReplyStands, is_swap_class}
use Rattle.kernel_laws.proofs.Between.{of_each_turn, of_turn}
use Rattle.kernel_model.proofs.Calling.{of_served}
use Rattle.kernel_model.proofs.Yields.{kept_by_yield}
use Rattle.kernel_laws.proofs.Registers.{as_many, register_again, register_beside, register_there}
use Rattle.kernel_laws.proofs.Registers.{words_beside, words_pc}

-- registers with a reply, and pc past the `ecall`
abbrev past : Reply → Registers → Registers
past reply regs = record (put_reply reply regs) { pc = (regs.pc + 4) % 2 ^ 32 }

replied_regs : (p : Process) (reply : Reply) → (after_reply p reply).regs ≡ past reply p.regs
replied_regs p reply =
    ap (λ (pc : ℕ). record (put_reply reply p.regs) { pc = (pc + 4) % 2 ^ 32 }) (words_pc 10 (reply_words reply) p.regs)

few_words : (reply : Reply) → length (reply_words reply) ≤ 4
few_words replies.Success = omega arith
few_words reply = omega arith

-- what a call leaves in the registers that is replied to; and which calls have no reply
module _ (r : Record) (form : CallForm) (is : call_of r.process.regs ≡ Some form) where
  abbrev HasNone : Type 0
  HasNone = (class r.process.regs ≡ 0) ⊎ (class r.process.regs ≡ 6)

  record Gets (s : Served) : Type 0 where
    reply : (reply : Reply) (rule : Option CallRule) → s.outcome ≡ Replied reply rule
        → s.after.process.regs ≡ past reply r.process.regs
    silent : reply_shown r.process.regs s.outcome ≡ None → HasNone

  gets_reply : (s : Record) (acts : List BoardRequest) (reply : Reply) (rule : Option CallRule)
      → s.process.regs ≡ past reply r.process.regs
      → Gets (record { after = s; outcome = Replied reply rule; acts = acts })
  gets_reply s acts reply rule stands = record {
    reply = λ other q e.
        let same : reply ≡ other = cc in stands ∙ ap (λ (x : Reply). past x r.process.regs) same;
    silent = λ e. absurd (cc);
  }

  gets_none : (s : Record) (acts : List BoardRequest) (outcome : Outcome)
      → ((reply : Reply) (rule : Option CallRule) → outcome ≡ Replied reply rule → ⊥) → HasNone
      → Gets (record { after = s; outcome = outcome; acts = acts })
  gets_none s acts outcome apart has =
      record { reply = λ reply rule e. absurd (apart reply rule e); silent = λ e. has }

  gets : (settings : Settings) (time : ℕ) → Gets (served settings.strict (surroundings settings time r) r form)
  gets settings time =
      of_served Gets (surroundings settings time r) r settings.strict form (record {
        refused = λ rule. gets_reply _ [] (failure_of form rule) (Some rule) (replied_regs r.process (failure_of form
            rule));
        same = λ reply. gets_reply _ [] reply None (replied_regs r.process reply);
        moved = λ new reply may. gets_reply _ [] reply None (replied_regs r.process reply);
        swapped = λ swap reply may. gets_reply _ [] reply None (replied_regs r.process reply);
        yields = λ number x y same.
            gets_none _ _ _ (kept_by_yield r number x y).silent.reply
            (inl (made_as r.process.regs (forms.Yield number x y) (is ∙ ap (λ (f : CallForm). Some f) same)).0);
        commands = λ driver number x y taker same there.
            of_commanded Gets r (taker (surroundings settings time r) number x y r.own)
            (λ reply answers. gets_reply _ _ reply None (replied_regs r.process reply))
            (λ rule answers. gets_reply _ _ (Failure (error_of rule)) (Some rule)
            (replied_regs r.process (Failure (error_of rule))));
        ends = λ kind code same.
            gets_none _ _ outcomes.Ended (λ reply rule e. cc)
            (inr (made_as r.process.regs (forms.Exit kind code) (is ∙ ap (λ (f : CallForm). Some f) same)));
        again = λ kind code same.
            gets_none _ _ outcomes.Again (λ reply rule e. cc)
            (inr (made_as r.process.regs (forms.Exit kind code) (is ∙ ap (λ (f : CallForm). Some f) same)));
      })

-- so a reply that a call shows stands there
some_words : (x y z u a b c d : ℕ) → Some (x ∷ y ∷ z ∷ u ∷ []) ≡ Some (a ∷ b ∷ c ∷ d ∷ [])
    → (x ≡ a) × (y ≡ b) × (z ≡ c) × (u ≡ d)
some_words x y z u a b c d e = (cc, cc, cc, cc)

reply_stands : (r s : Record) (reply : Reply) (a b c d : ℕ) → s.process.regs ≡ past reply r.process.regs
    → Some (arguments (put_reply reply r.process.regs)) ≡ Some (a ∷ b ∷ c ∷ d ∷ []) → ReplyStands r s a b c d
reply_stands r s reply a b c d is shows =
    let words = some_words _ _ _ _ a b c d shows in
    record {
      first = ap (λ (regs : Registers). register regs 10) is ∙ words.0;
      second = ap (λ (regs : Registers). register regs 11) is ∙ words.1;
      third = ap (λ (regs : Registers). register regs 12) is ∙ words.2;
      fourth = ap (λ (regs : Registers). register regs 13) is ∙ words.3;
      pc = ap (λ (regs : Registers). regs.pc) is;
      others = λ n out.
          ap (λ (regs : Registers). register regs n) is
          ∙ words_beside 10 (reply_words reply) r.process.regs n (elim out [
            | inl below ↦ inl below
            | inr past ↦ let few = few_words reply in inr (omega (arith, past, few))
          ]);
    }

call_seen : (r : Record) (form : CallForm) (is : call_of r.process.regs ≡ Some form) (s : Served)
    → Gets (turn_counted r) form is s → CallIsSeen r s.after (made r.process.regs s.outcome)
call_seen r form is s gets = record {
  class = refl;
  args = refl;
  reply = λ a b c d shows. by_outcome a b c d s.outcome refl shows;
  whole = four_words s.outcome;
  silent = gets.silent;
}
  where
    four_words : (outcome : Outcome) → IfSome (reply_shown r.process.regs outcome) (λ words. length words ≡ 4)
    four_words (Replied reply rule) = refl
    four_words outcome = tt

    by_outcome : (a b c d : ℕ) (outcome : Outcome) → s.outcome ≡ outcome
        → reply_shown r.process.regs outcome ≡ Some (a ∷ b ∷ c ∷ d ∷ []) → ReplyStands r s.after a b c d
    by_outcome a b c d (Replied reply rule) same shows =
        reply_stands r s.after reply a b c d (gets.reply reply rule same) shows
    by_outcome a b c d outcome same shows = absurd (cc)

pub replies_stand : CallsAreOfEcall → RepliesStand
replies_stand of_ecall =
    of_each_turn (λ r s told. IfSome told.call (CallIsSeen r s)) (λ settings time r.
    of_turn of_ecall settings time r (λ t. IfSome t.told.call (CallIsSeen r t.after)) (record {
      nothing = tt;
      went = λ t is. tt;
      faults = λ t denial is. tt;
      makes = λ accesses form is runs.
          call_seen r form is _ (gets (turn_counted r) form is settings time);
      delivers = λ next is yielded. tt;
    }))

-- The turn of a process that stands at an ECALL tells a call.
some_call : (regs : Registers) (n : ℕ) → n ≤ 7
    → is_some (option_map (λ row. row.1) (find (λ row. row.0 == n) (class_table regs))) ≡ true
unfolding class_table
some_call regs (suc (suc (suc (suc (suc (suc (suc (suc n)))))))) few = absurd (omega (arith, few))
some_call regs n few = refl

known_call : (regs : Registers) → class regs ≤ 7 → is_some (call_of regs) ≡ true
unfolding call_of
known_call regs few = some_call regs (class regs) few

ends_in_call : (denies : Denies) (bytes : ℕ → ℕ) (regs : Registers) → IsInstrAt denies bytes regs.pc (Some Ecall)
    → (user_turn denies bytes regs).end ≡ Call
unfolding user_turn on_word executed
ends_in_call denies bytes regs at =
    ap (λ (word : Result ℕ Denial). (on_word denies bytes word regs).end) at.fetch
    ∙ ap (λ (instr : Option Instr). (executed denies bytes (cond (at.word % 4 == 3) 4 2) instr regs).end) at.means

tells_its_call : CallsAreOfEcall → (settings : Settings) (time : ℕ) (r : Record)
    → TellsItsCall r (turned settings time r).told
tells_its_call of_ecall settings time r free running at known =
    let t = instruction r in
    let ends = ends_in_call (denied r.own.layout) (byte_at r) r.process.regs at in
    let regs = (of_ecall (denied r.own.layout) (byte_at r) r.process.regs ends).1 in
    ap (λ (u : Turned). is_some u.told.call) (free_turned settings time r free)
    ∙ ap (λ (state : State). is_some (turn_in settings time state r).told.call) running
    ∙ ap (λ (end : TurnEnd).
    is_some (at_turn_end settings time (with_effect (turn_counted r) t) t.accesses end).told.call) ends
    ∙ told (with_effect (turn_counted r) t) t.accesses (call_of t.regs)
    (ap (λ (x : Registers). is_some (call_of x)) regs ∙ known_call r.process.regs known)
  where
    told : (s : Record) (accesses : List MemoryAccess) (o : Option CallForm) → is_some o ≡ true
        → is_some (calls settings time s accesses o).told.call ≡ true
    told s accesses None some = absurd (false≢true some)
    told s accesses (Some form) some = refl

pub ecalls_are_told : CallsAreOfEcall → EcallsAreTold
ecalls_are_told of_ecall = of_each_turn (λ r s told. TellsItsCall r told) (tells_its_call of_ecall)

-- The registers of a refused call.
module _ (regs : Registers) (many : length regs.x ≡ 32) (rule : CallRule) where
  record Refuses (after : Registers) : Type 0 where
    variant : register after 10 ≡ cond (is_swap_class (class regs)) 2 0
    error : register after 11 ≡ code_of (error_of rule)
    registers : (n : ℕ) → n ≢ 10 → n ≢ 11 → register after n ≡ register regs n

  two_words : (first : ℕ) → first ≡ cond (is_swap_class (class regs)) 2 0
      → Refuses (with_register (with_register regs 10 first) 11 (code_of (error_of rule)))
  two_words first is =
      let within : 11 < length (with_register regs 10 first).x = omega (arith, as_many regs 10 first, many) in
      record {
        variant = register_beside (with_register regs 10 first) 11 10 (code_of (error_of rule)) (λ e. omega (arith, e))
            ∙ register_there regs 10 first (omega arith) (omega (arith, many)) ∙ is;
        error = register_there (with_register regs 10 first) 11 (code_of (error_of rule)) (omega arith) within;
        registers = λ n ten eleven.
            register_beside (with_register regs 10 first) 11 n (code_of (error_of rule)) eleven
            ∙ register_beside regs 10 n first ten;
      }

  -- the pair that is handed back stands there still
  pair_stands : (after : Registers) → register after 12 ≡ a2 regs → register after 13 ≡ a3 regs
      → with_register (with_register after 12 (a2 regs)) 13 (a3 regs) ≡ after
  pair_stands after third fourth =
      ap (λ (x : ℕ). with_register (with_register after 12 x) 13 (a3 regs)) (sym third)
      ∙ ap (λ (y : Registers). with_register y 13 (a3 regs)) (register_again after 12 (omega arith))
      ∙ ap (λ (x : ℕ). with_register after 13 x) (sym fourth) ∙ register_again after 13 (omega arith)

  plain : is_swap_class (class regs) ≡ false → Refuses (put_reply (Failure (error_of rule)) regs)
  plain apart = two_words 0 (ap (λ (b : Bool). cond b 2 0) (sym apart))

  swaps : is_swap_class (class regs) ≡ true
      → Refuses (put_reply (FailureU32U32 (error_of rule) (a2 regs) (a3 regs)) regs)
  swaps is =
      let r = two_words 2 (ap (λ (b : Bool). cond b 2 0) (sym is)) in
      subst Refuses (sym (pair_stands _ (r.registers 12 (λ e. omega (arith, e)) (λ e. omega (arith, e)))
      (r.registers 13 (λ e. omega (arith, e)) (λ e. omega (arith, e))))) r

  swap_class : (kind : PairKind) → is_swap_class (class_of kind) ≡ true
  swap_class Upcall = refl
  swap_class kind = refl

  carried : (form other : CallForm) → Some form ≡ Some other → Refuses (put_reply (failure_of form rule) regs)
      → Refuses (put_reply (failure_of other rule) regs)
  carried form other e so =
      subst (λ (f : CallForm). Refuses (put_reply (failure_of f rule) regs)) (same_form form other e) so

  no_swap : (n : ℕ) → class regs ≡ n → is_swap_class n ≡ false → is_swap_class (class regs) ≡ false
  no_swap n is apart = ap is_swap_class is ∙ apart

  refuses : (form : CallForm) → call_of regs ≡ Some form → Refuses (put_reply (failure_of form rule) regs)
  refuses form =
      of_registers (λ (o : Option CallForm). o ≡ Some form → Refuses (put_reply (failure_of form rule) regs)) regs
      (λ is e. carried _ form e (plain (no_swap 0 is refl)))
      (λ kind is e. carried _ form e (swaps (ap is_swap_class is ∙ swap_class kind)))
      (λ is e. carried _ form e (plain (no_swap 2 is refl))) (λ is e. carried _ form e (plain (no_swap 5 is refl)))
      (λ is e. carried _ form e (plain (no_swap 6 is refl))) (λ e. absurd (cc))

pub changes : (r : Record) (form : CallForm) (rule : CallRule) → call_of r.process.regs ≡ Some form
    → length r.process.regs.x ≡ 32
    → ChangesByRefusal r (refused_with (turn_counted r) rule (failure_of form rule)).after rule
changes r form rule is many =
    let so = refuses r.process.regs many rule form is in
    record {
      variant = so.variant;
      error = so.error;
      registers = so.registers;
      pc = ap (λ (pc : ℕ). (pc + 4) % 2 ^ 32) (words_pc 10 (reply_words (failure_of form rule)) r.process.regs);
      process = refl;
      own = refl;
      object = refl;
      storage = refl;
      pressed = refl;
    }

seen : (w v : World) (label : Label) → IfRefused w v label → IfRefusedSeen w v label
seen w v label leaves rule e =
    let l = leaves rule e in
    record {
      before = l.before;
      later = _;
      is_there = l.is_there;
      process = λ many. changes l.before l.call rule l.is_made many;
      world = l.world;
    }

pub refusals_are_seen : RefusalsChangeLittle → RefusalsAreSeen
refusals_are_seen law w choice =
    All-weaker (IfRefused w (after w choice)) (IfRefusedSeen w (after w choice)) (seen w (after w choice))
    (labels w choice) (law w choice)
