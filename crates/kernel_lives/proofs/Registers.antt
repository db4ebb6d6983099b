-- That a process has 32 registers throughout: no instruction, call, delivery or start makes them more or fewer. Each
-- writes words into the registers that there are (`words_many`), or a start makes 32. A walk of its own, by the form of
-- the instruction and of the call (`of_served`), since the walk of `Changes` leaves registers open.
use Rattle.std.proofs.Common.{ap, ◌≡◌, ℕ, ◌%◌, ◌==◌, cond, [], ◌∷◌, length, Option, None, Some}
use Rattle.std.proofs.Common.{Result, Ok, Err, replicate, refl, sym, subst, ◌∙◌, ◌-◌}
use Rattle.tk_base.specs.Regs.{Registers, with_register}
use Rattle.tk_base.specs.declared.access.Denial.{Denial}
use Rattle.tk_base.specs.declared.access.Rule.{Rule}
use Rattle.tk_base.specs.declared.access.Width.{Width}
use Rattle.rv32_model.specs.Laws.{Denies}
use Rattle.rv32_model.specs.UserTurn.{UserTurn, after_load, after_store, effect, executed, fetched, instr_of}
use Rattle.rv32_model.specs.UserTurn.{on_word, user_turn}
use Rattle.rv32_model.specs.declared.instr.Instr.{Instr}
use Rattle.rv32_model.specs.declared.instr.Instr.TheVariants as instrs
use Rattle.rv32_model.specs.declared.instr.LoadKind.{LoadKind}
use Rattle.syscall_abi.specs.Reply.{reply_words, with_words}
use Rattle.syscall_abi.specs.declared.form.CallForm.{CallForm}
use Rattle.syscall_abi.specs.declared.reply.Reply.{Reply}
use Rattle.syscall_abi.specs.declared.reply.Reply.TheVariants.{Failure}
use Rattle.tk_base.specs.Call.{error_of}
use Rattle.tbf_headers.specs.Addresses.{after_protected, entry_of}
use Rattle.tbf_headers.specs.Meaning.{Meaning}
use Rattle.tbf_headers.specs.declared.program.Main.{Main}
use Rattle.process_layout.specs.LayoutView.{first_break}
use Rattle.upcall_queue.specs.declared.inbox.Delivery.{Delivery}
use Rattle.upcall_queue.specs.declared.inbox.Delivery.TheVariants.{Function, Arguments}
use Rattle.process_model.specs.Permission.{denied}
use Rattle.process_record.specs.Process.{after_call, delivery_regs, start_regs}
use Rattle.kernel_model.specs.Calls.{Served, failure_of, restart, served}
use Rattle.kernel_model.specs.Calls.{yielding}
use Rattle.kernel_model.specs.Lives.{HoldsThroughout}
use Rattle.process_record.specs.Parts.{after_fault}
use Rattle.kernel_model.specs.Parts.{with_process}
use Rattle.kernel_model.specs.Record.{Record, byte_at, instruction, with_effect}
use Rattle.kernel_model.specs.declared.settings.Settings.{Settings}
use Rattle.kernel_model.specs.Turn.{faulted, surroundings, turn_counted}
use Rattle.kernel_model.specs.Turn.{turned}
use Rattle.kernel_model.proofs.Steps.{answer_changes, of_operated}
use Rattle.kernel_model.proofs.Calling.{of_commanded, of_served}
use Rattle.kernel_model.proofs.Turning.{of_denial, of_each_end}
use Rattle.kernel_model.proofs.Yields.{of_yield}
use Rattle.kernel_laws.proofs.Registers.{as_many, words_many}
use Rattle.kernel_lives.specs.Registers.{HasRegisters}
use Rattle.kernel_lives.proofs.Changes.{over_choices}
use Rattle.kernel_model.proofs.Restarts.{restart_by}

-- An instruction leaves as many.
module _ (denies : Denies) (bytes : ℕ → ℕ) (regs : Registers) where
  load_many : (length_is : ℕ) (kind : LoadKind) (rd at number : ℕ) (o : Option Rule)
      → length (after_load length_is regs kind rd at number o).regs.x ≡ length regs.x
  load_many length_is kind rd at number None = as_many regs rd _
  load_many length_is kind rd at number (Some rule) = refl

  store_many : (length_is : ℕ) (width : Width) (at value : ℕ) (o : Option Rule)
      → length (after_store length_is regs width at value o).regs.x ≡ length regs.x
  store_many length_is width at value None = refl
  store_many length_is width at value (Some rule) = refl

  effect_many : (size : ℕ) (instr : Instr) → length (effect denies bytes size instr regs).regs.x ≡ length regs.x
  effect_many size (instrs.Load kind rd rs1 offset) = load_many size kind rd _ _ _
  effect_many size (instrs.Store width rs1 rs2 offset) = store_many size width _ _ _
  effect_many size instr = search as_many

  executed_many : (size : ℕ) (o : Option Instr) → length (executed denies bytes size o regs).regs.x ≡ length regs.x
  unfolding executed
  executed_many size None = refl
  executed_many size (Some instr) = effect_many size instr

  word_many : (word : Result ℕ Denial) → length (on_word denies bytes word regs).regs.x ≡ length regs.x
  unfolding on_word
  word_many (Err denial) = refl
  word_many (Ok word) = executed_many (cond (word % 4 == 3) 4 2) (instr_of word)

  turn_many : length (user_turn denies bytes regs).regs.x ≡ length regs.x
  unfolding user_turn
  turn_many = word_many (fetched denies bytes regs.pc)

-- So does what is put into them.
delivery_many : (next : Delivery) (regs : Registers) → length (delivery_regs next regs).x ≡ length regs.x
delivery_many (Function u) regs =
    as_many (with_register (with_words 10 u.args regs) 13 u.app) 1 regs.pc
    ∙ as_many (with_words 10 u.args regs) 13 u.app ∙ words_many 10 u.args regs
delivery_many (Arguments args) regs = words_many 10 args regs

pub start_many : (object : ℕ) (h : Meaning) (m : Main) (ram size brk : ℕ)
    → length (start_regs object h m ram size brk).x ≡ 32
start_many object h m ram size brk =
    words_many 10 (after_protected object h m ∷ ram ∷ size ∷ brk ∷ []) (with_register at_entry 2 ram)
    ∙ as_many at_entry 2 ram
  where
    at_entry : Registers
    at_entry = record { x = replicate 32 0; pc = entry_of object h m }

started_many : (r : Record) → HasRegisters r → HasRegisters (restart r)
started_many r h = restart_by HasRegisters r h (λ header m read main.
    let e = r.own.layout in
    start_many r.process.object.address header m e.start (e.end - e.start) (first_break e.start m.minimum_ram))

module _ (settings : Settings) (time : ℕ) where
  faulted_many : (s : Record) (denial : Denial) → HasRegisters s → HasRegisters (faulted settings s denial).after
  faulted_many s denial h =
      of_denial HasRegisters settings s denial h (started_many (with_process s (after_fault s.process denial)) h)

  -- a call
  module _ (r : Record) (h : HasRegisters r) where
    abbrev Many : Served → Type 0
    Many s = HasRegisters s.after

    replied_many : (reply : Reply) → length (with_words 10 (reply_words reply) r.process.regs).x ≡ 32
    replied_many reply = words_many 10 (reply_words reply) r.process.regs ∙ h

    by_yield : (number x y : ℕ) → Many (yielding r number x y)
    by_yield number x y =
        of_yield Many r number x y (record {
          none = λ zero is. h;
          first = λ upcall zero is. delivery_many (Function upcall) (after_call r.process).regs ∙ h;
          waits = λ one. h;
          waits_for = λ two is. h;
          found = λ upcall two is. delivery_many (Arguments upcall.args) (after_call r.process).regs ∙ h;
          goes_on = λ zero two. h;
        })

    served_many : (form : CallForm) → Many (served settings.strict (surroundings settings time r) r form)
    served_many form =
        of_served Many (surroundings settings time r) r settings.strict form (record {
          refused = λ rule. replied_many (failure_of form rule);
          same = λ reply. replied_many reply;
          moved = λ new reply may. replied_many reply;
          swapped = λ swap reply may. replied_many reply;
          yields = λ number x y same. by_yield number x y;
          commands = λ driver number x y taker same there.
              of_commanded Many r (taker (surroundings settings time r) number x y r.own)
              (λ reply is. replied_many reply) (λ rule is. replied_many (Failure (error_of rule)));
          ends = λ kind code same. h;
          again = λ kind code same. started_many r h;
        })

  turned_many : (r : Record) → HasRegisters r → HasRegisters (turned settings time r).after
  turned_many r h =
      of_each_end settings time r (λ t. HasRegisters t.after) (record {
        nothing = λ none. h;
        went = many;
        faults = λ t denial is runs. faulted_many (with_effect (turn_counted r) t) denial (many t is);
        makes = λ t form is calls runs made. served_many (with_effect (turn_counted r) t) (many t is) form;
        delivers = λ next is yielded. delivery_many next r.process.regs ∙ h;
      })
    where
      many : (t : UserTurn) → t ≡ instruction r → length t.regs.x ≡ 32
      many t is =
          ap (λ (u : UserTurn). length u.regs.x) is ∙ turn_many (denied r.own.layout) (byte_at r) r.process.regs ∙ h

pub registers_stay : HoldsThroughout HasRegisters
registers_stay =
    over_choices HasRegisters (λ settings time r h. turned_many settings time r h)
    (λ settings event r is h. subst HasRegisters (sym (answer_changes settings event r is)) h)
    (λ verb r h.
    of_operated (λ ended s. HasRegisters s) r h (λ held. h) (λ lives. h) (started_many r h) verb)
