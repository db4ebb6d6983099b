-- What a refused call leaves of its process and of the world, by the end of its instruction.
use Rattle.std.proofs.Common.{◌≡◌, ℕ, List, [], Some, slice_get, slice_set, ap, ap₂}
use Rattle.tk_base.specs.declared.call.CallRule.{CallRule}
use Rattle.rv32_model.specs.Laws.{CallsAreOfEcall}
use Rattle.driver_model.specs.Commands.{BoardRequest}
use Rattle.kernel_model.specs.Record.{Record}
use Rattle.kernel_model.specs.declared.settings.Settings.{Settings}
use Rattle.kernel_model.specs.Calls.{Served}
use Rattle.kernel_model.specs.Turn.{Turned, turn_counted, surroundings, turned}
use Rattle.kernel_model.specs.World.{World, after_turn_of, routed, turn_label}
use Rattle.kernel_model.specs.Laws.{RefusedChangesNothingElse}
use Rattle.kernel_model.specs.Refused.{IfRefused, RefusalsChangeLittle}
use Rattle.kernel_model.specs.Parts.{CallIsRefused}
use Rattle.kernel_model.specs.Parts.{refusal_in}
use Rattle.kernel_model.proofs.Labels.{of_labels}
use Rattle.kernel_laws.proofs.Between.{of_turn}

module _ (law : RefusedChangesNothingElse) (of_ecall : CallsAreOfEcall) (settings : Settings) (time : ℕ) where
  -- what a turn leaves whose call was refused
  abbrev Refuses : Record → Turned → Type 0
  Refuses r t = (rule : CallRule) → refusal_in t.told ≡ Some rule → CallIsRefused rule r t.after × (t.acts ≡ [])

  refuses : (r : Record) → Refuses r (turned settings time r)
  refuses r =
      of_turn of_ecall settings time r (Refuses r) (record {
        nothing = λ rule e. absurd (cc);
        went = λ t is rule e. absurd (cc);
        faults = λ t denial is rule e. absurd (cc);
        makes = λ accesses form is runs rule e.
            let same = law settings.strict (surroundings settings time (turn_counted r)) (turn_counted r) form rule e in
            ((form, is, ap (λ (s : Served). s.after) same), ap (λ (s : Served). s.acts) same);
        delivers = λ next is yielded rule e. absurd (cc);
      })

module _ (law : RefusedChangesNothingElse) (of_ecall : CallsAreOfEcall) (w : World) where
  of_turns : (slot : ℕ) (r : Record) → slice_get w.records slot ≡ Some r
      → let t = turned w.settings w.clock.time r in
      IfRefused w (after_turn_of w slot t) (turn_label slot w.clock.time t.told)
  of_turns slot r is rule e =
      let t = turned w.settings w.clock.time r in
      let is_so = refuses law of_ecall w.settings w.clock.time r rule e in
      record {
        before = r;
        is_there = is;
        call = is_so.0.0;
        is_made = is_so.0.1;
        world = ap₂ (λ (s : Record) (acts : List BoardRequest). record (after_turn_of w slot t)
            { records = slice_set w.records slot s; devices = routed slot acts w.devices }) is_so.0.2 is_so.1;
      }

pub refusals_change_little : RefusedChangesNothingElse → CallsAreOfEcall → RefusalsChangeLittle
refusals_change_little law of_ecall w =
    of_labels (λ s. IfRefused w s.after) w (λ slot r is may. of_turns law of_ecall w slot r is)
    (λ deed slot r a is told no_turn rule broken. absurd (cc))
