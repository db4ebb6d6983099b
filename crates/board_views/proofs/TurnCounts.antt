-- A step gives a process one turn at most.
use Rattle.std.proofs.lemmas.Bool.{cond_both}
use Rattle.std.proofs.lemmas.Option.{same_Some}
use Rattle.kernel_model.proofs.Places.{may_where_ready}
use Rattle.std.proofs.Common.{◌≡◌, ℕ, zero, suc, ◌+◌, ◌≤◌, Bool, true, List, [], ◌∷◌, map}
use Rattle.std.proofs.Common.{slice_get, slice_set, Option, None, Some, refl, ap, arith}
use Rattle.tk_base.specs.declared.process.Choice.{Choice}
use Rattle.tk_base.specs.declared.process.Choice.TheVariants.{Run, Device, Pass}
use Rattle.tk_base.specs.declared.process.Dev.{Dev}
use Rattle.board_devices.specs.Arriving.{differs}
use Rattle.kernel_model.specs.Record.{Record}
use Rattle.kernel_model.specs.Turn.{apply, operated, turned}
use Rattle.kernel_model.specs.Parts.{edge_known}
use Rattle.kernel_model.specs.Laws.{edge_heard}
use Rattle.kernel_model.specs.Named.{can_run}
use Rattle.kernel_model.specs.World.{Stepped, World, after, carried_out, device_step_of, done, is_ready, may_be_made}
use Rattle.kernel_model.specs.World.{ran}
use Rattle.kernel_model.specs.Run.{next, round}
use Rattle.kernel_model.proofs.Places.{of_stepped}
use Rattle.kernel_model.proofs.Steps.{of_answers}
use Rattle.kernel_lives.proofs.Counts.{act_counts, answer_counts, turn_counts}
use Rattle.board_views.specs.Stops.{turns_had, turns_of}
use Rattle.board_views.proofs.Stretches.{lead-step, lead-stop, lead-zero}

-- the turns of each slot, where one record is another
set_had : (rs : List Record) (at slot : ℕ) (r s : Record) → slice_get rs at ≡ Some r
    → s.process.turns ≤ r.process.turns + 1
    → turns_had (slice_get (slice_set rs at s) slot) ≤ turns_had (slice_get rs slot) + 1
set_had [] at slot r s is h = absurd (cc)
set_had (x ∷ rs) zero zero r s is h =
    let same = ap (λ (y : Record). y.process.turns) (same_Some x r is) in omega (arith, h, same)
set_had (x ∷ rs) zero (suc slot) r s is h = omega arith
set_had (x ∷ rs) (suc at) zero r s is h = omega arith
set_had (x ∷ rs) (suc at) (suc slot) r s is h = set_had rs at slot r s is h

-- an edge counts for nobody
edge_had : (button : ℕ) (pressed : Bool) (rs : List Record) (slot : ℕ)
    → turns_had (slice_get (map (edge_heard button pressed) rs) slot) ≤ turns_had (slice_get rs slot) + 1
edge_had button pressed [] slot = omega arith
edge_had button pressed (r ∷ rs) zero =
    cond_both (differs r.pressed button pressed) (edge_known button pressed r) r
    (λ (s : Record). s.process.turns ≤ r.process.turns + 1) (λ other. omega arith) (λ same. omega arith)
edge_had button pressed (r ∷ rs) (suc slot) = edge_had button pressed rs slot

told_had : (w : World) (slot : ℕ) (device : Dev)
    → turns_had (slice_get (done w (device_step_of w device)).after.records slot)
    ≤ turns_had (slice_get w.records slot) + 1
unfolding apply
told_had w slot device =
    let had = turns_had (slice_get w.records slot) in
    let same : had ≤ had + 1 = omega arith in
    of_answers w (λ (s : Stepped). turns_had (slice_get s.after.records slot) ≤ had + 1) same (λ devices. same)
    (λ button pressed devices. edge_had button pressed w.records slot)
    (λ at r there a is.
    let counts = answer_counts w.settings a.answer.event r is in
    set_had w.records at slot r (apply w.settings a.answer.event r) there (omega (arith, counts)))
    (λ verb devices at r there.
    let counts = act_counts verb r in set_had w.records at slot r (operated verb r) there (omega (arith, counts)))
    device

-- what a choice that is ready comes to
made : (w : World) (c : Choice) (slot : ℕ) → is_ready w c ≡ true
    → turns_of (carried_out w c).after slot ≤ turns_of w slot + 1
unfolding carried_out may_be_made
made w (Run at) slot ready = by_record (slice_get w.records at) refl (may_where_ready w at ready)
  where
    by_record : (o : Option Record) → slice_get w.records at ≡ o → can_run o ≡ true
        → turns_of (ran w at o).after slot ≤ turns_of w slot + 1
    by_record None e can = omega arith
    by_record (Some r) e can =
        let counts = turn_counts w.settings w.clock.time r can in
        set_had w.records at slot r (turned w.settings w.clock.time r).after e (omega (arith, counts))
made w (Device device) slot ready = told_had w slot device
made w (Pass ticks) slot ready = omega arith

one_choice : (w : World) (c : Choice) (slot : ℕ) → turns_of (after w c) slot ≤ turns_of w slot + 1
one_choice w c slot =
    of_stepped (λ (s : Stepped). turns_of s.after slot ≤ turns_of w slot + 1) w c (omega arith)
    (λ ready. made w c slot ready)

-- nor does a step of the round robin give more
pub one_turn : (w : World) (slot : ℕ) → turns_of (round 1 w).world slot ≤ turns_of w slot + 1
one_turn w slot = by_next (next w) refl
  where
    by_next : (o : Option Choice) → next w ≡ o → turns_of (round 1 w).world slot ≤ turns_of w slot + 1
    by_next None e = rw (lead-stop 1 w e) (omega arith)
    by_next (Some c) e = rw (lead-step zero w c e, lead-zero (after w c)) (one_choice w c slot)
