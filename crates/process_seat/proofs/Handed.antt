-- A seat once its process has handed a pair to a driver.
use Rattle.std.proofs.Common.{◌≡◌, ℕ, ◌<◌, IsTrue, List, sym, ap, ap₂, subst, ◌∙◌}
use Rattle.std.specs.List.{AllByRecursion}
use Rattle.process_layout.specs.LayoutView.{LayoutView}
use Rattle.process_layout.specs.Bounds.{Bounds, bounds_of}
use Rattle.board_memory.specs.Memory.{MemoryBytes}
use Rattle.tk_base.specs.declared.upcall.Counts.{Counts}
use Rattle.tk_base.specs.Kinds.{count_of}
use Rattle.grant_model.specs.Grants.{Grant, shape_of}
use Rattle.grant_model.specs.Encoding.{decode_grants}
use Rattle.grant_model.specs.Laws.{PairsStandByKind}
use Rattle.swap_tables.specs.declared.handover.Handover.{Handover}
use Rattle.swap_tables.specs.Swaps.{CanHand, with_swapped_pair}
use Rattle.process_model.specs.Own.{Own}
use Rattle.process_model.specs.Handed.{handing, may_share, marked, own_entering, still_pending}
use Rattle.upcall_queue.specs.declared.inbox.Inbox.{Inbox}
use Rattle.process_seat.specs.declared.seat.Seat.{Seat}
use Rattle.process_seat.specs.Seats.{Holds, Reseats, SitsIn, SwapsIn, kernel_in, own_in}
use Rattle.process_seat.proofs.Entering.{same_bounds, still_own}
use Rattle.process_seat.proofs.Holding.{only_mark, mark_below, handed_holds, noted}
use Rattle.process_seat.proofs.Regranted.{regranted, remarked}
use Rattle.process_seat.proofs.Values.{shape_is}

-- what the code leaves, in a seat that was settled
module _ (m : MemoryBytes) (seat : Seat) (t : SitsIn m seat) (h : Handover) (m' : MemoryBytes) (f : LayoutView)
    (former : ℕ × ℕ) (sw : SwapsIn h m seat.layout m' f former) (inbox : Inbox) where
  -- with the mark raised
  abbrev now : LayoutView
  now = remarked (marked h.kind h.pair (bounds_of f)).mark f

  bounds_now : bounds_of now ≡ marked h.kind h.pair (bounds_of seat.layout)
  bounds_now =
      sym (only_mark h.kind h.pair (bounds_of f))
      ∙ ap (marked h.kind h.pair) (same_bounds h.driver m seat t f sw.layout)

  abbrev inbox_handed : Inbox
  inbox_handed =
      record seat.inbox { pending = still_pending h.kind h.driver h.number seat.inbox.pending }

  pub own_handed : inbox ≡ inbox_handed
      → own_in m'.ram (record seat { layout = now; inbox = inbox })
      ≡ handing h.kind h.driver h.number h.pair (own_in m.ram seat)
  own_handed left =
      let gs = with_swapped_pair h (decode_grants (kernel_in m.ram seat.layout)) in
      let made : Bounds → List ℕ → List Grant → Inbox → Own = λ e a gs i. record {
        object = seat.object;
        layout = e;
        ram = a;
        grants = gs;
        inbox = i;
        life = seat.life;
        lives = seat.lives;
      } in
      ap₂ (λ (a : List ℕ) (gs : List Grant). made (bounds_of now) a gs inbox)
      (sw.grants.app ∙ still_own h.driver m seat t f sw.layout) sw.grants.tells.grants
      ∙ ap (made (bounds_of now) (own_entering h.driver (own_in m.ram seat)).ram gs) left
      ∙ ap (λ (e : Bounds). made e (own_entering h.driver (own_in m.ram seat)).ram gs inbox_handed) bounds_now

  -- it is a seat as before
  pub hand_reseats : PairsStandByKind → CanHand h → IsTrue (may_share h.kind (bounds_of seat.layout) h.pair)
      → Reseats m seat m' (record seat { layout = now; inbox = inbox })
  hand_reseats law can may =
      let before = decode_grants (kernel_in m.ram seat.layout) in
      let small : h.number < count_of h.kind (shape_of h.driver) =
      subst (λ (c : Counts). h.number < count_of h.kind c) (sym (shape_is h.driver h.counts can.counts_are))
      can.below in
      let held : AllByRecursion (Holds (noted h.kind h.pair (bounds_of f))) (with_swapped_pair h before) =
      subst (λ (b : Bounds). AllByRecursion (Holds (noted h.kind h.pair b)) (with_swapped_pair h before))
      (sym (same_bounds h.driver m seat t f sw.layout))
      (handed_holds law h (bounds_of seat.layout) before t.seated.kept.laid.sound small may t.seated.kept.held) in
      regranted m seat t h.driver m' f (with_swapped_pair h before) sw.layout sw.grants
      (marked h.kind h.pair (bounds_of f)).mark inbox
      (mark_below h.kind h.pair (bounds_of f) sw.grants.ordered.buffers) held
