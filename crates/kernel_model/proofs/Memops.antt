-- What holds of every answer that memop may give, whatever the operation: it is refused, or replied to with the break
-- as it is or moved.
use Rattle.std.proofs.Common.{◌≡◌, ℕ, ◌+◌, ◌==◌, Bool, true, false, cond, List, [], ◌∷◌, find, Option, None, Some}
use Rattle.std.proofs.Common.{option_map, refl, unwrap_or}
use Rattle.tk_base.specs.declared.call.CallRule.{CallRule}
use Rattle.tk_base.specs.declared.call.CallRule.TheVariants.{Break, Index, NoOperation}
use Rattle.process_layout.specs.Bounds.{permits_break}
use Rattle.process_model.specs.Own.{kernel_break_of}
use Rattle.syscall_abi.specs.declared.reply.Reply.{Reply}
use Rattle.syscall_abi.specs.declared.reply.Reply.TheVariants.{Success, SuccessU32}
use Rattle.kernel_model.specs.Record.{Record}
use Rattle.kernel_model.specs.Calls.{Served, break_moved, memop, memops, moved_by, refused}
use Rattle.kernel_model.specs.Parts.{region}
use Rattle.kernel_model.specs.Calls.{region_end, replied}
use Rattle.kernel_model.specs.Parts.{with_break_at}

-- of both ways of a test, whatever it tells and by what it tells
pub by_test : (P : Served → Type 0) (b : Bool) (x y : Served) → P x → P y → P (cond b x y)
by_test P true x y p q = p
by_test P false x y p q = q

pub by_case : (P : Served → Type 0) (b : Bool) (x y : Served) → (b ≡ true → P x) → (b ≡ false → P y) → P (cond b x y)
by_case P true x y p q = p refl
by_case P false x y p q = q refl

Each : (Served → Type 0) → List (ℕ × Served) → Type 0
Each P [] = Unit {0}
Each P (row ∷ rows) = P row.1 × Each P rows

-- what a row comes to; refused where there is none
abbrev pub or_refused : Record → Option (ℕ × Served) → Served
or_refused r row = unwrap_or (option_map (λ row. row.1) row) (refused r NoOperation)

-- what holds of each row holds of the one that is found
found : (P : Served → Type 0) (r : Record) (p : ℕ × Served → Bool) (rows : List (ℕ × Served))
    → P (refused r NoOperation) → Each P rows → P (or_refused r (find p rows))
unfolding Each
found P r p [] none each = none
found P r p (row ∷ rows) none each = here_or_later (p row) each.0 (found P r p rows none each.1)
  where
    here_or_later : (b : Bool) → P row.1 → P (or_refused r (find p rows))
        → P (or_refused r (cond b (Some row) (find p rows)))
    here_or_later true here later = here
    here_or_later false here later = later

-- a break is moved where that is permitted
pub memop_permits : (P : Served → Type 0) (r : Record) (operation argument : ℕ)
    → ((rule : CallRule) → P (refused r rule)) → ((reply : Reply) → P (replied r reply))
    → ((new : ℕ) (reply : Reply) → permits_break r.own.layout (kernel_break_of r.own) new ≡ true
    → P (replied (with_break_at r new) reply))
    → P (memop r operation argument)
unfolding Each memop memops
memop_permits P r operation argument refuses replies moved =
    found P r (λ row. row.0 == operation) (memops r argument) (refuses NoOperation) (
      breaks (Some argument) Success,
      (
        breaks (moved_by r.own.layout.brk argument) (SuccessU32 r.own.layout.brk),
        (
          replies _,
          (
            replies _,
            (
              replies _,
              (
                replies _,
                (
                  replies _,
                  (
                    replies _,
                    (
                      regions (λ p. p.0) (region r argument),
                      (regions (λ p. p.0 + p.1) (region r argument), (replies _, (replies _, tt))),
                    ),
                  ),
                ),
              ),
            ),
          ),
        ),
      ),
    )
  where
    breaks : (new : Option ℕ) (reply : Reply) → P (break_moved r new reply)
    breaks None reply = refuses Break
    breaks (Some new) reply =
        by_case P (permits_break r.own.layout (kernel_break_of r.own) new) _ _ (moved new reply) (λ no. refuses Break)

    regions : (offset : ℕ × ℕ → ℕ) (region : Option (ℕ × ℕ)) → P (region_end r offset region)
    regions offset None = refuses Index
    regions offset (Some region) = replies _

pub memop_gives : (P : Served → Type 0) (r : Record) (operation argument : ℕ) → ((rule : CallRule) → P (refused r rule))
    → ((reply : Reply) → P (replied r reply)) → ((new : ℕ) (reply : Reply) → P (replied (with_break_at r new) reply))
    → P (memop r operation argument)
memop_gives P r operation argument refuses replies moved =
    memop_permits P r operation argument refuses replies (λ new reply may. moved new reply)
