-- Grants in the kernel's bytes of a block, and room for one more (Levy et al., SOSP 2017, section 4).
use Rattle.std.specs.Prelude.{ℕ, ◌≡◌, ◌+◌, ◌-◌, ◌≤◌, ◌<◌, ◌^◌, List, [], ◌∷◌, ◌++◌, length, take, drop, Bool, true}
use Rattle.std.specs.Prelude.{nat_le}
use Rattle.std.specs.Prelude.{Option, None, Some, option_map}
use Rattle.process_layout.specs.LayoutView.{LayoutView}
use Rattle.grant_values.specs.Drivers.{counts_of, cost_of}
use Rattle.grant_model.specs.Grants.{Grant, shape_of}
use Rattle.grant_model.specs.Encoding.{EncodesGrants, Tells}
use Rattle.grant_region.specs.declared.room.NoRoom.{NoRoom}

-- a driver whose grant takes so many bytes
abbrev pub Costs : ℕ → ℕ → Type 0
Costs driver cost = option_map cost_of (counts_of driver) ≡ Some cost

-- a block that is cut at the kernel break of its layout: the process's own bytes, and those of its grants
pub record Parts : Type 0 where
  pub layout : LayoutView
  pub app : List ℕ
  pub kernel : List ℕ

abbrev pub parts_of : LayoutView → List ℕ → List ℕ → Parts
parts_of layout app kernel = record { layout = layout; app = app; kernel = kernel }

-- they are the two parts of a block: there are as many bytes as the layout says, and the kernel's are areas of grants
pub record AreParts (parts : Parts) : Type 0 where
  pub size : length parts.app ≡ parts.layout.kernel_break - parts.layout.start
  pub laid : EncodesGrants parts.kernel
  pub small : length parts.kernel < 2 ^ 32

-- whether there is room for so many bytes between the break and the kernel break
abbrev pub has_space : LayoutView → ℕ → Bool
has_space e cost = nat_le (e.brk + cost) e.kernel_break

-- whether a driver is entered, or its area fits
abbrev pub fits : LayoutView → ℕ → Option Grant → Bool
fits e driver None = has_space e (cost_of (shape_of driver))
fits e driver (Some g) = true

-- the layout with room taken for so many bytes more
abbrev pub with_room : ℕ → LayoutView → LayoutView
with_room cost e = record e { kernel_break = e.kernel_break - cost }

-- the layout once a driver has been entered
abbrev pub roomed : ℕ → LayoutView → Option Grant → LayoutView
roomed driver e None = with_room (cost_of (shape_of driver)) e
roomed driver e (Some g) = e

-- the bytes of a part before the kernel break of a layout, and those from it on
abbrev pub below : LayoutView → List ℕ → List ℕ
below e bytes = take (e.kernel_break - e.start) bytes

abbrev pub above : LayoutView → List ℕ → List ℕ
above e bytes = drop (e.kernel_break - e.start) bytes

-- The parts of a block are left so that, joined and cut at the kernel break of the layout afterwards, they are the
-- process's own bytes as they were, and these grants.
pub record Leaves (before after : Parts) (gs : List Grant) : Type 0 where
  pub size : length after.app ≡ length before.app
  pub own : below after.layout (after.app ++ after.kernel) ≡ below after.layout before.app
  pub tells : Tells (above after.layout (after.app ++ after.kernel)) gs

-- A new area is left in the last bytes of the process's own part, with this grant; the others are as they were.
pub record LeavesArea (e : LayoutView) (app app' : List ℕ) (g : Grant) : Type 0 where
  pub size : length app' ≡ length app
  pub within : e.kernel_break - e.start ≤ length app
  pub own : below e app' ≡ below e app
  pub tells : Tells (above e app') (g ∷ [])

-- there was no room, and nothing has changed: the answer says where the break and the kernel break are
pub record Refuses (e e' : LayoutView) (app app' : List ℕ) (answer : NoRoom) : Type 0 where
  pub same_layout : e' ≡ e
  pub same_bytes : app' ≡ app
  pub brk : answer.brk ≡ e.brk
  pub lowest : answer.lowest ≡ e.kernel_break
