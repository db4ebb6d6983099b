-- Laws of the two parts of a block (Levy et al., SOSP 2017, section 4).
use Rattle.std.specs.Prelude.{◌≡◌, ◌-◌, List, ◌∷◌, length, ℕ}
use Rattle.process_layout.specs.LayoutView.{LayoutView}
use Rattle.grant_model.specs.Grants.{Grant}
use Rattle.grant_model.specs.Encoding.{EncodesGrants, Tells, decode_grants}
use Rattle.grant_region.specs.Region.{Leaves, LeavesArea, Parts, parts_of}

pub record PartsJoin : Type 0 where
  -- grants that are told by the kernel's part are left by the parts
  pub kept : (parts : Parts) (gs : List Grant) → length parts.app ≡ parts.layout.kernel_break - parts.layout.start
      → Tells parts.kernel gs → Leaves parts parts gs
  -- a new area is left below the others
  pub made : (before : Parts) (e : LayoutView) (app : List ℕ) (g : Grant) → EncodesGrants before.kernel
      → LeavesArea e before.app app g
      → Leaves before (parts_of e app before.kernel) (g ∷ decode_grants before.kernel)
