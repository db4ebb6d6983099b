-- Windows of addresses beside the entries, where an access needs no search.
use Rattle.std.specs.Prelude.{◌≡◌, ℕ, ◌+◌, ◌<◌, ◌≤◌, Bool, true, ◌&&◌, nat_le, IsTrue, List, None, Some}
use Rattle.tk_base.specs.declared.access.Access.{Access}
use Rattle.tk_base.specs.declared.access.Access.TheVariants.{Fetch, Load, Store}
use Rattle.tk_base.specs.declared.access.Width.{Width}
use Rattle.tk_base.specs.Access.{width_bytes}
use Rattle.pmp_regions.specs.declared.Entry.{Entry}
use Rattle.pmp_regions.specs.declared.Extent.{Extent}
use Rattle.pmp_regions.specs.Entries.{pmp_entry, is_tor}
use Rattle.pmp_regions.specs.Check.{deciding, matches_all, denied_by_registers}

-- the ends of a window: the addresses from one on up to but not including another
pub record Ends : Type 0 where
  pub from : ℕ
  pub to : ℕ

-- the address behind the last of so many
abbrev pub end_of : Extent → ℕ
end_of addresses = addresses.from + addresses.length

-- all bytes of an access lie in a window
abbrev pub window_holds : Ends → ℕ → Width → Bool
window_holds w at width = nat_le w.from at && nat_le (at + width_bytes width) w.to

-- the entries permit every access of a kind in a window
abbrev pub Permits : List Entry → Access → Ends → Type 0
Permits pmp access w = (at : ℕ) (width : Width) → IsTrue (window_holds w at width)
    → denied_by_registers pmp access at width ≡ None

-- the entries permit every access of a kind whose bytes lie between two addresses
pub record PermitsBetween (pmp : List Entry) (access : Access) (from to : ℕ) : Type 0 where
  pub permits :
      (at : ℕ) (width : Width) → from ≤ at → at + width_bytes width ≤ to
      → denied_by_registers pmp access at width ≡ None

-- what the two windows stand for
pub record ArePermitted (pmp : List Entry) (executable writable : Ends) : Type 0 where
  pub fetch : Permits pmp Fetch executable
  pub load_executable : Permits pmp Load executable
  pub load_writable : Permits pmp Load writable
  pub store : Permits pmp Store writable

-- an entry decides every access in a window, and matches all bytes of it
pub record Decides (pmp : List Entry) (i : ℕ) (w : Ends) : Type 0 where
  pub decides : (at : ℕ) (width : Width) → IsTrue (window_holds w at width) → deciding pmp at width ≡ Some i
  pub matches : (at : ℕ) (width : Width) → IsTrue (window_holds w at width) → matches_all pmp i at width ≡ true

-- the ranges of the first n entries end at or below a word
abbrev pub EndBy : List Entry → ℕ → ℕ → Type 0
EndBy pmp n word = (k : ℕ) → k < n → IsTrue (is_tor (pmp_entry pmp k).mode) → (pmp_entry pmp k).address ≤ word
