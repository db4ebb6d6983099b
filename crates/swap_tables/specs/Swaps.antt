-- Swaps of the pairs that a process hands to a driver (TRD 104, "Subscribe", "Read-Only Allow", "Read-Write Allow").
use Rattle.std.specs.Prelude.{ℕ, ◌≡◌, ◌<◌, ◌^◌, List, length, Some, Result, is_ok, IfOk, IfErr, OnErr}
use Rattle.tk_base.specs.declared.upcall.Counts.{Counts}
use Rattle.tk_base.specs.declared.kinds.PairKind.{PairKind}
use Rattle.tk_base.specs.Kinds.{count_of}
use Rattle.grant_values.specs.Drivers.{counts_of}
use Rattle.grant_model.specs.Grants.{Grant, grant_of, with_grant, entered, pair_of, with_pair}
use Rattle.grant_model.specs.Encoding.{EncodesGrants, Tells, decode_grants}
use Rattle.grant_region.specs.declared.room.NoRoom.{NoRoom}
use Rattle.grant_region.specs.Region.{AreParts, Leaves, Parts, Refuses, fits, roomed}
use Rattle.swap_tables.specs.declared.handover.Handover.{Handover}

-- a pair of a driver: these are the driver's counts, and the number is below that of the kind
pub record IsPair (kind : PairKind) (driver : ℕ) (counts : Counts) (number : ℕ) : Type 0 where
  pub counts_are : counts_of driver ≡ Some counts
  pub below : number < count_of kind counts

abbrev pub CanHand : Handover → Type 0
CanHand h = IsPair h.kind h.driver h.counts h.number

abbrev pub handing_over : PairKind → ℕ → Counts → ℕ → ℕ × ℕ → Handover
handing_over kind driver counts number pair =
    record { kind = kind; driver = driver; counts = counts; number = number; pair = pair }

-- what a look-up asks: the bytes are the areas of grants, fewer than 2^32, and the pair is one of the driver
pub record CanLookUp (kind : PairKind) (driver : ℕ) (counts : Counts) (number : ℕ) (kernel : List ℕ) : Type 0 where
  pub laid : EncodesGrants kernel
  pub small : length kernel < 2 ^ 32
  pub pair : IsPair kind driver counts number

-- what a swap asks: these are the two parts of a block, and the pair is one of the driver
pub record CanSwap (h : Handover) (before : Parts) : Type 0 where
  pub parts : AreParts before
  pub pair : CanHand h

-- the pair that a process's bytes hold; (0, 0) where it has not entered the driver
abbrev pub held_pair : PairKind → ℕ → ℕ → List ℕ → ℕ × ℕ
held_pair kind driver number kernel = pair_of kind number (grant_of driver (decode_grants kernel))

-- a process's grants once the driver is entered and its pair is another
abbrev pub with_swapped_pair : Handover → List Grant → List Grant
with_swapped_pair h gs = with_grant h.driver (with_pair h.kind h.number h.pair) (entered h.driver gs)

-- a swap gives the former pair and stores the new one; all else is as it was
pub record Swaps (h : Handover) (before after : Parts) (answer : ℕ × ℕ) : Type 0 where
  pub former : answer ≡ held_pair h.kind h.driver h.number before.kernel
  pub layout : after.layout ≡ roomed h.driver before.layout (grant_of h.driver (decode_grants before.kernel))
  pub grants : Leaves before after (with_swapped_pair h (decode_grants before.kernel))

-- what comes of a swap: the pair is swapped exactly where the driver has a place; elsewhere nothing changes
pub record SwapOutcome (h : Handover) (before after : Parts) (result : Result (ℕ × ℕ) NoRoom) : Type 0 where
  pub room : is_ok result ≡ fits before.layout h.driver (grant_of h.driver (decode_grants before.kernel))
  pub swapped : IfOk result (Swaps h before after)
  pub refused : IfErr result (Refuses before.layout after.layout before.app after.app)
  pub kept : OnErr result (after.kernel ≡ before.kernel)

-- a swap where the driver is entered, of the kernel's bytes alone
pub record SwapsHeld (h : Handover) (kernel kernel' : List ℕ) (answer : ℕ × ℕ) : Type 0 where
  pub grant : Grant
  pub is : grant_of h.driver (decode_grants kernel) ≡ Some grant
  pub former : answer ≡ held_pair h.kind h.driver h.number kernel
  pub tells : Tells kernel' (with_grant h.driver (with_pair h.kind h.number h.pair) (decode_grants kernel))
