-- What a process hands to a driver: the upcalls that it subscribes and the buffers that it allows (TRD 104,
-- "Subscribe",
-- "Read-Only Allow", "Read-Write Allow"; the userspace-readable allow of Tock's kernel;
-- Levy et al., SOSP 2017, section 4).
use Rattle.std.specs.Prelude.{ℕ, ◌+◌, ◌-◌, ◌*◌, ◌/◌, ◌==◌, Bool, IsTrue, true, ◌||◌, max, nat_le, if◌then◌else◌, List}
use Rattle.std.specs.Prelude.{take, is_some}
use Rattle.tk_base.specs.declared.upcall.Upcall.{Upcall as Scheduled}
use Rattle.process_layout.specs.Bounds.{Bounds}
use Rattle.process_layout.specs.Interval.{lies_within}
use Rattle.upcall_queue.specs.Pending.{without_key}
use Rattle.tk_base.specs.declared.kinds.PairKind.{PairKind}
use Rattle.tk_base.specs.declared.kinds.PairKind.TheVariants.{Upcall, ReadOnly}
use Rattle.tk_base.specs.Kinds.{is_buffer}
use Rattle.grant_values.specs.Drivers.{cost_of}
use Rattle.grant_model.specs.Grants.{grant_of, with_grant, with_pair, pair_of, entered, shape_of}
use Rattle.process_model.specs.Own.{Own, kernel_break_of}

-- bytes from an address on lie in accessible RAM, or in accessible flash
abbrev pub lies_in_ram : Bounds → ℕ → ℕ → Bool
lies_in_ram e at size = lies_within e.start e.brk at size

-- so many bytes from an address on lie in accessible flash
abbrev pub lies_in_flash : Bounds → ℕ → ℕ → Bool
lies_in_flash e at size = lies_within e.flash_start e.flash_end at size

-- an address with bit 0 cleared
abbrev pub even : ℕ → ℕ
even at = at / 2 * 2

-- Whether a process may hand a pair: a function is the null upcall, or 4 bytes of it lie in accessible RAM or flash; a
-- buffer has no bytes, or all lie in accessible RAM, those of a read-only one in accessible RAM or flash. That a
-- function in RAM is taken, which cannot be executed and so faults when it runs, is this board's own rule: TRD 104,
-- "Subscribe", has one outside of executable memory refused.
abbrev pub may_share : PairKind → Bounds → ℕ × ℕ → Bool
may_share Upcall e pair = pair.0 == 0 || lies_in_ram e (even pair.0) 4 || lies_in_flash e (even pair.0) 4
may_share ReadOnly e pair = pair.1 == 0 || lies_in_ram e pair.0 pair.1 || lies_in_flash e pair.0 pair.1
may_share writable e pair = pair.1 == 0 || lies_in_ram e pair.0 pair.1

-- whether it may keep it: a buffer where it may hand it, an upcall wherever its function lies by now
abbrev pub may_keep : PairKind → Bounds → ℕ × ℕ → Bool
may_keep kind e pair = if is_buffer kind then may_share kind e pair else true

-- whether a driver is entered, or its grant fits between the break and the kernel break
abbrev pub has_place : ℕ → Own → Bool
has_place driver own =
    is_some (grant_of driver own.grants) || nat_le (own.layout.brk + cost_of (shape_of driver)) (kernel_break_of own)

-- a process once a driver has been entered: where it was not, its grant is made, fresh, from the bytes below the others
abbrev pub own_entering : ℕ → Own → Own
own_entering driver own =
    let o = record own { grants = entered driver own.grants } in
    record o { ram = take (kernel_break_of o - o.layout.start) own.ram }

-- the pair that a process has handed; (0, 0) at first
abbrev pub held : PairKind → ℕ → ℕ → Own → ℕ × ℕ
held kind driver number own = pair_of kind number (grant_of driver own.grants)

-- the break may not move below the end of a buffer in RAM that has bytes
abbrev pub raised : ℕ × ℕ → Bounds → Bounds
raised pair e =
    if pair.1 == 0 then e
    else (if lies_in_ram e pair.0 pair.1 then record e { mark = max e.mark (pair.0 + pair.1) } else e)

-- the layout once a pair was handed: a buffer in RAM that has bytes raises the mark to its end, an upcall does not
abbrev pub marked : PairKind → ℕ × ℕ → Bounds → Bounds
marked kind pair e = if is_buffer kind then raised pair e else e

-- another upcall of a driver and number takes the pending ones away
abbrev pub still_pending : PairKind → ℕ → ℕ → List Scheduled → List Scheduled
still_pending kind driver number pending = if is_buffer kind then pending else without_key driver number pending

-- a process that has handed a pair to a driver: the driver is entered, the pair is the new one, and all else stays
abbrev pub handing : PairKind → ℕ → ℕ → ℕ × ℕ → Own → Own
handing kind driver number pair own =
    let o = own_entering driver own in
    record o {
      layout = marked kind pair o.layout;
      grants = with_grant driver (with_pair kind number pair) o.grants;
      inbox = record o.inbox { pending = still_pending kind driver number o.inbox.pending };
    }

-- every buffer that a process has allowed a driver lies where it may still be allowed
pub record HoldsInPlace (own : Own) : Type 0 where
  pub each : (kind : PairKind) (driver number : ℕ) → IsTrue (may_keep kind own.layout (held kind driver number own))
