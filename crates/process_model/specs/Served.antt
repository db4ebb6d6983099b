-- What a driver does to a process that it serves: it schedules upcalls (TRD 104, "Subscribe", "Yield"), reads and
-- writes the buffers that the process has allowed (TRD 104, "Read-Only Allow", "Read-Write Allow"), and keeps a value
-- in the
-- process's grant (Levy et al., SOSP 2017, section 4).
use Rattle.std.specs.Prelude.{ℕ, ◌+◌, ◌-◌, if◌then◌else◌, List, map, take}
use Rattle.std.specs.Prelude.{slice_range, Option, None, Some, option_map}
use Rattle.std.specs.List.{range_with_len}
use Rattle.tk_base.specs.declared.upcall.Upcall.{Upcall as Scheduled}
use Rattle.upcall_queue.specs.Pending.{scheduled}
use Rattle.tk_base.specs.declared.kinds.PairKind.{PairKind}
use Rattle.tk_base.specs.declared.kinds.PairKind.TheVariants.{Upcall}
use Rattle.grant_values.specs.Values.{KeptValue}
use Rattle.grant_model.specs.Grants.{grant_of, with_grant, with_value}
use Rattle.process_model.specs.Own.{Own, with_inbox}
use Rattle.process_model.specs.Handed.{held, lies_in_ram}
use Rattle.tk_base.specs.Bytes.{over}

-- the upcall of a driver and number that a process now holds, with arguments
abbrev pub upcall_of : ℕ → ℕ → List ℕ → Own → Scheduled
upcall_of driver number args own =
    let pair = held Upcall driver number own in
    record { driver = driver; number = number; function = pair.0; app = pair.1; args = args }

-- a process for which the upcall was scheduled that it now holds
abbrev pub own_scheduled : ℕ → ℕ → List ℕ → Own → Own
own_scheduled driver number args own = with_inbox (scheduled (upcall_of driver number args own)) own

-- an upcall that a driver schedules for a process, by its number there, with arguments
pub record ScheduledUpcall : Type 0 where
  pub driver : ℕ
  pub number : ℕ
  pub args : List ℕ

-- a process for which an upcall was scheduled, if one was
abbrev pub own_scheduling : Option ScheduledUpcall → Own → Own
own_scheduling None own = own
own_scheduling (Some upcall) own = own_scheduled upcall.driver upcall.number upcall.args own

-- the value that a process keeps for a driver; none where the driver is not entered
abbrev pub kept : ℕ → Own → Option KeptValue
kept driver own = option_map (λ g. g.value) (grant_of driver own.grants)

-- a process that keeps another value for a driver
abbrev pub with_kept : ℕ → KeptValue → Own → Own
with_kept driver value own = record own { grants = with_grant driver (with_value value) own.grants }

-- the bytes of a process's own from an address on
abbrev pub ram_at : Own → ℕ × ℕ → List ℕ
ram_at own buffer = slice_range own.ram (buffer.0 - own.layout.start) (buffer.0 - own.layout.start + buffer.1)

-- the bytes of a buffer that may be read, which lies in accessible RAM, or in flash with these bytes by address
abbrev pub bytes_at : (ℕ → ℕ) → Own → ℕ × ℕ → List ℕ
bytes_at flash own buffer =
    if lies_in_ram own.layout buffer.0 buffer.1 then ram_at own buffer else map flash (range_with_len buffer.0 buffer.1)

-- those bytes that fit a buffer from an offset in it on
abbrev pub fitting : ℕ × ℕ → ℕ → List ℕ → List ℕ
fitting buffer offset bytes = take (buffer.1 - offset) bytes

-- a process in whose buffer bytes were written from an offset in it on, as many as fit
abbrev pub own_written : ℕ × ℕ → ℕ → List ℕ → Own → Own
own_written buffer offset bytes own =
    record own { ram = over own.ram (buffer.0 - own.layout.start + offset) (fitting buffer offset bytes) }

-- the same of the buffer of a kind and a number that the process has allowed a driver
abbrev pub with_written : PairKind → ℕ → ℕ → ℕ → List ℕ → Own → Own
with_written kind driver number offset bytes own = own_written (held kind driver number own) offset bytes own
