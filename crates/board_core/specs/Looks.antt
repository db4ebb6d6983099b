-- What there is to see of a board beside the records: who waits for a device.
use Rattle.std.specs.Prelude.{◌≡◌, ℕ, true, List, [], Some, slice_get}
use Rattle.tk_base.specs.declared.process.Dev.{Dev}
use Rattle.tk_base.specs.declared.process.Dev.TheVariants.{Event, Alarm, Uart, Receive, Random, Store}
use Rattle.tk_base.specs.declared.process.ProcessId.{ProcessId}
use Rattle.driver_model.specs.Commands.{Writes, Reads, Randoms, Stores}
use Rattle.kernel_model.specs.Record.{Record}
use Rattle.kernel_model.specs.World.{Devices, World}
use Rattle.kernel_model.specs.Named.{slots_in}

-- the slots whose processes wait for a device step, the first one first
abbrev pub waiting_for : Devices → Dev → List ℕ
waiting_for d Event = []
waiting_for d Alarm = []
waiting_for d Uart = slots_in Writes d.waiting
waiting_for d Receive = slots_in Reads d.waiting
waiting_for d Random = slots_in Randoms d.waiting
waiting_for d Store = slots_in Stores d.waiting

-- a process that lives in the slot of an id, in the life of the id
pub record LivesThere (w : World) (id : ProcessId) : Type 0 where
  pub there : Record
  pub is_there : slice_get w.records id.slot ≡ Some there
  pub lives : there.own.lives ≡ true
  pub life : there.own.life ≡ id.life
