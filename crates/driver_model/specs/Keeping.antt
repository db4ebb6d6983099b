-- What drivers keep of a process, whatever they do to it: where it lies, the order of its memory, and how many upcalls
-- wait at most. The order is that of Levy et al., SOSP 2017, section 4; the limit is this board's own rule.
use Rattle.std.specs.Prelude.{◌≡◌, ◌≤◌, ◌<◌, ℕ, ◌+◌, ◌-◌, IsTrue, length, true}
use Rattle.tk_base.specs.declared.limits.TheConstants.{PENDING_LIMIT}
use Rattle.grant_model.specs.Grants.{costs, shape_of}
use Rattle.tk_base.specs.declared.kinds.PairKind.{PairKind}
use Rattle.process_model.specs.Own.{Own, kernel_break_of}
use Rattle.tk_base.specs.Kinds.{count_of}
use Rattle.process_model.specs.Handed.{HoldsInPlace, handing, has_place, may_share}
use Rattle.process_model.specs.Changes.{IsWhole}
use Rattle.process_model.specs.Pairs.{HasShape}
use Rattle.driver_model.specs.Laws.{StaysInPlace}
use Rattle.driver_model.specs.Services.{OfEachService}

-- The places of a process's memory stand in their order: the start of the block, the mark below which the break may not
-- move, and the break; and above it the grants of the drivers that were entered have room (Levy et al., SOSP 2017).
pub record IsInOrder (own : Own) : Type 0 where
  pub mark : own.layout.start ≤ own.layout.mark
  pub brk : own.layout.mark ≤ own.layout.brk
  pub grants : own.layout.brk + costs own.grants ≤ own.layout.end

abbrev pub KeepsOrder : Own → Own → Type 0
KeepsOrder own o = IsInOrder own → IsInOrder o

-- so many upcalls wait at most, and one is dropped only where as many wait
pub record KeepsLimit (own o : Own) : Type 0 where
  pub limit : length own.inbox.pending ≤ PENDING_LIMIT → length o.inbox.pending ≤ PENDING_LIMIT
  pub room : length own.inbox.pending < PENDING_LIMIT → o.inbox.dropped ≡ own.inbox.dropped

-- a pair that is handed leaves where a process lies, its life, that it lives, its break and its dropped upcalls
abbrev pub HandsInPlace : Own → Own → Type 0
HandsInPlace own o = o ≡ record own {
  layout = record own.layout { mark = o.layout.mark };
  ram = o.ram;
  grants = o.grants;
  inbox = record own.inbox { pending = o.inbox.pending };
}

-- So it is after each command, whichever driver takes it, and after each answer of a device. Memory stays in order
-- where a pair is handed to a driver that has a place.
pub record DriversKeep : Type 0 where
  pub places : OfEachService StaysInPlace
  pub order : OfEachService KeepsOrder
  pub limit : OfEachService KeepsLimit
  pub handed : (kind : PairKind) (driver number : ℕ) (pair : ℕ × ℕ) (own : Own) → has_place driver own ≡ true →
      KeepsOrder own (handing kind driver number pair own)
  pub handed_places : (kind : PairKind) (driver number : ℕ) (pair : ℕ × ℕ) (own : Own) →
      HandsInPlace own (handing kind driver number pair own)

-- each buffer that a process has allowed lies where it might be allowed if accessible RAM ended at the mark
abbrev pub HoldsBelowMark : Own → Type 0
HoldsBelowMark own = HoldsInPlace (record own { layout = record own.layout { brk = own.layout.mark } })

-- A process's own in order, and whole: its bytes end at the kernel break, where its grants begin; each buffer with
-- bytes that it has allowed lies in its RAM below the mark, or, a read-only one, there or in accessible flash; it has
-- as many pairs as its drivers have numbers.
pub record IsSettled (own : Own) : Type 0 where
  pub order : IsInOrder own
  pub bytes : length own.ram ≡ kernel_break_of own - own.layout.start
  pub buffers : HoldsBelowMark own
  pub shape : HasShape own

abbrev pub KeepsSettled : Own → Own → Type 0
KeepsSettled own o = IsSettled own → IsSettled o

-- So it is after each command and each answer, and where a pair is handed that may be. What is settled is whole.
pub record DriversKeepSettled : Type 0 where
  pub services : OfEachService KeepsSettled
  pub handed : (kind : PairKind) (driver number : ℕ) (pair : ℕ × ℕ) (own : Own) → has_place driver own ≡ true →
      IsTrue (may_share kind own.layout pair) → number < count_of kind (shape_of driver) →
      KeepsSettled own (handing kind driver number pair own)
  pub whole : (own : Own) → IsSettled own → IsWhole own
