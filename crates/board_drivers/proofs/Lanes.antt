-- What stays of the devices' lanes.
use Rattle.std.proofs.Common.{◌≡◌, ◌≤◌, ℕ, ◌+◌, List, length, All, sym, ap, subst, ◌∙◌, arith}
use Rattle.std.proofs.lemmas.List.Elements.{All-weaker}
use Rattle.tk_base.specs.declared.limits.TheConstants.{BYTE_TICKS_LIMIT, SENDING_LIMIT}
use Rattle.board_devices.specs.SerialLine.{SerialLine}
use Rattle.board_devices.specs.Storage.{StoredSlots}
use Rattle.board_drivers.specs.declared.drivers.Drivers.{Drivers}
use Rattle.board_drivers.specs.Driven.{AreFreeSoon, HasLanes}

-- what is free soon at a time is so later
pub later_free : (time later : ℕ) (d : Drivers) → time ≤ later → AreFreeSoon time d → AreFreeSoon later d
later_free time later d h =
    All-weaker (λ (line : SerialLine). line.free ≤ time + SENDING_LIMIT) (λ line. line.free ≤ later + SENDING_LIMIT)
    (λ line f. omega (arith, h, f)) d.uarts

-- counts that are no more than a number are no more than a greater one
pub few_still : (steps later : ℕ) (counts : List ℕ) → steps ≤ later → All (λ count. count ≤ steps) counts
    → All (λ count. count ≤ later) counts
few_still steps later counts h =
    All-weaker (λ (count : ℕ). count ≤ steps) (λ count. count ≤ later) (λ count f. omega (arith, h, f)) counts

-- drivers with the same lines, words and storage have the same lanes
pub same_lanes : (window : ℕ) (old new : Drivers) → new.uarts ≡ old.uarts → new.words ≡ old.words
    → new.stores ≡ old.stores → HasLanes window old → HasLanes window new
same_lanes window old new uarts words stores h = record {
  lines = ap length uarts ∙ h.lines;
  words = ap length words ∙ h.words;
  served = ap (λ (s : StoredSlots). length s.served) stores ∙ h.served;
}

-- and take as long for a byte, and are free as they were
pub same_ticks : (old new : Drivers) → new.uarts ≡ old.uarts → All (λ line. line.ticks ≤ BYTE_TICKS_LIMIT) old.uarts
    → All (λ line. line.ticks ≤ BYTE_TICKS_LIMIT) new.uarts
same_ticks old new uarts = subst (All (λ (line : SerialLine). line.ticks ≤ BYTE_TICKS_LIMIT)) (sym uarts)

pub same_free : (time : ℕ) (old new : Drivers) → new.uarts ≡ old.uarts → AreFreeSoon time old → AreFreeSoon time new
same_free time old new uarts = subst (All (λ (line : SerialLine). line.free ≤ time + SENDING_LIMIT)) (sym uarts)
