-- A process with its own object (Levy et al., SOSP 2017; Tock Binary Format, "Main" and "Program").
use Rattle.std.specs.Prelude.{◌≡◌, ℕ, ◌+◌, ◌^◌, ◌<◌, ◌≤◌, List, length, Option, None, Some}
use Rattle.std.specs.Prelude.{Result, Ok, Err, IsOk}
use Rattle.tk_base.specs.declared.access.TheConstants.{FLASH_START}
use Rattle.tbf_headers.specs.declared.fault.HeaderFault.{HeaderFault}
use Rattle.tbf_headers.specs.declared.app.AppStart.{AppStart}
use Rattle.tbf_headers.specs.declared.program.Main.{Main}
use Rattle.tbf_headers.specs.Meaning.{Meaning, header_reading}
use Rattle.tbf_headers.specs.Addresses.{after_protected, entry_of, start_by}
use Rattle.process_layout.specs.LayoutView.{first_break}
use Rattle.process_layout.specs.Bounds.{Bounds}
use Rattle.process_model.specs.Own.{Own}
use Rattle.process_model.specs.Flash.{HasObject, object_in}
use Rattle.process_model.specs.declared.place.Object.{Object}
use Rattle.process_record.specs.declared.process.Process.{Process}
use Rattle.process_record.specs.Process.{is_alive}

-- an application's start has addresses below 2^32, and its block holds the RAM that it needs at least
pub record CanStart (address : ℕ) (e : Bounds) (h : Meaning) (m : Main) : Type 0 where
  pub entry : entry_of address h m < 2 ^ 32
  pub protected : after_protected address h m < 2 ^ 32
  pub fits : first_break e.start m.minimum_ram ≤ e.end

-- a header with a Program or a Main TLV
abbrev pub HasStart : ℕ → Bounds → Meaning → Option Main → Type 0
HasStart address e h None = ⊥
HasStart address e h (Some m) = CanStart address e h m

-- the bytes of an object at an address are those of an application that can start
abbrev pub IsApplication : ℕ → Bounds → Result Meaning HeaderFault → Type 0
IsApplication address e (Err fault) = ⊥
IsApplication address e (Ok h) = HasStart address e h h.main

-- the object lies in flash, and its header has no fault
pub record HasHeader (flash : List ℕ) (object : Object) : Type 0 where
  pub from : FLASH_START ≤ object.address
  pub to : object.address + object.size ≤ FLASH_START + length flash
  pub read : IsOk (header_reading (object_in flash object))

-- where the application starts whose object has these bytes and stands at an address, as its header says
pub record StartsAs (bytes : List ℕ) (at : ℕ) (start : AppStart) : Type 0 where
  pub h : Meaning
  pub m : Main
  pub read : header_reading bytes ≡ Ok h
  pub main : h.main ≡ Some m
  pub is : start ≡ start_by at h m

-- the object lies in flash, holds the accessible flash, and is an application that can start
pub record IsOwnObject (flash : List ℕ) (object : Object) (e : Bounds) : Type 0 where
  pub lies : HasObject (length flash) object e
  pub application : IsApplication object.address e (header_reading (object_in flash object))

-- a process with its own object and what is kept of it: it lives exactly while it runs or waits
pub record IsOwn (flash : List ℕ) (process : Process) (own : Own) : Type 0 where
  pub object : IsOwnObject flash process.object own.layout
  pub object_is : own.object ≡ process.object
  pub lives : own.lives ≡ is_alive process.state

-- no call moves a process's object or is a turn; one may start the process again
pub record KeepsObject (p q : Process) : Type 0 where
  pub object : q.object ≡ p.object
  pub turns : q.turns ≡ p.turns
  pub restarts : q.restarts ≤ p.restarts + 1

-- a call begins at most one life
abbrev pub LivesOn : Own → Own → Type 0
LivesOn old new = new.life ≤ old.life + 1
