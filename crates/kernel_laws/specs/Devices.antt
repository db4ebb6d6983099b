-- That a device speaks by its own events, and changes its own. Which devices there are is this board's own rule.
use Rattle.std.specs.Prelude.{◌≡◌, ◌⊎◌, ℕ, Bool, true, List, drop, slice_index_or, slice_set, All}
use Rattle.tk_base.specs.declared.process.Choice.TheVariants.{Device}
use Rattle.tk_base.specs.declared.process.Dev.{Dev}
use Rattle.tk_base.specs.declared.process.Dev.TheVariants as dev
use Rattle.tk_base.specs.declared.process.Verb.{Verb}
use Rattle.board_devices.specs.SerialLine.{line_at}
use Rattle.kernel_model.specs.Named.{words_in}
use Rattle.kernel_model.specs.Turn.{Act, Alarmed, Edge, Event, Input, NoWord, Stored, Taken, Word, WriteDone}
use Rattle.kernel_model.specs.World.{Devices, Label, World, after, is_ready, labels, lane_in}

-- The events by which a device speaks to a process. What comes in does so of an edge of a button, or of an operator's
-- act.
abbrev pub SpeaksSo : Dev → Event → Type 0
SpeaksSo dev.Event event = ((button : ℕ) × (pressed : Bool) × (event ≡ Edge button pressed))
    ⊎ ((verb : Verb) × (event ≡ Act verb))
SpeaksSo dev.Alarm event = (now : ℕ) × (event ≡ Alarmed now)
SpeaksSo dev.Uart event = (event ≡ Taken) ⊎ (event ≡ WriteDone)
SpeaksSo dev.Receive event = (bytes : List ℕ) × (event ≡ Input bytes)
SpeaksSo dev.Random event = ((word : ℕ) × (event ≡ Word word)) ⊎ (event ≡ NoWord)
SpeaksSo dev.Store event = (moved : Bool) × (event ≡ Stored moved)

-- What a device's step leaves of what the devices hold, in the lane that serves: the queue of the device and its own
-- part of that lane may be others, and all else is as it was. Of an alarm nothing is. What comes in is the first of
-- what is still to come, and nothing else of that changes; bytes that come in change the rings of the lines alone; an
-- act of an operator who waits.
abbrev pub KeepsOthers : Dev → ℕ → Devices → Devices → Type 0
KeepsOthers dev.Event lane d e = (e ≡ record d { arrivals = drop 1 d.arrivals; lines = e.lines; waiting = e.waiting })
    × ((other : ℕ) → line_at other e.lines ≡ record (line_at other d.lines) { ring = (line_at other e.lines).ring })
KeepsOthers dev.Alarm lane d e = e ≡ d
KeepsOthers dev.Uart lane d e = e ≡ record d {
  waiting = record d.waiting { writes = e.waiting.writes };
  lines = slice_set d.lines lane (record (line_at lane d.lines) { free = (line_at lane e.lines).free });
}
KeepsOthers dev.Receive lane d e = e ≡ record d {
  waiting = record d.waiting { reads = e.waiting.reads };
  lines = slice_set d.lines lane (record (line_at lane d.lines) { ring = (line_at lane e.lines).ring });
}
KeepsOthers dev.Random lane d e = e ≡ record d {
  waiting = record d.waiting { randoms = e.waiting.randoms };
  words = slice_set d.words lane (words_in lane e);
}
KeepsOthers dev.Store lane d e = e ≡ record d {
  waiting = record d.waiting { stores = e.waiting.stores };
  served = slice_set d.served lane (slice_index_or e.served lane 0);
}

-- A step of a device from one world to another, and what it tells: it speaks by the events of that device alone, and
-- changes what the devices hold in that device's part alone.
pub record ChangesItsOwn (device : Dev) (w v : World) (told : List Label) : Type 0 where
  pub speaks : All (λ label. SpeaksSo device label.event) told
  pub devices : KeepsOthers device (lane_in w) w.devices v.devices

-- so does each device's step that is made, in every world
abbrev pub DevicesChangeTheirOwn : Type 0
DevicesChangeTheirOwn = (w : World) (device : Dev) → is_ready w (Device device) ≡ true →
    ChangesItsOwn device w (after w (Device device)) (labels w (Device device))
