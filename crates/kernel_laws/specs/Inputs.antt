-- That input is kept, which is this board's own rule: what comes in on the serial line is read in its order, and lost
-- only where a ring overflows.
use Rattle.std.specs.Prelude.{◌≡◌, ◌⊎◌, ◌≤◌, ◌<◌, ℕ, ◌+◌, ◌-◌, List, [], ◌∷◌, ◌++◌, drop, length, option_to_list}
use Rattle.std.specs.List.{flat_map}
use Rattle.tk_base.specs.declared.limits.TheConstants.{RING_SIZE}
use Rattle.tk_base.specs.declared.process.Choice.{Choice}
use Rattle.script_text.specs.Settings.{ScriptEvent as Arrival, EventKind}
use Rattle.script_text.specs.Settings as script
use Rattle.board_devices.specs.SerialLine.{line_at}
use Rattle.kernel_model.specs.Choices.{Throughout, labels_of_all}
use Rattle.kernel_model.specs.Edges.{arrival_in, arrivals_in}
use Rattle.kernel_model.specs.Replay.{after_all}
use Rattle.kernel_model.specs.Turn.{Event, Input}
use Rattle.kernel_model.specs.World.{Devices, Label, World, after, labels}
use Rattle.kernel_laws.specs.Words.{of_lane}

-- the bytes that come in on the serial line by a script event; none by a button or an operator
abbrev pub bytes_in : EventKind → List ℕ
bytes_in (script.Input bytes) = bytes
bytes_in other = []

-- and by some of them, one after another
abbrev pub bytes_arriving : List Arrival → List ℕ
bytes_arriving arrivals = flat_map (λ arrival. bytes_in arrival.kind) arrivals

-- the bytes that an answer gives to a read
abbrev pub input_in : Event → List ℕ
input_in (Input bytes) = bytes
input_in other = []

-- those that a label tells its process
abbrev pub input_told : Label → List ℕ
input_told label = input_in label.event

-- all that steps tell, in order, whichever processes they are told
abbrev pub inputs_told : List Label → List ℕ
inputs_told labels = flat_map input_told labels

-- the bytes that came in on a lane and were not read, the oldest first
abbrev pub ring_in : ℕ → Devices → List ℕ
ring_in lane d = (line_at lane d.lines).ring

-- some bytes are what is left of others once some of these are taken out
abbrev pub IsSubsequence : List ℕ → List ℕ → Type 0
IsSubsequence xs [] = xs ≡ []
IsSubsequence xs (y ∷ ys) = IsSubsequence xs ys ⊎ ((rest : List ℕ) × ((xs ≡ y ∷ rest) × IsSubsequence rest ys))

-- Of bytes that stood in a ring, and then bytes that came in: what was read, and then what is left in the ring, is what
-- remains of them; and it is all of them where something holds.
pub record KeepsInput (before arrived read left : List ℕ) (Roomy : Type 0) : Type 0 where
  pub kept : IsSubsequence (read ++ left) (before ++ arrived)
  pub whole : Roomy → read ++ left ≡ before ++ arrived

-- the ring of a lane has room for what comes in by a step
abbrev pub HasRoom : ℕ → World → Choice → Type 0
HasRoom lane w choice =
    length (ring_in lane w.devices) + length (bytes_arriving (option_to_list (arrival_in w choice))) ≤ RING_SIZE

-- the lane is there, and so it is in each of some steps
abbrev pub NeverOverflows : ℕ → World → List Choice → Type 0
NeverOverflows lane w choices = (lane < length w.devices.lines) × Throughout (HasRoom lane) w choices

-- Whatever choices are made, in each lane: what its processes are told of input, in that order, and then what is left
-- in the ring, is what remains of what stood in it and of what came in by these choices, in its order; and it is all of
-- that where the ring never overflowed. So no byte is read twice, and none before one that came in earlier.
abbrev pub InputIsKept : Type 0
InputIsKept = (w : World) (choices : List Choice) (lane : ℕ) →
    let v = after_all w choices in
    KeepsInput (ring_in lane w.devices) (bytes_arriving (arrivals_in w choices))
    (inputs_told (of_lane w.pace.window lane (labels_of_all w choices))) (ring_in lane v.devices)
    (NeverOverflows lane w choices)

-- the last so many of some bytes
abbrev pub last_of : ℕ → List ℕ → List ℕ
last_of n bytes = drop (length bytes - n) bytes

-- Of a ring before a step, of what came in and what was read by it, and of the ring later: what was read, and then what
-- is in the ring later, is the last of what stood there and of what came in, as many bytes as a ring holds; and it
-- holds no more. So what an overflow loses is the oldest, and no more of it than there is no room for.
pub record IsTheLast (before came read later : List ℕ) : Type 0 where
  pub is : read ++ later ≡ last_of RING_SIZE (before ++ came)
  pub few : length later ≤ RING_SIZE

-- so a step leaves the ring of a lane
abbrev pub RingHasTheLast : ℕ → World → Choice → Type 0
RingHasTheLast lane w choice =
    IsTheLast (ring_in lane w.devices) (bytes_arriving (option_to_list (arrival_in w choice)))
    (inputs_told (of_lane w.pace.window lane (labels w choice))) (ring_in lane (after w choice).devices)

-- Whatever choices are made, where the ring of a lane that is there held no more than it may: each of these steps
-- leaves it so.
abbrev pub RingsHaveTheLast : Type 0
RingsHaveTheLast = (w : World) (choices : List Choice) (lane : ℕ) → lane < length w.devices.lines →
    length (ring_in lane w.devices) ≤ RING_SIZE → Throughout (RingHasTheLast lane) w choices
