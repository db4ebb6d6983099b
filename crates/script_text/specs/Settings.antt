-- What a script says. It is this board's own.
use Rattle.std.specs.Prelude.{◌≡◌, ℕ, ◌+◌, ◌<◌, ◌≤◌, ◌&&◌, nat_le, not, Bool, true, List, length, map, position}
use Rattle.std.specs.Prelude.{slice_index, is_none}
use Rattle.std.specs.List.{All}
use Rattle.tk_base.specs.declared.limits.TheConstants.{BUTTON_LIMIT, BYTE_TICKS_LIMIT, EVENT_LIMIT, FAULT_LIMIT}
use Rattle.tk_base.specs.declared.limits.TheConstants.{INPUT_LIMIT, LED_LIMIT, NAME_LIMIT, SLICE_LIMIT}
use Rattle.tk_base.specs.declared.limits.TheConstants.{STORAGE_LIMIT, WINDOW_LIMIT, WORD_LIMIT}
use Rattle.tk_base.specs.declared.process.Verb.{Verb}
use Rattle.fault_policy.specs.declared.Policy.{Policy}
use Rattle.tk_base.specs.Limits.{IsRamSize}

-- what comes at a time: bytes that the serial line gets; a button that is pressed, or released; an operator's act on
-- the process of a name
pub data EventKind : Type 0 where
  Input : (bytes : List ℕ) → EventKind
  Press : (button : ℕ) → EventKind
  Release : (button : ℕ) → EventKind
  Act : (verb : Verb) (name : List ℕ) → EventKind

-- what comes, and when
pub record ScriptEvent : Type 0 where
  pub time : ℕ
  pub kind : EventKind

-- what a script says, each setting by its line or by its default
pub record ScriptSettings : Type 0 where
  -- the bytes of RAM that the board has
  pub ram : ℕ
  -- the number of LEDs
  pub leds : ℕ
  -- the number of buttons
  pub buttons : ℕ
  -- how many turns a process has before the next one
  pub slice : ℕ
  -- the ticks that the window of each slot has, or 0: there are no time partitions
  pub partition : ℕ
  -- where the alarm's clock starts
  pub start : ℕ
  -- the ticks that the serial line takes for a byte
  pub uart : ℕ
  -- the bytes of storage of each slot
  pub storage : ℕ
  pub policy : Policy
  -- whether a process without the Permissions element may give no command, subscribe or allow
  pub strict : Bool
  -- the numbers of the storage requests that fail, counted from 1
  pub faults : List ℕ
  -- the words that the source of random words gives
  pub words : List ℕ
  pub events : List ScriptEvent

-- each number is above the one before it
abbrev pub Rises : List ℕ → Type 0
Rises xs = (i : ℕ) → i + 1 < length xs → slice_index xs i < slice_index xs (i + 1)

-- no number is below the one before it
abbrev pub NeverFalls : List ℕ → Type 0
NeverFalls xs = (i : ℕ) → i + 1 < length xs → slice_index xs i ≤ slice_index xs (i + 1)

-- numbers from 1 on, not too many, which rise
pub record AreFaults (faults : List ℕ) : Type 0 where
  pub few : length faults ≤ FAULT_LIMIT
  pub least : All (λ k. 1 ≤ k) faults
  pub rising : Rises faults

-- the name of a process as an operator writes it: visible characters of ASCII, some but not too many
abbrev pub is_name : List ℕ → Bool
is_name name =
    nat_le 1 (length name) && (nat_le (length name) NAME_LIMIT
    && is_none (position (λ byte. not (nat_le 0x21 byte && nat_le byte 0x7e)) name))

-- on a board with so many buttons: 1 byte at least comes in, and not too many; a button is one of those; a name is one
abbrev pub IsKind : ℕ → EventKind → Type 0
IsKind buttons (Input bytes) = (1 ≤ length bytes) × (length bytes ≤ INPUT_LIMIT)
IsKind buttons (Press button) = button < buttons
IsKind buttons (Release button) = button < buttons
IsKind buttons (Act verb name) = is_name name ≡ true

-- what comes at the time of each event is of a kind that a board with so many buttons has
abbrev pub EachIsKind : ℕ → List ScriptEvent → Type 0
EachIsKind buttons events = All (λ e. IsKind buttons e.kind) events

-- the events of a board with so many buttons, not too many, whose times never fall
pub record AreEvents (buttons : ℕ) (events : List ScriptEvent) : Type 0 where
  pub few : length events ≤ EVENT_LIMIT
  pub in_time : NeverFalls (map (λ e. e.time) events)
  pub kinds : EachIsKind buttons events

-- every setting is in its range, and every list in its order and within its limit
pub record AreSound (s : ScriptSettings) : Type 0 where
  pub ram : IsRamSize s.ram
  pub leds : s.leds ≤ LED_LIMIT
  pub buttons : s.buttons ≤ BUTTON_LIMIT
  pub slice_least : 1 ≤ s.slice
  pub slice_most : s.slice ≤ SLICE_LIMIT
  pub partition : s.partition ≤ WINDOW_LIMIT
  pub uart : s.uart ≤ BYTE_TICKS_LIMIT
  pub storage : s.storage ≤ STORAGE_LIMIT
  pub faults : AreFaults s.faults
  pub words : length s.words ≤ WORD_LIMIT
  pub events : AreEvents s.buttons s.events
