-- What a process handed to drivers, as the labels of its turns and of an operator's acts tell it (TRD 104, "Subscribe",
-- "Read-Only Allow", "Read-Write Allow"): each swap gives back the pair of the last one.
use Rattle.std.specs.Prelude.{◌≡◌, ℕ, ◌==◌, Bool, false, ◌&&◌, ◌||◌, if◌then◌else◌, List, [], ◌∷◌, ◌++◌, reverse}
use Rattle.std.specs.Prelude.{slice_get, slice_index, Option, None, Some, is_some, is_none, option_and_then, unwrap_or}
use Rattle.std.specs.Prelude.{IfSome, option_map}
use Rattle.std.specs.List.{flat_map, list_any}
use Rattle.tk_base.specs.declared.process.Choice.{Choice}
use Rattle.tk_base.specs.declared.process.Choice.TheVariants.{Run}
use Rattle.tk_base.specs.declared.kinds.PairKind.{PairKind}
use Rattle.tk_base.specs.declared.kinds.PairKind.TheVariants.{Upcall, ReadOnly, ReadWrite, Readable}
use Rattle.process_record.specs.declared.emit.CallMade.{CallMade}
use Rattle.process_record.specs.Operator.{ends_by}
use Rattle.kernel_model.specs.Record.{Record}
use Rattle.kernel_model.specs.Turn.{Act, Event, TurnTrace, is_turn}
use Rattle.kernel_model.specs.World.{World, Label, after, labels, turn_label}
use Rattle.kernel_model.specs.Replay.{after_all, events}
use Rattle.kernel_model.specs.Laws.{CanStartAgain}

-- what a label tells of a turn of the process in a slot
abbrev pub turns_in : ℕ → Label → List TurnTrace
turns_in slot label = if is_turn label.event && label.slot == slot then label.trace ∷ [] else []

-- whether what happened to a process, if there was one with this record, is an operator's act that ended a life of it
abbrev pub is_end : Option Record → Event → Bool
is_end o (Act verb) = unwrap_or (option_map (λ r. ends_by verb r.process) o) false
is_end o other = false

-- whether an operator's act ends a life of the process in a slot in a step
abbrev pub is_ended_in : ℕ → World → Choice → Bool
is_ended_in slot w choice = list_any (is_end (slice_get w.records slot)) (events slot w choice)

-- what its turns told since an operator last ended a life of it, if one did, the latest first: after a step, where
-- these were told before it
abbrev pub told_after : ℕ → World → Choice → List TurnTrace → List TurnTrace
told_after slot w choice past =
    if is_ended_in slot w choice then [] else reverse (flat_map (turns_in slot) (labels w choice)) ++ past

-- and after some choices, one after another
abbrev pub turns_since : ℕ → World → List Choice → List TurnTrace → List TurnTrace
turns_since slot w [] past = past
turns_since slot w (choice ∷ choices) past = turns_since slot (after w choice) choices (told_after slot w choice past)

-- what a process hands a driver: an upcall, a read-only, a read-write or a readable buffer, by its number
pub record PairKey : Type 0 where
  pub kind : PairKind
  pub driver : ℕ
  pub number : ℕ

-- the class of the call that swaps it: subscribe, read-only allow, read-write allow, userspace-readable allow
abbrev pub class_of : PairKind → ℕ
class_of Upcall = 1
class_of ReadOnly = 4
class_of ReadWrite = 3
class_of Readable = 7

-- whether a call is a swap of a key
abbrev pub is_swap : PairKey → CallMade → Bool
is_swap key made =
    made.class == class_of key.kind
    && (slice_index made.args 0 == key.driver && slice_index made.args 1 == key.number)

-- the pair that a call handed over for a key, if it is a swap of it and broke no rule: its last two arguments
abbrev pub handed_by : PairKey → CallMade → Option (ℕ × ℕ)
handed_by key made =
    if is_swap key made && is_none made.rule then Some (slice_index made.args 2, slice_index made.args 3) else None

-- whether a turn ended a life of its process: by a denial, whatever the fault policy makes of it; or by an exit that
-- broke no rule, after which the process has ended or starts again (TRD 104, "Exit")
abbrev pub ends_life : TurnTrace → Bool
ends_life told =
    is_some told.denial || unwrap_or (option_map (λ made. made.class == 6 && is_none made.rule) told.call) false

-- The pair of the last swap of a key that succeeded in the present life, looking back over a process's turns, the
-- latest first; (0, 0) where there was none. An operator's act that ends a life leaves none of the turns before it.
abbrev pub last_pair : PairKey → List TurnTrace → ℕ × ℕ
last_pair key [] = (0, 0)
last_pair key (told ∷ earlier) =
    if ends_life told then (0, 0)
    else unwrap_or (option_and_then (handed_by key) told.call) (last_pair key earlier)

-- a process that has handed nothing yet, with the object of an application, so that it can start again
pub record HandedNothing (r : Record) : Type 0 where
  pub grants : r.own.grants ≡ []
  pub pending : r.own.inbox.pending ≡ []
  pub application : CanStartAgain r

-- the words of the reply to a swap that succeeded: the variant of a success with two words, the pair that it gives
-- back, and in a3 still the second word of the pair that was handed (TRD 104, "Return Values")
abbrev pub swap_reply : ℕ × ℕ → ℕ × ℕ → List ℕ
swap_reply former pair = 130 ∷ former.0 ∷ former.1 ∷ pair.1 ∷ []

-- the reply of a call that hands over a pair for a key is the pair that was last handed over for it in some turns, or
-- (0, 0)
abbrev pub GivesBack : PairKey → List TurnTrace → ℕ × ℕ → CallMade → Type 0
GivesBack key past pair made = made.reply ≡ Some (swap_reply (last_pair key past) pair)

-- Of a world and a slot: any choices are made, and then the slot's process has a turn. If in this turn it makes a call
-- that hands over a pair for a key, then the reply is the pair that it last handed over for that key in its present
-- life, or (0, 0).
abbrev pub GivesBackTheLast : World → ℕ → Type 0
GivesBackTheLast w slot =
    (choices : List Choice) (time : ℕ) (told : TurnTrace) (made : CallMade) (key : PairKey) (pair : ℕ × ℕ) →
    labels (after_all w choices) (Run slot) ≡ turn_label slot time told ∷ [] →
    told.call ≡ Some made → handed_by key made ≡ Some pair →
    GivesBack key (turns_since slot w choices []) pair made

-- so it is where the process had handed nothing yet
abbrev pub SwapsGiveBackTheLast : Type 0
SwapsGiveBackTheLast =
    (w : World) (slot : ℕ) → IfSome (slice_get w.records slot) HandedNothing → GivesBackTheLast w slot
