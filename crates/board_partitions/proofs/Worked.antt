-- A worked case, computed from the definitions alone: two images, under one script with time partitions, with the same
-- object in slot 0 and other ones in slot 1, so that the laws of what a slot sees do not hold for want of two. The
-- bytes were put together by hand from the Tock Binary Format, "TBF Header Base" and "Main".
use Rattle.std.proofs.Common.{◌≡◌, ℕ, List, [], ◌∷◌, ◌++◌, true, false, slice_get, unwrap_or, refl, sym, ◌∙◌, arith}
use Rattle.std.proofs.Common.{ap, length}
use Rattle.std.proofs.Common.{Option, None, Some, is_some}
use Rattle.tk_base.specs.declared.access.TheConstants.{FLASH_START}
use Rattle.tk_base.specs.declared.process.Verb.TheVariants.{Stop as StopIt}
use Rattle.std.proofs.lemmas.List.Elements.{All-nil}
use Rattle.fault_policy.specs.declared.Policy.TheVariants.{Stop}
use Rattle.tbf_headers.specs.Meaning.{header_reading, meaning_of}
use Rattle.tbf_headers.specs.Tlv.{tlv_places_from}
use Rattle.flash_walk.specs.Image.{found_at, objects_from}
use Rattle.app_placement.specs.Placement.{place_of, places_from}
use Rattle.process_record.specs.Parts.{cleared}
use Rattle.script_text.specs.Settings.{ScriptSettings as Script}
use Rattle.script_text.specs.Settings as script
use Rattle.kernel_model.specs.Record.{Record}
use Rattle.kernel_model.specs.Worked.{standing}
use Rattle.kernel_model.specs.Turn.{untraced}
use Rattle.kernel_model.specs.World.{World, turn_label}
use Rattle.kernel_partitions.specs.Alike.{IsNoAct}
use Rattle.kernel_partitions.specs.Moments.{Moment}
use Rattle.kernel_partitions.specs.Partitions.{AreAlikeUpTo}
use Rattle.board_opening.specs.Opening.{opening, opening_record}
use Rattle.board_partitions.specs.Boot.{OpenSameObject, StartsAtItsShare}

-- an application of one instruction, which asks for 8 bytes of RAM: its header, and then the instruction
abbrev application : List ℕ → List ℕ
application instruction =
    2 ∷ 0 ∷ 32 ∷ 0 ∷ 36 ∷ 0 ∷ 0 ∷ 0 ∷ 1 ∷ 0 ∷ 0 ∷ 0 ∷ 46 ∷ 0 ∷ 44 ∷ 0
    ∷ 1 ∷ 0 ∷ 12 ∷ 0 ∷ 0 ∷ 0 ∷ 0 ∷ 0 ∷ 0 ∷ 0 ∷ 0 ∷ 0 ∷ 8 ∷ 0 ∷ 0 ∷ 0
    ∷ instruction

-- an `ecall`, and an `ebreak`
abbrev calls : List ℕ
calls = application (0x73 ∷ 0 ∷ 0 ∷ 0 ∷ [])

abbrev breaks : List ℕ
breaks = application (0x73 ∷ 0 ∷ 0x10 ∷ 0 ∷ [])

-- both images begin with the one that calls, and only the first one has another one that does
abbrev flash : List ℕ
flash = calls ++ calls

abbrev image : List ℕ
image = calls ++ breaks

-- windows of 100 ticks, and shares of 4,096 bytes
abbrev divides : Script
divides = record {
  ram = 65536;
  leds = 0;
  buttons = 0;
  slice = 1;
  partition = 100;
  start = 0;
  uart = 1;
  storage = 0;
  policy = Stop;
  strict = false;
  faults = [];
  words = [];
  events = [];
}

-- the process that is opened in a slot
abbrev opened_in : World → ℕ → Record
opened_in w slot = unwrap_or (slice_get w.records slot) (standing [] 0 (cleared 0))

one_is_there : (o : Option Record) (other : Record) → is_some o ≡ true → o ≡ Some (unwrap_or o other)
one_is_there None other there = absurd (cc)
one_is_there (Some r) other there = refl

-- one is opened in slot 0 of both, with the same object at the same address
opens : (is_some (slice_get (opening divides flash).records 0) ≡ true)
    × (is_some (slice_get (opening divides image).records 0) ≡ true)
unfolding opening opening_record header_reading meaning_of tlv_places_from found_at objects_from place_of places_from
opens = (refl, refl)

alike : ((opened_in (opening divides flash) 0).object ≡ calls) × ((opened_in (opening divides image) 0).object ≡ calls)
    × ((opened_in (opening divides flash) 0).process.object.address ≡ FLASH_START)
    × ((opened_in (opening divides image) 0).process.object.address ≡ FLASH_START)
unfolding opening opening_record header_reading meaning_of tlv_places_from found_at objects_from place_of places_from
alike = (refl, refl, refl, refl)

two_images : OpenSameObject divides flash image 0
two_images = record {
  divides = record { windows = omega arith; no_acts = All-nil IsNoAct };
  one = opened_in (opening divides flash) 0;
  one_is = one_is_there (slice_get (opening divides flash).records 0) (standing [] 0 (cleared 0)) opens.0;
  other = opened_in (opening divides image) 0;
  other_is = one_is_there (slice_get (opening divides image).records 0) (standing [] 0 (cleared 0)) opens.1;
  same = record { object = alike.0 ∙ sym alike.1; address = alike.2 ∙ sym alike.3 };
}

-- and the processes in slot 1 have other ones
others : ((opened_in (opening divides flash) 1).object ≡ calls) × ((opened_in (opening divides image) 1).object ≡
    breaks)
unfolding opening opening_record header_reading meaning_of tlv_places_from found_at objects_from place_of places_from
others = (refl, refl)

-- What comes in under such a script: an edge of a button; a board on which an operator stops a process.
edge_is_no_act : IsNoAct (record { time = 5; kind = script.Press 0 })
edge_is_no_act = refl

none_acts : IsNoAct (record { time = 5; kind = script.Act StopIt (45 ∷ []) }) → ⊥
none_acts is = cc

-- A turn of one board alone at time 5: up to there the same is told; a kernel in which it hangs on what another slot
-- has.
abbrev at_five : Moment
at_five = record { at = 5; label = turn_label 0 5 untraced }

alike_up_to_five : AreAlikeUpTo 5 (at_five ∷ []) []
alike_up_to_five = refl

none_alike_later : AreAlikeUpTo 6 (at_five ∷ []) [] → ⊥
none_alike_later alike = let count = ap length alike in omega (arith, count)

-- A block at the start of the share of slot 0; a board that puts the one of slot 1 there.
starts_at_share : StartsAtItsShare 65536 0 (standing [] 256 (cleared 0))
starts_at_share = refl

none_starts_before : StartsAtItsShare 65536 1 (standing [] 256 (cleared 0)) → ⊥
none_starts_before starts = omega (arith, starts)
