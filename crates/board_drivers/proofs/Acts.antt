-- What each device does where it is to act: it serves the first of those that wait and may be served, or may not act,
-- and nothing changes. Each device is an instance of `acts_on`, by what its capsule promised of the first of its line;
-- the slot that is served alone and its lane are put for those that the code computed.
use Rattle.std.proofs.Common.{◌≡◌, ℕ, not}
use Rattle.std.proofs.Common.{List, [], slice_set, Option, None}
use Rattle.std.proofs.Common.{slice_index_or}
use Rattle.std.proofs.Common.{Some, Result, Ok, Err, is_ok, is_some, OnErr, refl, sym, ap}
use Rattle.std.proofs.Common.{◌∙◌}
use Rattle.std.proofs.lemmas.List.{set-get_or}
use Rattle.arrayvec.specs.ArrayVec.{ArrayVec}
use Rattle.tk_base.specs.declared.process.Dev.{Dev}
use Rattle.tk_base.specs.declared.process.Dev.TheVariants.{Alarm, Uart, Receive, Random, Store}
use Rattle.tk_base.specs.declared.process.ProcessId.{ProcessId}
use Rattle.board_devices.specs.declared.answer.Answer.{Answer}
use Rattle.tk_base.specs.declared.process.NotReady.{NotReady}
use Rattle.board_devices.specs.Clock.{clock_at}
use Rattle.board_devices.specs.SerialLine.{SerialLine, line_at}
use Rattle.board_devices.specs.Parts.{no_line}
use Rattle.board_devices.specs.Storage.{StoredSlots}
use Rattle.process_model.specs.Flash.{ReadsOwnFlash}
use Rattle.driver_model.specs.Answers.{EventsTellSteps, LinesFollowAnswers}
use Rattle.driver_model.specs.Steps.{own_after}
use Rattle.driver_model.specs.Alarm.{answered, due_for}
use Rattle.driver_model.specs.Laws.{DueSlotIsThere}
use Rattle.alarm_capsule.specs.Answers as alarm_capsule
use Rattle.random_capsule.specs.Answers.{random_answer_to as random_to}
use Rattle.storage_capsule.specs.Answers.{answer_to as storage_to}
use Rattle.driver_requests.specs.Answers.{AnswersFirst}
use Rattle.driver_requests.specs.Waiting.{first_of}
use Rattle.console_capsule.specs.Answers.{cannot_give, cannot_send, received_by, sending_at, write_answered}
use Rattle.console_capsule.specs.declared.capsule.ConsoleCapsule.{ConsoleCapsule}
use Rattle.random_capsule.specs.declared.capsule.RandomCapsule.{RandomCapsule}
use Rattle.storage_capsule.specs.declared.capsule.StorageCapsule.{StorageCapsule}
use Rattle.grant_enter.specs.Homes.{Homes, own_of}
use Rattle.kernel_model.specs.World.{owns_in}
use Rattle.board_drivers.specs.declared.drivers.Drivers.{Drivers}
use Rattle.board_drivers.specs.Driven.{IsThere}
use Rattle.board_drivers.specs.Tells.{Acted}
use Rattle.board_drivers.specs.Parts.{AreBoardParts, BoardParts, world_shown}
use Rattle.board_drivers.proofs.Parts.{owns_in_parts}
use Rattle.board_drivers.proofs.Serving.{only_on, lane_on, line_on, words_on, with_line, acts_on, told_by, Lent}
use Rattle.board_drivers.proofs.Serving.{sends, serves_sent, receives, serves_received, draws, serves_drawn}
use Rattle.board_drivers.proofs.Serving.{stores, serves_stored, serves_alarmed, can_send, can_give, waited_for}

-- what a device did, by which device it is
pub acted_by : (b : BoardParts) (device is : Dev) (o : Result Answer NotReady) (printed : List ℕ) (home : Homes)
    (d : Drivers) → device ≡ is → Acted b is o printed home d → Acted b device o printed home d
acted_by b device is o printed home d e acted = rw e acted

-- nothing was printed
acted_silent : (b : BoardParts) (device : Dev) (o : Result Answer NotReady) (home : Homes) (d : Drivers)
    (printed : List ℕ)
    → printed ≡ [] → Acted b device o [] home d → Acted b device o printed home d
acted_silent b device o home d printed empty acted = rw empty acted

-- what holds of the slot that a board serves alone, and of its lane, holds of those that equal them
at_lane : (P : Option ℕ → ℕ → Type 0) (b : BoardParts) (only : Option ℕ) (lane : ℕ) → only ≡ only_on b
    → lane ≡ lane_on b → P (only_on b) (lane_on b) → P only lane
at_lane P b only lane is_only is_lane p = rw (is_lane, is_only) p

-- What each device does where it is to act: it serves the first of those that wait, or may not act, and then nothing
-- changes.
pub acts_alarmed : (b : BoardParts) (h : AreBoardParts b) (o : Result Answer NotReady) (home : Homes)
    → LinesFollowAnswers → DueSlotIsThere
    → alarm_capsule.AlarmAnswers (only_on b) (clock_at b.moment.settings.start b.moment.time) b.home o home
    → (printed : List ℕ) → printed ≡ [] → Acted b Alarm o printed home b.drivers
acts_alarmed b h (Err refusal) home lines law answers printed empty = (
  ap is_some (ap (due_for (only_on b) (clock_at b.moment.settings.start b.moment.time)) (owns_in_parts b h)
      ∙ answers.0),
  answers.1,
  refl,
)
acts_alarmed b h (Ok answer) home lines law answers printed empty =
    let id : ProcessId = answer.to in
    let now : ℕ = clock_at b.moment.settings.start b.moment.time in
    let there : IsThere b.home.owns id = (law (only_on b) now id.slot b.home.owns answers.0, sym answers.1) in
    let due : due_for (only_on b) now (owns_in (world_shown b)) ≡ Some id.slot = ap (due_for (only_on b) now)
    (owns_in_parts b h) ∙ answers.0 in
    acted_silent b Alarm (Ok answer) home b.drivers printed empty
    (told_by b h id there Alarm [] (own_after (answered now (own_of b.home id.slot))) home b.drivers answers.4 answers.3
    (ap is_some due) (serves_alarmed b h id there lines due))

-- what the UART did for a slot alone, or for all, by its lane
abbrev ActsSent : (b : BoardParts) (o : Result Answer NotReady) (home : Homes) (capsule : ConsoleCapsule)
    (line : SerialLine) (before printed : ArrayVec ℕ) → SerialLine → Option ℕ → ℕ → Type 0
ActsSent b o home capsule line before printed here only lane =
    is_ok o ≡ not (cannot_send only b.drivers.console.writes here b.moment.time)
    → AnswersFirst only (write_answered b.home) b.drivers.console.writes before b.home o capsule.writes printed home
    → line ≡ sending_at b.moment.time printed.items here
    → capsule.reads ≡ b.drivers.console.reads
    → Acted b Uart o printed.items home (record b.drivers {
      console = capsule;
      uarts = slice_set b.drivers.uarts lane line;
    })

pub acts_sent : (b : BoardParts) (h : AreBoardParts b) (o : Result Answer NotReady) (home : Homes)
    (capsule : ConsoleCapsule)
    (line : SerialLine) (printed : ArrayVec ℕ)
    → LinesFollowAnswers → EventsTellSteps → ReadsOwnFlash → Lent b.home → (before : ArrayVec ℕ) → before.items ≡ []
    → (only : Option ℕ) (lane : ℕ) (here : SerialLine) → only ≡ only_on b → lane ≡ lane_on b
    → here ≡ line_at lane b.drivers.uarts → ActsSent b o home capsule line before printed here only lane
acts_sent b h o home capsule line printed lines events law lent before empty only lane here is_only is_lane is_here =
    rw is_here (at_lane (λ only lane. ActsSent b o home capsule line before printed (line_at lane b.drivers.uarts) only
    lane) b only lane is_only is_lane (λ can answers uart reads.
    rw (reads, uart) (acts_on b h (sends b) before
    (ap (λ (xs : List ℕ). record b.drivers { uarts = with_line b (sending_at b.moment.time xs (line_on b)) }) empty
    ∙ ap (λ (ls : List SerialLine). record b.drivers { uarts = ls })
    (set-get_or b.drivers.uarts (lane_on b) no_line))
    (serves_sent b h lines events law lent) o home capsule.writes printed
    (can_send (only_on b) b.drivers.console.writes (line_on b) b.moment.time ∙ sym can) answers)))

abbrev ActsReceived : (b : BoardParts) (o : Result Answer NotReady) (home : Homes) (capsule : ConsoleCapsule)
    (line : SerialLine) (printed : List ℕ) → SerialLine → Option ℕ → ℕ → Type 0
ActsReceived b o home capsule line printed here only lane =
    is_ok o ≡ not (cannot_give only b.drivers.console.reads here)
    → AnswersFirst only (received_by here b.home) b.drivers.console.reads here b.home o capsule.reads line home
    → capsule.writes ≡ b.drivers.console.writes
    → Acted b Receive o printed home (record b.drivers {
      console = capsule;
      uarts = slice_set b.drivers.uarts lane line;
    })

pub acts_received : (b : BoardParts) (h : AreBoardParts b) (o : Result Answer NotReady) (home : Homes)
    (capsule : ConsoleCapsule) (line : SerialLine)
    → LinesFollowAnswers → EventsTellSteps → (printed : List ℕ) → printed ≡ []
    → (only : Option ℕ) (lane : ℕ) (here : SerialLine) → only ≡ only_on b → lane ≡ lane_on b
    → here ≡ line_at lane b.drivers.uarts → ActsReceived b o home capsule line printed here only lane
acts_received b h o home capsule line lines events printed empty only lane here is_only is_lane is_here =
    rw is_here (at_lane (λ only lane. ActsReceived b o home capsule line printed (line_at lane b.drivers.uarts) only
    lane) b only lane is_only is_lane (λ can answers writes.
    rw (empty, writes) (acts_on b h (receives b) (line_on b)
    (ap (λ (ls : List SerialLine). record b.drivers { uarts = ls })
    (set-get_or b.drivers.uarts (lane_on b) no_line))
    (serves_received b h lines events) o home capsule.reads line
    (can_give (only_on b) b.drivers.console.reads (line_on b) ∙ sym can) answers)))

abbrev ActsDrawn : (b : BoardParts) (o : Result Answer NotReady) (home : Homes) (capsule : RandomCapsule)
    (words : List ℕ) (printed : List ℕ) → List ℕ → Option ℕ → ℕ → Type 0
ActsDrawn b o home capsule words printed here only lane =
    OnErr o (first_of only b.drivers.random.waiting ≡ None)
    → AnswersFirst only (random_to here b.home) b.drivers.random.waiting here b.home o capsule.waiting words home
    → Acted b Random o printed home (record b.drivers {
      random = capsule;
      words = slice_set b.drivers.words lane words;
    })

pub acts_drawn : (b : BoardParts) (h : AreBoardParts b) (o : Result Answer NotReady) (home : Homes)
    (capsule : RandomCapsule) (words : List ℕ)
    → LinesFollowAnswers → EventsTellSteps → (printed : List ℕ) → printed ≡ []
    → (only : Option ℕ) (lane : ℕ) (here : List ℕ) → only ≡ only_on b → lane ≡ lane_on b
    → here ≡ slice_index_or b.drivers.words lane [] → ActsDrawn b o home capsule words printed here only lane
acts_drawn b h o home capsule words lines events printed empty only lane here is_only is_lane is_here =
    rw is_here (at_lane (λ only lane. ActsDrawn b o home capsule words printed (slice_index_or b.drivers.words lane [])
    only lane) b only lane is_only is_lane (λ none answers.
    rw empty (acts_on b h (draws b) (words_on b)
    (ap (λ (ws : List (List ℕ)). record b.drivers { words = ws })
    (set-get_or b.drivers.words (lane_on b) []))
    (serves_drawn b h lines events) o home capsule.waiting words
    (waited_for (only_on b) (random_to (words_on b) b.home) b.drivers.random.waiting (words_on b) b.home o
    capsule.waiting words home none answers) answers)))

abbrev ActsStored : (b : BoardParts) (o : Result Answer NotReady) (home : Homes) (capsule : StorageCapsule)
    (bytes : StoredSlots) (printed : List ℕ) → Option ℕ → Type 0
ActsStored b o home capsule bytes printed only =
    OnErr o (first_of only b.drivers.storage.waiting ≡ None)
    → AnswersFirst only (storage_to b.drivers.stores b.home) b.drivers.storage.waiting b.drivers.stores b.home o
    capsule.waiting bytes home
    → Acted b Store o printed home (record b.drivers { storage = capsule; stores = bytes })

pub acts_stored : (b : BoardParts) (h : AreBoardParts b) (o : Result Answer NotReady) (home : Homes)
    (capsule : StorageCapsule)
    (bytes : StoredSlots)
    → LinesFollowAnswers → ReadsOwnFlash → Lent b.home → (printed : List ℕ) → printed ≡ []
    → (only : Option ℕ) → only ≡ only_on b → ActsStored b o home capsule bytes printed only
acts_stored b h o home capsule bytes lines law lent printed empty only is_only =
    rw is_only (λ none answers. rw empty
    (acts_on b h (stores b) b.drivers.stores refl (serves_stored b h lines law lent)
    o home capsule.waiting bytes (waited_for (only_on b) (storage_to b.drivers.stores b.home) b.drivers.storage.waiting
    b.drivers.stores b.home o capsule.waiting bytes home none answers) answers))
