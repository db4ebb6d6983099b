-- That the random words which processes are told, and then those that are left, are those of before. The words are
-- those of this board's own script.
use Rattle.std.specs.Prelude.{◌≡◌, ℕ, ◌==◌, List, [], ◌∷◌, ◌++◌, filter}
use Rattle.std.specs.List.{flat_map}
use Rattle.tk_base.specs.declared.process.Choice.{Choice}
use Rattle.kernel_model.specs.Turn.{Event, Word}
use Rattle.kernel_model.specs.World.{World, Label, only_for}
use Rattle.kernel_model.specs.Named.{words_in}
use Rattle.kernel_model.specs.Named.{lane_by}
use Rattle.kernel_model.specs.Choices.{labels_of_all}
use Rattle.kernel_model.specs.Replay.{after_all}

-- the random word that an answer tells, if it tells one
abbrev pub drawn_in : Event → List ℕ
drawn_in (Word word) = word ∷ []
drawn_in other = []

-- the random word that a label tells a process, if it does
abbrev pub word_told : Label → List ℕ
word_told label = drawn_in label.event

-- all that steps tell, in order, whichever processes they are told
abbrev pub words_told : List Label → List ℕ
words_told labels = flat_map word_told labels

-- of what steps tell those labels that are of a lane, where a window has so many ticks
abbrev pub of_lane : ℕ → ℕ → List Label → List Label
of_lane window lane labels = filter (λ label. lane_by (only_for window label.slot) == lane) labels

-- Whatever choices are made, in each lane: the words that were left before them are those that its processes were told,
-- in that order, and then those that are left. So no word is drawn twice, and none is passed over.
abbrev pub WordsAreDrawnInOrder : Type 0
WordsAreDrawnInOrder = (w : World) (choices : List Choice) (lane : ℕ) →
    words_in lane w.devices
    ≡ words_told (of_lane w.pace.window lane (labels_of_all w choices)) ++ words_in lane (after_all w choices).devices
