-- Choices that are made one after another, by whomever: what holds of every list of them. That any may be made is this
-- board's own rule.
use Rattle.std.specs.Prelude.{◌≡◌, ℕ, Bool, true, ◌&&◌, List, [], ◌∷◌, ◌++◌, slice_get, Some}
use Rattle.tk_base.specs.declared.process.Choice.{Choice}
use Rattle.kernel_model.specs.Record.{Record}
use Rattle.kernel_model.specs.World.{World, Label, after, is_ready, labels}
use Rattle.kernel_model.specs.Run.{printed}

-- whether each choice is ready in its turn
abbrev pub are_ready : World → List Choice → Bool
are_ready w [] = true
are_ready w (choice ∷ choices) = is_ready w choice && are_ready (after w choice) choices

-- what holds of each of them in the world in which it is made
abbrev pub Throughout : (World → Choice → Type 0) → World → List Choice → Type 0
Throughout P w [] = Unit {0}
Throughout P w (choice ∷ choices) = P w choice × Throughout P (after w choice) choices

-- what holds of each process in a step, by its slot and its records before it and after it
abbrev pub OfEachProcess : World → Choice → (ℕ → Record → Record → Type 0) → Type 0
OfEachProcess w choice P =
    (slot : ℕ) (r s : Record) → slice_get w.records slot ≡ Some r → slice_get (after w choice).records slot ≡ Some s
    → P slot r s

-- what their steps tell, in order
abbrev pub labels_of_all : World → List Choice → List Label
labels_of_all w [] = []
labels_of_all w (choice ∷ choices) = labels w choice ++ labels_of_all (after w choice) choices

-- the bytes that they print
abbrev pub printed_by_all : World → List Choice → List ℕ
printed_by_all w choices = printed (labels_of_all w choices)
