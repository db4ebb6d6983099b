use Rattle.std.proofs.Common.{◌<◌, refl, sym, subst}
use Rattle.decimal_number.specs.Number.{number}
use Rattle.script_text.specs.declared.table.Line.TheVariants.{Act, Press, Release}
use Rattle.script_text.specs.Progress.{Drafted}
use Rattle.script_text.specs.Text.{words, word}
use Rattle.script_text.proofs.Sound.{below, named_at, short}
use Rattle.script_text.proofs.draft.Draft.take.Goals as goal

pub button_at-requires-clause-below : goal.button_at-requires-clause-below
button_at-requires-clause-below c =
    let ws = words c.args.text.now in
    subst (λ (d : Drafted). number (word ws 3) < d.said.buttons) (sym c.self.view_is)
    (below _ ws Press (rw c.in-Press.is at c.requires.line) refl)

pub button_at-requires-in-Release-clause-below : goal.button_at-requires-in-Release-clause-below
button_at-requires-in-Release-clause-below c =
    let ws = words c.args.text.now in
    subst (λ (d : Drafted). number (word ws 3) < d.said.buttons) (sym c.self.view_is)
    (below _ ws Release (rw c.in-Release.is at c.requires.line) refl)

pub name_at-requires : goal.name_at-requires
name_at-requires c =
    let ws = words c.args.text.now in short (word ws 4) (named_at _ ws Act (rw c.in-Act.is at c.requires.line) refl)
