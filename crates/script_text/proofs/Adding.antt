-- What is kept of one more line.
use Rattle.std.proofs.Common.{◌≡◌, ℕ, true, false, List, [], ◌∷◌, ◌++◌, None, refl, sym, ap, subst, ◌∙◌}
use Rattle.script_text.specs.declared.table.Line.{Line}
use Rattle.script_text.specs.Alone.{IsLine}
use Rattle.script_text.specs.Progress.{Drafted, DraftSays, with_line}
use Rattle.script_text.specs.Rules.{broken, skips, disorders, exceeds}
use Rattle.script_text.specs.Parts.{context_of}
use Rattle.script_text.specs.Said.{settings}
use Rattle.script_text.specs.Seats.{stood_at, stood_after}
use Rattle.script_text.specs.Settings.{AreSound}
use Rattle.script_text.specs.Text.{words}
use Rattle.script_text.proofs.Rules.{skipped_is_whole, broken_after, last_of}
use Rattle.script_text.proofs.Said.{stood_is, settings_with, stood_with, settings_skipped, stood_skipped}
use Rattle.script_text.proofs.Sound.{sound_with}

-- a line that is skipped says nothing
pub adds_skipped : (before : List (List ℕ)) (text : List ℕ) (d : Drafted) → skips (words text) ≡ true
    → DraftSays before d → (broken before text ≡ None) × DraftSays (before ++ text ∷ []) d
adds_skipped before text d h m = (
  skipped_is_whole before text h,
  record {
    said = m.said ∙ sym (settings_skipped before text h);
    stood = m.stood ∙ sym (stood_skipped before text h);
    sound = subst AreSound (sym (settings_skipped before text h)) m.sound;
  },
)

-- the rules that look at the lines before, by what is kept of them
pub broken_where : (before : List (List ℕ)) (text : List ℕ) (line : Line) (d : Drafted)
    → IsLine (context_of d.said) (words text) line
    → DraftSays before d
    → broken before text
    ≡ last_of (stood_at line d.stood) (disorders line d.said (words text)) (exceeds line d.said (words text))
broken_where before text line d h m =
    rw (m.said, m.stood, stood_is line before) (broken_after before text line (rw m.said at h))

-- a line that breaks none is said
pub adds_line : (before : List (List ℕ)) (text : List ℕ) (line : Line) (d e : Drafted)
    → IsLine (context_of d.said) (words text) line
    → DraftSays before d → stood_at line d.stood ≡ false → disorders line d.said (words text) ≡ false
    → exceeds line d.said (words text) ≡ false
    → e.said ≡ with_line line (words text) d.said → e.stood ≡ stood_after line d.stood
    → (broken before text ≡ None) × DraftSays (before ++ text ∷ []) e
adds_line before text line d e h m again order many said stood =
    let single = sym (stood_is line before) ∙ (ap (stood_at line) (sym m.stood) ∙ again) in
    let new = settings_with line before text h.is single in (
      broken_where before text line d h m ∙ rw (again, order, many) refl,
      record {
        said = said ∙ (ap (with_line line (words text)) m.said ∙ sym new);
        stood = stood ∙ (ap (stood_after line) m.stood ∙ sym (stood_with line before text h.is));
        sound = rw new (sound_with line text (settings before) (rw m.said at h) (rw m.said at order)
            (rw m.said at many) m.sound);
      },
    )
