use Rattle.std.proofs.Common.{sym}
use Rattle.script_text.proofs.Sound.{said_at_first, none_at_first, sound_at_first}
use Rattle.script_text.proofs.draft.Draft.new.Goals as goal

pub returns : goal.returns
returns c = record {
  said = said_at_first _ _ _ _ _ _ _ _ _ _ _ c.row.ensures.default c.row-2.ensures.default c.row-3.ensures.default
      c.row-4.ensures.default c.row-5.ensures.default c.row-6.ensures.default
      c.row-7.ensures.default c.row-8.ensures.default c.new.ensures c.new-2.ensures.items
      c.new-3.ensures.items;
  stood = sym none_at_first;
  sound = sound_at_first;
}
