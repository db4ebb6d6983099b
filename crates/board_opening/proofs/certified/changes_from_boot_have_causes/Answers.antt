use Rattle.std.proofs.Common.{Option, None, Some, IfSome}
use Rattle.kernel_model.specs.Record.{Record}
use Rattle.board_opening.proofs.Boots.{opens_whole}
use Rattle.board_opening.proofs.certified.changes_from_boot_have_causes.Goals as goal

pub returns-clause-whole : goal.returns-clause-whole
returns-clause-whole c =
    λ script flash choices slot.
    c.owns_stay_whole.ensures.stays _ choices slot (opens_whole script flash c.only_handing_changes_pairs.ensures slot)

pub returns-clause-causes : goal.returns-clause-causes
returns-clause-causes c =
    λ script flash choices.
    c.owns_stay_whole.ensures.causes _ choices (opens_whole script flash c.only_handing_changes_pairs.ensures)

pub returns-clause-buffers : goal.returns-clause-buffers
returns-clause-buffers c =
    λ script flash choices slot.
    of_some c.owns_stay_whole.ensures.buffers _
    (c.owns_stay_whole.ensures.stays _ choices slot
    (opens_whole script flash c.only_handing_changes_pairs.ensures slot))
  where
    of_some : {P Q : Record → Type 0} → ((r : Record) → P r → Q r) → (o : Option Record) → IfSome o P → IfSome o Q
    of_some each None h = tt
    of_some each (Some r) h = each r h
