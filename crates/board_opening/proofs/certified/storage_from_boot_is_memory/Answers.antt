use Rattle.std.proofs.Common.{◌≡◌, slice_get, ℕ, List, Option, IfSome, replicate, subst}
use Rattle.kernel_model.specs.Record.{Record}
use Rattle.kernel_model.specs.Replay.{after_all, history}
use Rattle.kernel_lives.specs.StoredBytes.{all_written, writes_in}
use Rattle.board_opening.specs.Opening.{opening}
use Rattle.board_opening.proofs.Boots.{opens_asking, opens_erased, opens_living, opens_whole}
use Rattle.board_opening.proofs.certified.storage_from_boot_is_memory.Goals as goal

pub returns-clause-memory : goal.returns-clause-memory
returns-clause-memory c =
    λ script flash choices slot first is.
    let w = opening script flash in
    let erased = subst (λ (o : Option Record). IfSome o (λ r. r.storage ≡ replicate script.storage 0xFF)) is
    (opens_erased script flash slot) in
    subst (λ (bytes : List ℕ). IfSome (slice_get (after_all w choices).records slot) (λ now.
    now.storage ≡ all_written (writes_in w.settings (history slot w choices) first) bytes)) erased
    (c.storage_is_memory.ensures.memory w choices slot first is)

pub returns-clause-reads : goal.returns-clause-reads
unfolding opening
returns-clause-reads c =
    λ script flash choices choice slot r s there later told.
    c.storage_is_memory.ensures.runs (opening script flash) choices choice slot r s (opens_living script flash slot)
    (opens_whole script flash c.only_handing_changes_pairs.ensures slot) (opens_asking script flash slot) there later
    told
