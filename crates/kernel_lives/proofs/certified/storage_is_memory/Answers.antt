use Rattle.kernel_lives.proofs.StoredBytes.{reads_give_storage, storage_is_memory}
use Rattle.kernel_lives.proofs.Within.{reads_in_runs_give_storage, requests_stay_within}
use Rattle.kernel_lives.proofs.certified.storage_is_memory.Goals as goal

pub returns-clause-memory : goal.returns-clause-memory
returns-clause-memory c = storage_is_memory

pub returns-clause-reads : goal.returns-clause-reads
returns-clause-reads c = reads_give_storage

pub returns-clause-within : goal.returns-clause-within
returns-clause-within c =
    requests_stay_within c.turns_keep_lines.ensures.lines c.processes_live_as_they_run.ensures.lives

pub returns-clause-runs : goal.returns-clause-runs
returns-clause-runs c =
    reads_in_runs_give_storage c.owns_stay_whole.ensures.stays
    (requests_stay_within c.turns_keep_lines.ensures.lines c.processes_live_as_they_run.ensures.lives)
