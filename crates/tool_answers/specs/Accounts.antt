-- What holds of the run that the program tells. It is this tool's own promise, of Levy et al., SOSP 2017.
use Rattle.board_opening.specs.Certified.{IsAccountedRun}
use Rattle.board_partitions.specs.Boot.{IsPartitionedRun}
use Rattle.tool_tasks.specs.Comes.{Task, Running}

-- A run is accounted for: each of its steps, each byte of a process that changes, each access, each denial; and the
-- record of each process is what becomes of it alone, by its own turns and answers, whatever others do. Under a script
-- that divides time what the process in a slot does, and when, does not depend on what the image holds besides its
-- object. A list and an image are no runs.
abbrev pub IsAccountedTask : Task → Type 0
IsAccountedTask (Running mode n world) = IsAccountedRun world n × IsPartitionedRun world n
IsAccountedTask other = Unit {0}
