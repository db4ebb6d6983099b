-- What becomes of a process that faulted. The names are those of the fault policies of Tock's kernel, and the threshold
-- is how many restarts a process may have; that one policy holds for all processes is this board's own.
use Rattle.std.specs.Prelude.{ℕ, nat_lt, if◌then◌else◌}
use Rattle.fault_policy.specs.declared.Action.{Action}
use Rattle.fault_policy.specs.declared.Action.TheVariants as actions
use Rattle.fault_policy.specs.declared.Policy.{Policy}
use Rattle.fault_policy.specs.declared.Policy.TheVariants as policies

-- what a policy decides for a process that was restarted so many times
abbrev pub decision : Policy → ℕ → Action
decision policies.Stop restarts = actions.Stop
decision policies.Restart restarts = actions.Restart
decision (policies.Threshold most) restarts = if nat_lt restarts most then actions.Restart else actions.Stop
