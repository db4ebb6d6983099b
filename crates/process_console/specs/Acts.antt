-- What an operator's act leaves of a process and of what is its own: its verbs are those of Tock's process console, a
-- start anew is that of TRD 104, "Exit".
use Rattle.std.specs.Prelude.{◌≡◌, ℕ, List}
use Rattle.tk_base.specs.declared.process.Verb.{Verb}
use Rattle.tk_base.specs.declared.process.Verb.TheVariants as verbs
use Rattle.process_model.specs.Own.{Own}
use Rattle.process_record.specs.declared.process.Process.{Process}
use Rattle.process_record.specs.Operator.{own_operated, process_operated}
use Rattle.process_restart.specs.Restarts.{StartsAgain}

-- the process and its own are what the verb leaves of them
abbrev pub IsOperated : Verb → Process × Own → Process × Own → Type 0
IsOperated verb before after =
    (after.0 ≡ process_operated verb before.0) × (after.1 ≡ own_operated verb before.0 before.1)

-- so it is with each verb but restart, which starts the process again by the header of its object
abbrev pub Operates : Verb → List ℕ → Process × Own → Process × Own → Type 0
Operates verbs.List object before after = IsOperated verbs.List before after
Operates verbs.Stop object before after = IsOperated verbs.Stop before after
Operates verbs.Start object before after = IsOperated verbs.Start before after
Operates verbs.Terminate object before after = IsOperated verbs.Terminate before after
Operates verbs.Restart object before after = StartsAgain object before after
