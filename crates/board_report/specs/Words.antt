-- The words of the report and of the trace. They are this tool's own.
use Rattle.std.specs.Prelude.{ℕ, List, [], ◌∷◌, codes}
use Rattle.tk_base.specs.declared.access.Access.{Access}
use Rattle.tk_base.specs.declared.access.Access.TheVariants.{Fetch, Load, Store}
use Rattle.tk_base.specs.declared.access.Rule.{Rule}
use Rattle.tk_base.specs.declared.access.Rule.TheVariants.{NoRegion, NoExecute, NoWrite, NoRead, Misaligned, Illegal}
use Rattle.tk_base.specs.declared.access.Rule.TheVariants.{Breakpoint, UnknownClass}
use Rattle.tk_base.specs.declared.call.CallRule.{CallRule}
use Rattle.tk_base.specs.declared.call.CallRule.TheVariants as calls
use Rattle.tk_base.specs.declared.process.PlaceFault.{PlaceFault}
use Rattle.tk_base.specs.declared.process.PlaceFault.TheVariants.{NoSlot, FixedTaken, NoRoom}

-- the end of a line
abbrev pub newline : List ℕ
newline = 10 ∷ []

-- the word of a kind of access
abbrev pub access_text : Access → List ℕ
access_text Fetch = codes "fetch"
access_text Load = codes "load"
access_text Store = codes "store"

-- the word of the rule by which an access or an instruction is denied
abbrev pub rule_text : Rule → List ℕ
rule_text NoRegion = codes "no-region"
rule_text NoExecute = codes "no-execute"
rule_text NoWrite = codes "no-write"
rule_text NoRead = codes "no-read"
rule_text Misaligned = codes "misaligned"
rule_text Illegal = codes "illegal"
rule_text Breakpoint = codes "breakpoint"
rule_text UnknownClass = codes "unknown-class"

-- the word of the cause for which an application has no place
abbrev pub fault_text : PlaceFault → List ℕ
fault_text NoSlot = codes "no-slot"
fault_text FixedTaken = codes "fixed-taken"
fault_text NoRoom = codes "no-room"

-- the word of the rule by which a call is refused
abbrev pub call_rule_text : CallRule → List ℕ
call_rule_text calls.Permission = codes "permission"
call_rule_text calls.NoDriver = codes "no-driver"
call_rule_text calls.NoNumber = codes "no-number"
call_rule_text calls.NoCommand = codes "no-command"
call_rule_text calls.NoOperation = codes "no-operation"
call_rule_text calls.Outside = codes "outside"
call_rule_text calls.Range = codes "range"
call_rule_text calls.NoRoom = codes "no-room"
call_rule_text calls.Break = codes "break"
call_rule_text calls.Busy = codes "busy"
call_rule_text calls.Empty = codes "empty"
call_rule_text calls.Nothing = codes "nothing"
call_rule_text calls.Index = codes "index"
