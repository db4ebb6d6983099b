-- What an operator's act does to a process, in the words of Tock's process console. What is its own is ended as by TRD
-- 104, "Exit"; when verbs apply is this board's own rule.
use Rattle.std.specs.Prelude.{Bool, true, false, if◌then◌else◌}
use Rattle.tk_base.specs.declared.process.Verb.{Verb}
use Rattle.tk_base.specs.declared.process.Verb.TheVariants as verbs
use Rattle.process_model.specs.Own.{Own, own_ended}
use Rattle.process_record.specs.declared.process.Process.{Process}
use Rattle.process_record.specs.Process.{after_end, is_alive}

-- whether a verb applies to a process: one that lives can be stopped and ended, one that is held can be started, and
-- any can be listed and started again
abbrev pub applies : Verb → Process → Bool
applies verbs.List p = true
applies verbs.Stop p = is_alive p.state
applies verbs.Start p = p.held
applies verbs.Terminate p = is_alive p.state
applies verbs.Restart p = true

-- whether it ends a life of it
abbrev pub ends_by : Verb → Process → Bool
ends_by verbs.Terminate p = is_alive p.state
ends_by verbs.Restart p = true
ends_by other p = false

-- what a verb leaves of a process, where it does not start it again: it is held, or let go, or has ended with code 0;
-- one that does not apply leaves it as it was
abbrev pub process_operated : Verb → Process → Process
process_operated verbs.Stop p = if is_alive p.state then record p { held = true } else p
process_operated verbs.Start p = if p.held then record p { held = false } else p
process_operated verbs.Terminate p = if is_alive p.state then after_end p 0 else p
process_operated other p = p

-- and of what is its own, which ends with it
abbrev pub own_operated : Verb → Process → Own → Own
own_operated verbs.Terminate p own = if is_alive p.state then own_ended own else own
own_operated other p own = own
