use Rattle.std.proofs.Common.{◌≡◌, ◌-◌}
use Rattle.std.specs.List.{list_any}
use Rattle.tbf_headers.specs.Permissions.{allows, permits, entries_from}
use Rattle.tbf_headers.proofs.perms.Perms.allows.Given as goal

-- whether one of the entries that are left permits the command
abbrev pub invariant-loop-k : goal.invariant-loop-k
invariant-loop-k l =
    list_any (permits l.driver l.command) (entries_from (l.count - l.k) l.content l.k)
    ≡ allows l.content l.driver l.command
