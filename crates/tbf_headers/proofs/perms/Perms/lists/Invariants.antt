use Rattle.std.proofs.Common.{◌≡◌, ◌-◌, ◌==◌}
use Rattle.std.specs.List.{list_any}
use Rattle.tbf_headers.specs.Permissions.{lists, entries_from}
use Rattle.tbf_headers.proofs.perms.Perms.lists.Given as goal

-- whether one of the entries that are left is of the driver
abbrev pub invariant-loop-k : goal.invariant-loop-k
invariant-loop-k l =
    list_any (λ e. e.driver == l.driver) (entries_from (l.count - l.k) l.content l.k) ≡ lists l.content l.driver
