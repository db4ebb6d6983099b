use Rattle.std.proofs.Common.{sym, ◌∙◌}
use Rattle.tbf_headers.specs.Permissions.{permits}
use Rattle.tbf_headers.proofs.EntryLemmas.{any_here, any_later, any_none}
use Rattle.tbf_headers.proofs.perms.Perms.allows.Goals as goal

pub returns-then-permits_at : goal.returns-then-permits_at
returns-then-permits_at c =
    sym (any_here (permits c.args.driver c.args.command) c.from-count.result c.args.self.now.content.now c.loop-k.k
    c.loop-k-test.true (cc)) ∙ c.loop-k.invariant

pub loop-k-preserved : goal.loop-k-preserved
loop-k-preserved c =
    sym (any_later (permits c.args.driver c.args.command) c.from-count.result c.args.self.now.content.now c.loop-k.k
    c.loop-k-test.true (cc)) ∙ c.loop-k.invariant

pub returns : goal.returns
returns c =
    sym (any_none (permits c.args.driver c.args.command) c.from-count.result c.args.self.now.content.now c.loop-k.k
    c.loop-k-test.false) ∙ c.loop-k.invariant
