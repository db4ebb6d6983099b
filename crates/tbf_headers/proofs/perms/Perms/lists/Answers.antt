use Rattle.std.proofs.Common.{◌==◌, sym, ◌∙◌, arith}
use Rattle.std.proofs.lemmas.Bool.{eq-eqb, ne_eqb}
use Rattle.tbf_headers.proofs.EntryLemmas.{any_here, any_later, any_none}
use Rattle.tbf_headers.proofs.perms.Perms.lists.Goals as goal

pub returns-then-word_at-driver : goal.returns-then-word_at-driver
returns-then-word_at-driver c =
    sym (any_here (λ e. e.driver == c.args.driver) c.from-count.result c.args.self.now.content.now c.loop-k.k
    c.loop-k-test.true (eq-eqb _ _ (omega (arith, c.word_at.ensures)))) ∙ c.loop-k.invariant

pub loop-k-preserved : goal.loop-k-preserved
loop-k-preserved c =
    sym (any_later (λ e. e.driver == c.args.driver) c.from-count.result c.args.self.now.content.now c.loop-k.k
    c.loop-k-test.true (ne_eqb _ _ (λ e. omega (arith, c.word_at.ensures)))) ∙ c.loop-k.invariant

pub returns : goal.returns
returns c =
    sym (any_none (λ e. e.driver == c.args.driver) c.from-count.result c.args.self.now.content.now c.loop-k.k
    c.loop-k-test.false) ∙ c.loop-k.invariant
