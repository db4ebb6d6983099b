use Rattle.std.proofs.Common.{arith, ◌≡◌, ◌+◌, ◌*◌, ◌/◌, sym, ◌∙◌, subst, eq-eqb}
use Rattle.std.proofs.lemmas.Bool.{ne_eqb}
use Rattle.grant_values.specs.Words.{words_of}
use Rattle.grant_model.specs.Encoding.{decode_grants}
use Rattle.grant_region.proofs.Walk.{Ahead, begin, here, ended}
use Rattle.grant_region.proofs.region.place.Goals as goal

pub loop-offset-init : goal.loop-offset-init
loop-offset-init c = begin c.what_is_laid_is_read_back.ensures c.args.kernel.now c.args.driver c.requires.laid

pub word_at-requires : goal.word_at-requires
word_at-requires c = omega arith

pub word_at-requires-in-loop-offset : goal.word_at-requires-in-loop-offset
word_at-requires-in-loop-offset c =
    let h = here c.what_is_laid_is_read_back.ensures (words_of c.args.kernel.now) c.args.driver c.loop-offset.offset
    (decode_grants c.args.kernel.now) c.loop-offset.invariant
    (omega (arith, c.words_in_bytes.ensures.count c.args.kernel.now)) in
    omega (arith, h.fits, c.words_in_bytes.ensures.count c.args.kernel.now)

pub loop-offset-smaller : goal.loop-offset-smaller
loop-offset-smaller c =
    let h = here c.what_is_laid_is_read_back.ensures (words_of c.args.kernel.now) c.args.driver c.loop-offset.offset
    (decode_grants c.args.kernel.now) c.loop-offset.invariant
    (omega (arith, c.words_in_bytes.ensures.count c.args.kernel.now)) in
    let e : c.word_at-in-loop-offset.result ≡ 4 * (2 + h.size) = c.word_at-in-loop-offset.ensures ∙ h.cost_is in
    omega (arith, h.fits)

pub loop-offset-preserved : goal.loop-offset-preserved
loop-offset-preserved c =
    let h = here c.what_is_laid_is_read_back.ensures (words_of c.args.kernel.now) c.args.driver c.loop-offset.offset
    (decode_grants c.args.kernel.now) c.loop-offset.invariant
    (omega (arith, c.words_in_bytes.ensures.count c.args.kernel.now)) in
    let e : c.word_at-in-loop-offset.result ≡ 4 * (2 + h.size) = c.word_at-in-loop-offset.ensures ∙ h.cost_is in
    let step : c.word_at-in-loop-offset.result / 4 ≡ 2 + h.size = omega arith in
    subst (λ n. Ahead (words_of c.args.kernel.now) c.args.driver (c.loop-offset.offset + n)
    (decode_grants c.args.kernel.now)) (sym step)
    (h.onward (ne_eqb h.head c.args.driver (λ p. c.if-word_at-driver.false (c.word_at.ensures ∙ h.driver_is ∙ p))))

pub returns-then-word_at-driver : goal.returns-then-word_at-driver
returns-then-word_at-driver c =
    let h = here c.what_is_laid_is_read_back.ensures (words_of c.args.kernel.now) c.args.driver c.loop-offset.offset
    (decode_grants c.args.kernel.now) c.loop-offset.invariant
    (omega (arith, c.words_in_bytes.ensures.count c.args.kernel.now)) in
    h.found (eq-eqb h.head c.args.driver (sym h.driver_is ∙ sym c.word_at.ensures ∙ c.if-word_at-driver.true))

pub returns : goal.returns
returns c = ended (words_of c.args.kernel.now) c.args.driver c.loop-offset.offset (decode_grants c.args.kernel.now)
    c.loop-offset.invariant (omega (arith, c.words_in_bytes.ensures.count c.args.kernel.now))
