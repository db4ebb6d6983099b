use Rattle.std.proofs.Common.{ℕ, slice_index_or, slice_set, ap, ◌∙◌, arith}
use Rattle.process_model.specs.Own.{Own}
use Rattle.driver_model.specs.Buttons.{edged}
use Rattle.driver_model.specs.Steps.{own_after}
use Rattle.grant_enter.specs.Homes.{Homes, nobody}
use Rattle.button_capsule.proofs.Rounds.{one_more}
use Rattle.button_capsule.proofs.telling.edges.Goals as goal

pub loop-slot-preserved : goal.loop-slot-preserved
loop-slot-preserved c =
    let tell = λ (own : Own). own_after (edged c.args.button c.args.state own) in
    let owns = c.loop-slot.home.owns in (
      ap (λ (h : Homes). h.owns) c.edge_in.ensures.rest
          ∙ ap (slice_set owns c.new.result) c.edge_in.ensures.own
          ∙ ap (λ (k : ℕ). slice_set owns k (tell (slice_index_or owns k nobody))) c.new.ensures
          ∙ one_more tell c.args.home.now.owns owns c.loop-slot.slot nobody
          (omega (arith, c.loop-slot-test.true, c.requires.slots)) c.loop-slot.invariant.0,
      ap (λ (h : Homes). h.flash) c.edge_in.ensures.rest ∙ c.loop-slot.invariant.1,
    )
