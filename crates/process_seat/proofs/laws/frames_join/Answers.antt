use Rattle.std.proofs.Common.{ℕ, refl, subst, ◌∙◌}
use Rattle.process_seat.specs.Seen.{ServesIn}
use Rattle.process_seat.proofs.Serving.{serving_nothing, serving_on}
use Rattle.process_seat.proofs.laws.frames_join.Goals as goal

pub returns : goal.returns
returns c = record {
  none = λ e. record {
    memory = refl;
    seat = refl;
    driver = refl;
    counts = refl;
    serves =
        serving_nothing e.driver e.memory.now e.seat.now;
  };
  both = λ a b c l f g. record {
    memory = g.memory ∙ f.memory;
    seat = g.seat ∙ f.seat;
    driver = g.driver ∙ f.driver;
    counts = g.counts ∙ f.counts;
    serves = serving_on a.driver a.counts a.memory.now a.seat.now b.memory.now b.seat.now c.memory.now c.seat.now l
        f.serves
        (subst (λ (d : ℕ). ServesIn d b.memory.now b.seat.now c.memory.now c.seat.now) f.driver g.serves);
  };
}
