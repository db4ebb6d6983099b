use Rattle.std.proofs.Common.{sym, ◌∙◌}
use Rattle.driver_requests.proofs.Found.{none_found, one_found}
use Rattle.driver_requests.proofs.waiting.WaitingList.of_slot.Goals as goal

pub returns-in-None : goal.returns-in-None
returns-in-None c = none_found _ c.args.self.now (sym c.place_of.ensures ∙ c.in-None.is)

pub returns-in-Some : goal.returns-in-Some
returns-in-Some c = c.at.ensures ∙ one_found _ c.args.self.now _ (sym c.place_of.ensures ∙ c.in-Some.is)
