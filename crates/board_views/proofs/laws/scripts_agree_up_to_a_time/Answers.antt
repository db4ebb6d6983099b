use Rattle.board_views.proofs.Adding.{added_is_scripted}
use Rattle.board_views.proofs.Agreeing.{comes_within, scripts_agree, worlds_agree}
use Rattle.board_views.proofs.laws.scripts_agree_up_to_a_time.Goals as goal

pub returns-clause-scripts : goal.returns-clause-scripts
returns-clause-scripts c = scripts_agree c.next_is_ready.ensures.ready

pub returns-clause-worlds : goal.returns-clause-worlds
returns-clause-worlds c = worlds_agree c.next_is_ready.ensures.ready

pub returns-clause-within : goal.returns-clause-within
returns-clause-within c = comes_within

pub returns-clause-added : goal.returns-clause-added
returns-clause-added c = added_is_scripted c.next_is_ready.ensures.ready
