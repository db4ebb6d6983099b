-- What the source of random bytes answers (Tock's driver 0x40001).
use Rattle.std.specs.Prelude.{ℕ, List, None, slice_get}
use Rattle.tk_base.specs.declared.process.ProcessId.{ProcessId}
use Rattle.grant_enter.specs.Homes.{Homes, own_of}
use Rattle.driver_model.specs.Random.{answered, words_after}
use Rattle.driver_model.specs.Requests.{unanswered}
use Rattle.driver_model.specs.Told.{drawn_told}
use Rattle.driver_requests.specs.Answers.{Answered, kinds}
use Rattle.driver_requests.specs.Asking.{in_life}

-- the answer to the process of an id, with these words left; none where it is not in that life
abbrev pub random_answer_to : List ℕ → Homes → ProcessId → Answered (List ℕ)
random_answer_to words home id =
    let own = own_of home id.slot in
    let a = in_life id.life own (answered (slice_get words 0) own) (unanswered None own) in
    record {
      kind = drawn_told kinds a.moved;
      step = a.step;
      device = words_after a.moved words;
      completed = a.completed;
    }
