use Rattle.process_model.proofs.laws.restart_forgets.Goals as goal

pub returns : goal.returns
returns c = λ brk a b same.
    rw (same.object, same.flash_start, same.flash_end, same.start, same.end, same.life, same.dropped)
