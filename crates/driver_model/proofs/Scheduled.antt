-- What an upcall that is scheduled changes of a process.
use Rattle.std.proofs.Common.{◌≡◌, ◌≤◌, length, ℕ, ◌+◌, ◌==◌, Bool, true, false, cond, List, [], ◌∷◌, ◌++◌}
use Rattle.std.proofs.Common.{None, Some, refl, ap, sym, subst, ◌∙◌, arith}
use Rattle.std.proofs.lemmas.Bool.{false≢true}
use Rattle.std.proofs.lemmas.List.{length-append}
use Rattle.tk_base.specs.declared.limits.TheConstants.{PENDING_LIMIT}
use Rattle.tk_base.specs.declared.upcall.Upcall.{Upcall}
use Rattle.tk_base.specs.declared.upcall.Wait.TheVariants.{Given}
use Rattle.upcall_queue.specs.Pending.{awaits, has_room, scheduled}
use Rattle.process_model.specs.Own.{Own, kernel_break_of, with_inbox}
use Rattle.process_model.specs.Served.{own_scheduled, upcall_of}
use Rattle.process_model.specs.Changes.{IsWhole}
use Rattle.driver_model.specs.Laws.{IsAtMostOneMore}
use Rattle.driver_model.specs.Keeping.{KeepsLimit}
use Rattle.driver_model.specs.Upcalls.{SchedulesHeld}
use Rattle.std.proofs.lemmas.Bool.{lt-ltb, ltb-true}

pub none_more : (dropped : ℕ) → IsAtMostOneMore dropped dropped
none_more dropped = record { not_less = omega arith; not_more = omega arith }

-- nothing was scheduled where the same is
pub schedules_none : (own o : Own) → o.inbox ≡ own.inbox → SchedulesHeld own o
schedules_none own o same = record { upcall = None; inbox = same; held = tt }

-- where the same waits and is dropped
pub same_limit : (own : Own) → KeepsLimit own own
same_limit own = record { limit = λ few. few; room = λ few. refl }

-- at most as many wait as may, and one more is dropped at most
record Counted (own o : Own) : Type 0 where
  limit : KeepsLimit own o
  dropped : IsAtMostOneMore own.inbox.dropped o.inbox.dropped

counted : (upcall : Upcall) (own : Own) → Counted own (with_inbox (scheduled upcall) own)
counted upcall own =
    by_test (awaits own.inbox.wait upcall) (upcall.function == 0) (has_room own.inbox.pending) refl
  where
    by_test : (awaited null room : Bool) → has_room own.inbox.pending ≡ room
        → Counted own (record own {
          inbox = cond awaited (record own.inbox { wait = Given upcall.args }) (cond null own.inbox
              (cond room (record own.inbox { pending = own.inbox.pending ++ upcall ∷ [] })
              (record own.inbox { dropped = own.inbox.dropped + 1 })));
        })
    by_test true null room h =
        record { limit = record { limit = λ few. few; room = λ few. refl }; dropped = none_more own.inbox.dropped }
    by_test false true room h = record { limit = same_limit own; dropped = none_more own.inbox.dropped }
    by_test false false true h = record {
      limit = record {
        limit = λ few. rw length-append (omega (arith, ltb-true _ PENDING_LIMIT h));
        room = λ few. refl;
      };
      dropped = none_more own.inbox.dropped;
    }
    by_test false false false h = record {
      limit = record {
        limit = λ few. few;
        room = λ few. absurd (false≢true (sym h ∙ lt-ltb (length own.inbox.pending) PENDING_LIMIT few));
      };
      dropped = record { not_less = omega arith; not_more = omega arith };
    }

-- what is scheduled, and one upcall more
pub record Queues (own o : Own) : Type 0 where
  pub limit : KeepsLimit own o
  pub rest : o ≡ record own { inbox = o.inbox }
  pub dropped : IsAtMostOneMore own.inbox.dropped o.inbox.dropped
  pub upcalls : SchedulesHeld own o

pub schedules : (driver number : ℕ) (args : List ℕ) (own : Own) → Queues own (own_scheduled driver number args own)
schedules driver number args own =
    let upcall = upcall_of driver number args own in
    let c = counted upcall own in
    record {
      limit = c.limit;
      rest = refl;
      dropped = c.dropped;
      upcalls = record { upcall = Some upcall; inbox = refl; held = refl };
    }

-- there are as many bytes as before, where what is a process's own is whole, and its break not above its kernel break
abbrev pub AsMany : Own → List ℕ → Type 0
AsMany own ram = IsWhole own → own.layout.brk ≤ kernel_break_of own → length ram ≡ length own.ram

pub as_before : (own : Own) → AsMany own own.ram
as_before own whole low = refl

-- what a driver may do to a process that it serves, beside the request: write into its bytes, and have it told
pub record Serves (own o : Own) : Type 0 where
  pub size : AsMany own o.ram
  pub limit : KeepsLimit own o
  pub rest : o ≡ record own { ram = o.ram; inbox = o.inbox }
  pub dropped : IsAtMostOneMore own.inbox.dropped o.inbox.dropped
  pub upcalls : SchedulesHeld own o

-- it has bytes written, or not, and is told
pub serves : (driver number : ℕ) (args ram : List ℕ) (own : Own) → AsMany own ram
    → Serves own (own_scheduled driver number args (record own { ram = ram }))
serves driver number args ram own size =
    let q = schedules driver number args (record own { ram = ram }) in
    record {
      size = λ whole low. ap (λ (o : Own). length o.ram) q.rest ∙ size whole low;
      limit = record { limit = q.limit.limit; room = q.limit.room };
      rest = subst (λ (o : Own). o ≡ record own { ram = o.ram; inbox = o.inbox }) (sym q.rest)
          refl;
      dropped = q.dropped;
      upcalls = record { upcall = q.upcalls.upcall; inbox = q.upcalls.inbox; held = q.upcalls.held };
    }

-- it has bytes written, or not
pub serves_silently : (ram : List ℕ) (own : Own) → AsMany own ram → Serves own (record own { ram = ram })
serves_silently ram own size =
    record {
      size = size;
      limit = record { limit = λ few. few; room = λ few. refl };
      rest = refl;
      dropped =
          none_more own.inbox.dropped;
      upcalls = schedules_none own _ refl;
    }
