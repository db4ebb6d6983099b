-- Up to when no device step is ready. Where one that acts at once is ready it is up to now, before which no time
-- passes; else up to the nearer of the next time of a device and the window's end, before which nothing becomes ready
-- (`calm_since`) and the window stays (`same_since`).
use Rattle.std.proofs.Common.{◌≡◌, None, Some, ap, subst, sym, ◌∙◌}
use Rattle.driver_model.specs.Alarm.{nearer}
use Rattle.kernel_model.specs.World.{Work}
use Rattle.board_drivers.specs.Calm.{HasCome, work_then}
use Rattle.board_drivers.proofs.Calm.{calm_now, calm_since, first_has_come, same_since, served_now, serves_nobody}
use Rattle.board_turns.proofs.machine.Machine.look_ahead.Goals as goal

pub returns-then-is_ready-clause-calm : goal.returns-then-is_ready-clause-calm
returns-then-is_ready-clause-calm c =
    let m = c.args.self.now.moment in
    calm_now m.settings.start m.window m.time c.args.self.now.home.owns c.args.self.now.drivers

pub returns-in-Some-clause-calm : goal.returns-in-Some-clause-calm
returns-in-Some-clause-calm c =
    let m = c.args.self.now.moment in
    let owns = c.args.self.now.home.owns in
    let d = c.args.self.now.drivers in
    let served = c.served-served.result in
    let first = sym c.in-Some.is ∙ c.nearer_time.ensures ∙ ap (nearer c.next_time.result) c.window_end.ensures.at in
    let next : c.next_time.result ≡ (work_then m owns d).next =
    c.next_time.ensures.at ∙ ap (λ (w : Work). w.next) (served_now m served owns d c.served-served.ensures.only) in
    let nobody = serves_nobody m served owns d c.served-served.ensures.only
    (sym c.is_ready.ensures ∙ c.if-is_ready.false)
    (sym c.is_ready-else-is_ready.ensures ∙ c.if-is_ready-2.false)
    (sym c.is_ready-else-is_ready-2.ensures ∙ c.if-is_ready-3.false) in
    record {
      none = λ time low high. calm_since m.settings.start m.window m.time time owns d c.next_time.result
          (Some c.in-Some.at) c.windows_are_in_turn.ensures c.no_alarm_is_due_before_the_next.ensures
          nobody next first low high;
      same = λ time low high. same_since m.window m.time time c.next_time.result (Some c.in-Some.at)
          c.windows_are_in_turn.ensures first low high;
    }

pub returns-in-None-clause-calm : goal.returns-in-None-clause-calm
returns-in-None-clause-calm c =
    let m = c.args.self.now.moment in
    let owns = c.args.self.now.home.owns in
    let d = c.args.self.now.drivers in
    let served = c.served-served.result in
    let first = sym c.in-None.is ∙ c.nearer_time.ensures ∙ ap (nearer c.next_time.result) c.window_end.ensures.at in
    let next : c.next_time.result ≡ (work_then m owns d).next =
    c.next_time.ensures.at ∙ ap (λ (w : Work). w.next) (served_now m served owns d c.served-served.ensures.only) in
    let nobody = serves_nobody m served owns d c.served-served.ensures.only
    (sym c.is_ready.ensures ∙ c.if-is_ready.false)
    (sym c.is_ready-else-is_ready.ensures ∙ c.if-is_ready-2.false)
    (sym c.is_ready-else-is_ready-2.ensures ∙ c.if-is_ready-3.false) in
    record {
      none = λ time low high. calm_since m.settings.start m.window m.time time owns d c.next_time.result
          None c.windows_are_in_turn.ensures c.no_alarm_is_due_before_the_next.ensures
          nobody next first low tt;
      same = λ time low high. same_since m.window m.time time c.next_time.result None c.windows_are_in_turn.ensures
          first low tt;
    }

pub returns-in-Some-clause-come : goal.returns-in-Some-clause-come
returns-in-Some-clause-come c low serves =
    let m = c.args.self.now.moment in
    let owns = c.args.self.now.home.owns in
    let d = c.args.self.now.drivers in
    let first = sym c.in-Some.is ∙ c.nearer_time.ensures in
    let next : c.next_time.result ≡ (work_then m owns d).next =
    c.next_time.ensures.at
    ∙ ap (λ (w : Work). w.next) (served_now m c.served-served.result owns d c.served-served.ensures.only) in
    subst (HasCome m.time) next
    (first_has_come m.time c.in-Some.at c.next_time.result c.window_end.result first c.window_end.ensures.ahead low)
