-- The alarm of a process that hands a pair to a driver, by what is kept for the alarm's driver.
use Rattle.std.proofs.Common.{◌≡◌, ◌∙◌, ℕ, ap}
use Rattle.tk_base.specs.declared.kinds.PairKind.{PairKind}
use Rattle.process_model.specs.Own.{Own}
use Rattle.process_model.specs.Handed.{handing}
use Rattle.driver_model.specs.Alarm.{alarm_driver, alarm_in, armed_in}
use Rattle.kernel_model.proofs.Values.{alarm_blank, entering_read, kept_handing}

pub handed_alarm : (kind : PairKind) (driver number : ℕ) (pair : ℕ × ℕ) (own : Own)
    → alarm_in (handing kind driver number pair own) ≡ alarm_in own
handed_alarm kind driver number pair own =
    ap armed_in (kept_handing alarm_driver driver kind number pair own)
    ∙ entering_read alarm_driver armed_in alarm_blank driver own
