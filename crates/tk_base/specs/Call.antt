-- How a system call is refused (TRD 104, "Error codes").
use Rattle.std.specs.Prelude.{ℕ}
use Rattle.tk_base.specs.declared.call.ErrorCode.{ErrorCode}
use Rattle.tk_base.specs.declared.call.ErrorCode.TheVariants as codes
use Rattle.tk_base.specs.declared.call.CallRule.{CallRule}
use Rattle.tk_base.specs.declared.call.CallRule.TheVariants as rules

-- the numbers of TRD 104's table of error codes
abbrev pub code_of : ErrorCode → ℕ
code_of codes.FAIL = 1
code_of codes.BUSY = 2
code_of codes.ALREADY = 3
code_of codes.OFF = 4
code_of codes.RESERVE = 5
code_of codes.INVAL = 6
code_of codes.SIZE = 7
code_of codes.CANCEL = 8
code_of codes.NOMEM = 9
code_of codes.NOSUPPORT = 10
code_of codes.NODEVICE = 11
code_of codes.UNINSTALLED = 12
code_of codes.NOACK = 13
code_of codes.BADRVAL = 1024

-- the error of each rule
abbrev pub error_of : CallRule → ErrorCode
error_of rules.Permission = codes.NODEVICE
error_of rules.NoDriver = codes.NODEVICE
error_of rules.NoNumber = codes.NOSUPPORT
error_of rules.NoCommand = codes.NOSUPPORT
error_of rules.NoOperation = codes.NOSUPPORT
error_of rules.Outside = codes.INVAL
error_of rules.Range = codes.INVAL
error_of rules.NoRoom = codes.NOMEM
error_of rules.Break = codes.NOMEM
error_of rules.Busy = codes.BUSY
error_of rules.Empty = codes.SIZE
error_of rules.Nothing = codes.ALREADY
error_of rules.Index = codes.FAIL
