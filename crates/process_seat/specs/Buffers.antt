-- How a buffer that was lent to be written comes back (TRD 104, "Read-Write Allow"; the userspace-readable allow of
-- Tock's kernel).
use mir.Syntax.{named}
use Rattle.std.specs.Prelude.{ℕ, ◌+◌, ◌≡◌, ◌≤◌, ◌==◌, IsTrue, [], List, length, if◌then◌else◌}
use Rattle.std.specs.Borrow.{Lends, MutBor, Fml, u8, Array}
use Rattle.process_layout.specs.LayoutView.{LayoutView}
use Rattle.board_memory.specs.Memory.{with_run}
use Rattle.tk_base.specs.declared.kinds.PairKind.{PairKind}
use Rattle.tk_base.specs.declared.kinds.PairKind.TheVariants.{ReadOnly}
use Rattle.tk_base.specs.Kinds.{is_writable}
use Rattle.process_model.specs.Own.{Own}
use Rattle.process_model.specs.Handed.{held}
use Rattle.process_model.specs.Flash.{flash_byte}
use Rattle.process_model.specs.Served.{bytes_at, ram_at, with_written, own_written}
use Rattle.tk_base.specs.Bytes.{over}
use Rattle.process_seat.specs.Seen.{Framed, IsLent, own_entered, seen}
use Rattle.process_seat.specs.declared.entered.Entered.{Entered}
use Rattle.process_seat.specs.contracts.entered.Entered.{the_row}

-- where the bytes of a buffer begin; where it has none, at the block's start
abbrev pub buffer_start : LayoutView → ℕ × ℕ → ℕ
buffer_start e buffer = if buffer.1 == 0 then e.start else buffer.0

-- where they end
abbrev pub last_of : LayoutView → ℕ × ℕ → ℕ
last_of e buffer = if buffer.1 == 0 then e.start else buffer.0 + buffer.1

-- the buffer of a kind and a number that the process which was entered has allowed its driver
abbrev pub buffer_held : PairKind → ℕ → Entered → ℕ × ℕ
buffer_held kind n e = held kind (seen e).driver n (own_entered e)

-- a process whose buffer has these bytes
abbrev pub with_buffer : PairKind → ℕ → Entered → List ℕ → Entered
with_buffer kind n e bytes = record e {
  memory = record e.memory {
    now = with_run e.memory.now (buffer_start e.seat.now.layout (buffer_held kind n e)) bytes;
  };
}

abbrev pub LendsBuffer : PairKind → ℕ → MutBor Entered → MutBor (List ℕ) → Fml
LendsBuffer kind n entered buffer =
    Lends (the_row (record { mir = named 1; lft = [] })) (Array u8 0) entered buffer (with_buffer kind n entered.now)

-- other bytes stand in a buffer that was lent: the process's own has them there, it is lent as before, and no more has
-- changed than a visitor may
pub record HasBuffer (kind : PairKind) (n : ℕ) (e : Entered) (bytes : List ℕ) : Type 0 where
  pub own : own_entered (with_buffer kind n e bytes) ≡ with_written kind (seen e).driver n 0 bytes (own_entered e)
  pub lent : IsLent (with_buffer kind n e bytes)
  pub framed : Framed e (with_buffer kind n e bytes)

abbrev pub ABufferIsWritten : Type 0
ABufferIsWritten =
    (kind : PairKind) (n : ℕ) (e : Entered) (bytes : List ℕ) → IsTrue (is_writable kind) → IsLent e
    → length bytes ≡ length (ram_at (own_entered e) (buffer_held kind n e)) → HasBuffer kind n e bytes

-- the bytes of the buffers that a process has allowed a driver
pub record BuffersAreWhole : Type 0 where
  -- there are as many as the process said
  pub read_only : (n : ℕ) (e : Entered) → IsLent e
      → let buffer = buffer_held ReadOnly n e in
      length (bytes_at (flash_byte (seen e).flash) (own_entered e) buffer) ≡ buffer.1
  pub writable : (kind : PairKind) (n : ℕ) (e : Entered) → IsTrue (is_writable kind) → IsLent e
      → let buffer = buffer_held kind n e in
      length (ram_at (own_entered e) buffer) ≡ buffer.1
  -- to put some at a buffer's start, and to write that over the buffer, is to write these at its start
  pub front : (own : Own) (buffer : ℕ × ℕ) (bytes : List ℕ) → length bytes ≤ length (ram_at own buffer)
      → own_written buffer 0 (over (ram_at own buffer) 0 bytes) own ≡ own_written buffer 0 bytes own
  -- to write a buffer's own bytes over it changes nothing
  pub same : (own : Own) (buffer : ℕ × ℕ) → own_written buffer 0 (ram_at own buffer) own ≡ own
