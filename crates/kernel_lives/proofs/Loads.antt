-- That a process could load what is printed of its buffer.
use Rattle.std.proofs.Common.{◌≡◌, ◌<◌, ℕ, ◌+◌, true, false, length}
use Rattle.std.proofs.Common.{slice_get, Option, None, Some, IfSome, refl, subst, arith}
use Rattle.std.proofs.lemmas.Bool.Decides.{nat_tests}
use Rattle.std.proofs.lemmas.List.Elements.{All-weaker}
use Rattle.tk_base.specs.declared.access.Access.TheVariants.{Load}
use Rattle.tk_base.specs.declared.access.Width.TheVariants.{Byte}
use Rattle.grant_values.specs.declared.console.WaitingWrite.{WaitingWrite}
use Rattle.tk_base.specs.declared.kinds.PairKind.TheVariants.{ReadOnly}
use Rattle.process_layout.specs.Bounds.{Bounds}
use Rattle.process_model.specs.Handed.{may_share}
use Rattle.process_model.specs.Permission.{denied}
use Rattle.driver_model.specs.Console.{console, console_writes}
use Rattle.driver_model.specs.Requests.{request_in}
use Rattle.kernel_model.specs.Record.{Record}
use Rattle.kernel_model.specs.World.{World, Label, labels}
use Rattle.kernel_model.specs.Replay.{after_all}
use Rattle.kernel_model.specs.Causes.{AreWhole}
use Rattle.kernel_model.specs.Prints.{AreOfItsBuffer, CouldLoad, IsPrintedBy, PrintsCouldBeLoaded, PrintsItsBuffer}
use Rattle.kernel_model.specs.Turn.{Act, Event}
use Rattle.kernel_model.specs.Turn.{is_act}
use Rattle.kernel_model.specs.Prints.{PrintsWhatItCouldLoad}
use Rattle.kernel_model.specs.Parts.{console_buffer}
use Rattle.kernel_model.specs.Wholes.{OwnsStayWhole}
use Rattle.kernel_lives.proofs.Prints.{prints_are_of_buffers}

-- each byte of a read-only buffer that may be allowed may be loaded
may_load : (e : Bounds) (buffer : ℕ × ℕ) (j : ℕ) → may_share ReadOnly e buffer ≡ true → j < buffer.1
    → denied e Load (buffer.0 + j) Byte ≡ None
unfolding denied
may_load e buffer j may less = grind (arith, nat_tests)

module _ (w : World) (whole : AreWhole w) where
  loads : (label : Label) → PrintsItsBuffer w label → PrintsWhatItCouldLoad w label
  loads label h no_act =
      by_record (slice_get w.records label.slot) refl (λ some. of_buffer label.event (slice_get w.records label.slot)
      no_act (h some).1)
    where
      count : ℕ
      count = length label.printed

      -- what no operator's act prints is of a buffer
      of_buffer : (event : Event) (o : Option Record) → is_act event ≡ false
          → IfSome o (IsPrintedBy event label.slot label.printed) → IfSome o (AreOfItsBuffer label.printed)
      of_buffer event None no_act printed = tt
      of_buffer (Act verb) (Some r) no_act printed = absurd (cc)
      of_buffer event (Some r) no_act printed = printed

      by_record : (o : Option Record) → slice_get w.records label.slot ≡ o
          → (0 < count → IfSome o (AreOfItsBuffer label.printed))
          → IfSome o (λ r. IfSome (request_in console_writes r.own) (λ write. CouldLoad r write.taken count))
      by_record None e h = tt
      by_record (Some r) e h = by_request (request_in console_writes r.own) refl
        where
          by_request : (q : Option WaitingWrite) → request_in console_writes r.own ≡ q
              → IfSome q (λ write. CouldLoad r write.taken count)
          by_request None f = tt
          by_request (Some write) f = λ k less.
              let is = h (omega (arith, less)) in
              let same : is.write ≡ write = cc in
              subst (λ (x : WaitingWrite). denied r.own.layout Load ((console_buffer r).0 + (x.taken + k)) Byte ≡ None)
              same
              (may_load r.own.layout (console_buffer r) (is.write.taken + k)
              ((whole label.slot r e).buffers.each ReadOnly console 1) (is.each k less).0)

pub prints_could_be_loaded : OwnsStayWhole → PrintsCouldBeLoaded
prints_could_be_loaded law w choices choice all =
    let v = after_all w choices in
    All-weaker (PrintsItsBuffer v) (PrintsWhatItCouldLoad v) (loads v (law w choices all)) (labels v choice)
    (prints_are_of_buffers w choices choice)
