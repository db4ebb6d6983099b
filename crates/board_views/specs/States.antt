-- All that there is to see of a board: the report, who waits for devices, and for each slot lines of what the kernel
-- keeps of its process. Their form is this tool's own.
use Rattle.std.specs.Prelude.{ℕ, List, [], ◌∷◌, ◌++◌, codes, slice_get, Option, None, Some}
use Rattle.std.specs.List.{flat_map, range_with_len}
use Rattle.tk_base.specs.Access.{cause_of}
use Rattle.tk_base.specs.declared.access.Denial.{Denial}
use Rattle.tk_base.specs.declared.limits.TheConstants.{SLOT_COUNT}
use Rattle.tk_base.specs.declared.upcall.Upcall.{Upcall}
use Rattle.process_layout.specs.LayoutView.{LayoutView}
use Rattle.grant_model.specs.Encoding.{area_words}
use Rattle.grant_model.specs.Grants.{Grant}
use Rattle.process_model.specs.Own.{layout_of}
use Rattle.process_record.specs.declared.process.Process.{Process}
use Rattle.process_record.specs.declared.process.RecordedRefusal.{RecordedRefusal}
use Rattle.kernel_model.specs.Record.{Record}
use Rattle.kernel_model.specs.World.{World}
use Rattle.kernel_model.specs.Shown.{summary_of}
use Rattle.board_report.specs.Report.{report_text}
use Rattle.run_text.specs.Parts.{run_end_of}
use Rattle.board_views.specs.Lines.{line_text, slot_line, words_text}
use Rattle.board_views.specs.Places.{at_text}

-- where a process lies: its object, its accessible flash, and its block
unfoldable pub lies_text : ℕ → Process → LayoutView → List ℕ
lies_text slot p e =
    slot_line (codes "object ") slot (p.object.address ∷ p.object.size ∷ [])
    ++ (slot_line (codes "flash ") slot (e.flash_start ∷ e.flash_end ∷ [])
    ++ slot_line (codes "block ") slot (e.start ∷ e.end ∷ []))

-- its break, its kernel break, and pc
unfoldable pub breaks_text : ℕ → Process → LayoutView → List ℕ
breaks_text slot p e =
    slot_line (codes "break ") slot (e.brk ∷ [])
    ++ (slot_line (codes "kernel-break ") slot (e.kernel_break ∷ [])
    ++ slot_line (codes "pc ") slot (p.regs.pc ∷ []))

-- its last denial: 1, its cause and its address; all 0 where there was none
abbrev pub denial_words : Option Denial → List ℕ
denial_words None = 0 ∷ 0 ∷ 0 ∷ []
denial_words (Some d) = 1 ∷ cause_of d ∷ d.address ∷ []

-- its last refused call, if there was one
abbrev pub refused_text : ℕ → Option RecordedRefusal → List ℕ
refused_text slot None = []
refused_text slot (Some refusal) = slot_line (codes "refused-at ") slot (refusal.address ∷ [])

unfoldable pub ends_text : ℕ → Process → List ℕ
ends_text slot p = slot_line (codes "denied ") slot (denial_words p.denial) ++ refused_text slot p.refusal

-- an upcall that waits
abbrev pub upcall_words : Upcall → List ℕ
upcall_words u = u.driver ∷ u.number ∷ u.function ∷ u.app ∷ u.args

abbrev pub pending_text : ℕ → List Upcall → List ℕ
pending_text slot upcalls = flat_map (λ u. slot_line (codes "pending ") slot (upcall_words u)) upcalls

-- the lines of a process, but for its grants
unfoldable pub seen_text : ℕ → Process → LayoutView → List Upcall → List ℕ
seen_text slot p e upcalls =
    lies_text slot p e ++ (breaks_text slot p e ++ (ends_text slot p ++ pending_text slot upcalls))

-- a grant: the words of its area, which are its driver, how many bytes it takes, its pairs, and what the driver keeps
abbrev pub grant_text : ℕ → Grant → List ℕ
grant_text slot g = slot_line (codes "grant ") slot (area_words g)

-- the grants of a process, the last entered first
abbrev pub grants_in : ℕ → Option Record → List ℕ
grants_in slot None = []
grants_in slot (Some r) = flat_map (grant_text slot) r.own.grants

unfoldable pub grants_text : World → ℕ → List ℕ
grants_text w slot = grants_in slot (slice_get w.records slot)

-- all lines of a slot, if it has a process: these, those of its grants, and the line of where it is
abbrev pub seen_in_slot : World → ℕ → Option Record → List ℕ
seen_in_slot w slot None = []
seen_in_slot w slot (Some r) =
    seen_text slot r.process (layout_of r.own) r.own.inbox.pending ++ (grants_text w slot ++ at_text w slot)

unfoldable pub slot_state : World → ℕ → List ℕ
slot_state w slot = seen_in_slot w slot (slice_get w.records slot)

abbrev pub slots_state : World → List ℕ
slots_state w = flat_map (slot_state w) (range_with_len 0 SLOT_COUNT)

-- a line of those that wait: for what, and their slots
abbrev pub waits_text : List ℕ → List ℕ → List ℕ
waits_text name slots = line_text name (words_text slots)

-- those that wait for each device, the one that waits longest first
unfoldable pub queues_text : World → List ℕ
queues_text w =
    let waiting = w.devices.waiting in
    waits_text (codes "waits uart") waiting.writes
    ++ (waits_text (codes "waits receive") waiting.reads
    ++ (waits_text (codes "waits random") waiting.randoms
    ++ waits_text (codes "waits store") waiting.stores))

-- the report, the lines of those that wait, and then those of the slots
unfoldable pub board_state_text : World → List ℕ
board_state_text w = report_text (summary_of w) (run_end_of w) ++ (queues_text w ++ slots_state w)
