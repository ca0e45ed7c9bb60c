-- Where each of the four stacks begins in the one lent store, by the limits of documents 01 and 02. Assumes nothing.
use Rattle.std.specs.Prelude.{ℕ, ◌+◌, ◌*◌}
use Rattle.machine.specs.State.{limit, operand_limit, slot_store, frame_store, handler_store}

-- An operand and a slot have 3 words, a frame 5, a handler 3.
abbrev pub slot_limit : ℕ
slot_limit = limit slot_store

abbrev pub frame_limit : ℕ
frame_limit = limit frame_store

abbrev pub handler_limit : ℕ
handler_limit = limit handler_store

abbrev pub slots_at : ℕ
slots_at = 3 * operand_limit

abbrev pub frames_at : ℕ
frames_at = slots_at + 3 * slot_limit

abbrev pub handlers_at : ℕ
handlers_at = frames_at + 5 * frame_limit

abbrev pub stack_words : ℕ
stack_words = handlers_at + 3 * handler_limit
