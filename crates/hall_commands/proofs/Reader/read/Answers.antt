-- The refusals in their order, or the data at the pointer.
-- Assumes nothing.
use native.Mathlib.Omega.{arith}
use Rattle.hall_commands.proofs.Reading.{upload_long, lent_length, other_slot, other_command, overrun, read_taken}
use Rattle.hall_commands.proofs.Reader.read.Goals as goal
use Rattle.hall_commands.proofs.Reader.read.Goals.{then-memory-self-via-then-memory-self, then-memory-self-via-else-memory-self+then-memory-self-2}

pub returns-then-self-gt255 : goal.returns-then-self-gt255
returns-then-self-gt255 c = other_slot c.args.self.now c.args.command.now c.args.memory.now c.if-self-gt255.true

pub returns-then-not-is_upload : goal.returns-then-not-is_upload
returns-then-not-is_upload c =
    let a = c.args in
    other_command a.self.now a.command.now a.memory.now c.if-self-gt255.false (cc)

pub slice_bounds-data-count : goal.slice_bounds-data-count
slice_bounds-data-count c = upload_long c.args.self.now.slot c.args.command.now (cc)

pub slice_bounds-data-start : goal.slice_bounds-data-start
slice_bounds-data-start c = omega (arith, upload_long c.args.self.now.slot c.args.command.now (cc))

pub returns-then-memory-self : goal.returns-then-memory-self
returns-then-memory-self c =
    let a = c.args in
    overrun a.self.now a.command.now a.memory.now c.if-self-gt255.false (cc) (elim c.then-memory-self.branch [ then-memory-self-via-then-memory-self w ↦ omega arith | then-memory-self-via-else-memory-self+then-memory-self-2 w ↦ omega (arith, lent_length) ])

pub returns : goal.returns
returns c =
    let a = c.args in
    read_taken a.self.now a.command.now a.memory.now c.if-self-gt255.false (cc) (omega (arith, lent_length)) c.put_at.ensures
