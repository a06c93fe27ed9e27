-- What is not found of `code::put_line`: what decode refuses, next past memory, and the line in its room.
-- Assumes nothing.
use Rattle.std.proofs.Common.{◌≡◌, ◌+◌, length, arith, []}
use Rattle.std.proofs.lemmas.Result.{err_from_is_err_and}
use Rattle.instruction.proofs.Judging.{done}
use Rattle.views.proofs.Rooming.{no_room_for}
use Rattle.listing.specs.Lines.{code_line}
use Rattle.list_text.proofs.RefusalPutting.{put_shown}
use Rattle.c_answers.proofs.CodeLines.{next_size, undecoded_by, past, within}
use Rattle.c_answers.proofs.code.put_line.Goals as goal

pub returns-in_err-instr : goal.returns-in_err-instr
returns-in_err-instr c =
    let a = c.args in
    let p = err_from_is_err_and c.from_residual.result c.from_residual.ensures.1 in
    let x = undecoded_by a.mode a.position a.bytes.now a.room.now _ c.in_err-instr.ensures in
    record { result_value = rw (p.1, p.2) x.0; room_after = x.1 }

pub overflow_add-next : goal.overflow_add-next
overflow_add-next c =
    let z = next_size c.args.bytes.now (λ n. (c.type_inv.bytes n).fits) c.in_ok-instr.instr c.in_ok-instr.ensures c.size.result c.size.ensures in
    record { fits = omega (arith, z.1) }

pub returns-then-next : goal.returns-then-next
returns-then-next c =
    let a = c.args in
    let z = next_size a.bytes.now (λ n. (c.type_inv.bytes n).fits) c.in_ok-instr.instr c.in_ok-instr.ensures c.size.result c.size.ensures in
    let x = past a.mode a.position a.bytes.now a.room.now c.in_ok-instr.instr c.in_ok-instr.ensures _ (omega (arith, z.0)) (omega arith) in
    record { result_value = x.0; room_after = x.1 }

pub returns-then-room-need : goal.returns-then-room-need
returns-then-room-need c =
    let a = c.args in
    let out = code_line a.mode a.position a.bytes.now in
    let z = next_size a.bytes.now (λ n. (c.type_inv.bytes n).fits) c.in_ok-instr.instr c.in_ok-instr.ensures c.size.result c.size.ensures in
    let long : length out ≡ c.code_line-need.result = omega (arith, c.code_line-need.ensures.next) in
    let x = within a.mode a.position a.bytes.now a.room.now c.in_ok-instr.instr c.in_ok-instr.ensures (a.position + c.size.result)
    (omega (arith, z.0)) (omega arith) _ _
    (no_room_for [] out a.room.now (done 0) c.code_line-need.result long (omega arith)) in
    record { result_value = x.0; room_after = x.1 }

pub returns : goal.returns
returns c =
    let a = c.args in
    let out = code_line a.mode a.position a.bytes.now in
    let z = next_size a.bytes.now (λ n. (c.type_inv.bytes n).fits) c.in_ok-instr.instr c.in_ok-instr.ensures c.size.result c.size.ensures in
    let long : length out ≡ c.code_line-need.result = omega (arith, c.code_line-need.ensures.next) in
    let x = within a.mode a.position a.bytes.now a.room.now c.in_ok-instr.instr c.in_ok-instr.ensures (a.position + c.size.result)
    (omega (arith, z.0)) (omega arith) _ _
    (put_shown out a.room.now _ c.code_line-need.result long (omega arith) c.code_line.ensures.wrote) in
    record { result_value = x.0; room_after = x.1 }
