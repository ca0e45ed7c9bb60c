use Rattle.std.proofs.Common.{arith, ◌∙◌, ◌-◌, ◌+◌}
use Rattle.reader.specs.Laws.{wide_step, room_step, room_fits}
use Rattle.reader.proofs.Reader.long.Goals as goal

pub overflow_mul-n : goal.overflow_mul-n
overflow_mul-n c =
    let r = room_step (8 - c.loop.counter) (8 - (c.loop.counter + 1)) c.loop.n 0 (omega arith) (omega arith) c.loop.invariant.fits in
    omega (arith, room_fits _ _ r)

pub overflow_add-n : goal.overflow_add-n
overflow_add-n c =
    let r = room_step (8 - c.loop.counter) (8 - (c.loop.counter + 1)) c.loop.n c.in_ok-byte.field-0 (omega arith) (omega arith) c.loop.invariant.fits in
    omega (arith, room_fits _ _ r)

pub loop-preserved : goal.loop-preserved
loop-preserved c =
    let l = c.loop in
    let g = rw l.invariant.same at c.in_ok-byte.ensures.says.0 in
    rw c.from.ensures (record {
      same = c.in_ok-byte.ensures.src ∙ l.invariant.same;
      on = omega (arith, c.in_ok-byte.ensures.says.1);
      fits = room_step (8 - l.counter) (8 - (l.counter + 1)) l.n c.in_ok-byte.field-0 (omega arith) (omega arith) l.invariant.fits;
      left = l.invariant.left ∙ wide_step (8 - l.counter) (8 - (l.counter + 1)) l.n (omega arith) g;
    })
