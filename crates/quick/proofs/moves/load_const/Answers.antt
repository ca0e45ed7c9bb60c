use mathlib.Core.Path.{refl}
use Rattle.machine.specs.Instruction as I
use Rattle.readops.specs.Constants.{constant_some}
use Rattle.image.specs.Near.{near_is}
use Rattle.quick.specs.Quickly.{carry, start_as}
use Rattle.quick.proofs.moves.load_const.Goals as goal

pub returns-in-Number-clause-quickly : goal.returns-in-Number-clause-quickly
returns-in-Number-clause-quickly c = carry (λ y m. constant_some I.load_constant c.requires.operand c.requires.in_frame.runs refl (near_is c.near.ensures c.in_ok-k.was) c.in_ok-k.was c.in-Number.is m) (start_as c.with_ip-e.ensures c.push.ensures.quickly)

pub returns-in-Str-clause-quickly : goal.returns-in-Str-clause-quickly
returns-in-Str-clause-quickly c = carry (λ y m. constant_some I.load_constant c.requires.operand c.requires.in_frame.runs refl (near_is c.near.ensures c.in_ok-k.was) c.in_ok-k.was c.in-Str.is m) (start_as c.with_ip-e.ensures c.push-in-Str.ensures.quickly)

pub returns-in-Bool-clause-quickly : goal.returns-in-Bool-clause-quickly
returns-in-Bool-clause-quickly c = carry (λ y m. constant_some I.load_constant c.requires.operand c.requires.in_frame.runs refl (near_is c.near.ensures c.in_ok-k.was) c.in_ok-k.was c.in-Bool.is m) (start_as c.with_ip-e.ensures c.push-in-Bool.ensures.quickly)

pub returns-in-Null-clause-quickly : goal.returns-in-Null-clause-quickly
returns-in-Null-clause-quickly c = carry (λ y m. constant_some I.load_constant c.requires.operand c.requires.in_frame.runs refl (near_is c.near.ensures c.in_ok-k.was) c.in_ok-k.was c.in-Null.is m) (start_as c.with_ip-e.ensures c.push-in-Null.ensures.quickly)

pub returns-in-Undefined-clause-quickly : goal.returns-in-Undefined-clause-quickly
returns-in-Undefined-clause-quickly c = carry (λ y m. constant_some I.load_constant c.requires.operand c.requires.in_frame.runs refl (near_is c.near.ensures c.in_ok-k.was) c.in_ok-k.was c.in-Undefined.is m) (start_as c.with_ip-e.ensures c.push-in-Undefined.ensures.quickly)
