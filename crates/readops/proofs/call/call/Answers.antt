use native.Mathlib.Omega.{arith}
use Rattle.std.specs.Prelude.{◌≡◌, ◌-◌}
use Rattle.fetch.specs.Running.{got_ready}
use Rattle.readops.specs.Calls.{call_short, not_callable_lem, calls_function, prints_line}
use Rattle.readops.proofs.call.call.Goals as goal

pub returns-in_default-checked_sub : goal.returns-in_default-checked_sub
returns-in_default-checked_sub c = λ places. call_short c.fetch.ensures c.requires.runs c.in-Some.is (let t = rw c.in_default-checked_sub.is at c.checked_sub.ensures in omega (arith, t)) c.underflow.ensures

pub returns-in-Other : goal.returns-in-Other
returns-in-Other c =
    let t = rw c.in-Some-checked_sub.is at c.checked_sub.ensures in
    let a : c.in-Some-checked_sub.at ≡ c.in-Some.e.operands - c.in-Some.argc - 1 = omega (arith, t.1) in
    λ places. not_callable_lem c.fetch.ensures c.requires.runs c.in-Some.is (omega (arith, t.0)) a c.with_operands-f.ensures c.read.ensures c.callee_of.ensures c.in-Other.is c.failed.ensures

pub returns-in-Object : goal.returns-in-Object
returns-in-Object c =
    let t = rw c.in-Some-checked_sub.is at c.checked_sub.ensures in
    let a : c.in-Some-checked_sub.at ≡ c.in-Some.e.operands - c.in-Some.argc - 1 = omega (arith, t.1) in
    λ places. prints_line c.fetch.ensures c.requires.runs c.in-Some.is (omega (arith, t.0)) a c.with_operands-f.ensures c.read.ensures (got_ready c.fetch.ensures c.in-Some.is c.requires.ready) c.callee_of.ensures c.in-Object.is c.left_to_do.ensures

pub returns-in-Function : goal.returns-in-Function
returns-in-Function c =
    let t = rw c.in-Some-checked_sub.is at c.checked_sub.ensures in
    let a : c.in-Some-checked_sub.at ≡ c.in-Some.e.operands - c.in-Some.argc - 1 = omega (arith, t.1) in
    λ places. calls_function c.fetch.ensures c.requires.runs c.in-Some.is (omega (arith, t.0)) a c.with_operands-f.ensures c.read.ensures c.function-g.result c.callee_of.ensures c.in-Function.is c.function-g.ensures c.call_function.ensures
