use mathlib.Core.Path.{sym, ◌∙◌}
use Rattle.quick.specs.Quickly.{throws, ok_is}
use Rattle.quick.proofs.control.throw_far.Goals as goal

pub returns : goal.returns
returns c =
    throws c.requires c.if-c-eq0.false c.read_handler-h.result c.with_operands-e.ensures c.if-k-eq0.false c.read_handler-h.ensures c.unwind-u.ensures c.push_copy.ensures
    (ok_is c.push_copy.result (sym c.ok.ensures.value ∙ c.in_ok-f.was)) c.with_ip.ensures
