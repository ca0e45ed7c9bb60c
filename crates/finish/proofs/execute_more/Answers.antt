use mathlib.Core.Path.{refl}
use Rattle.value.specs.declared.JsVmError.TheVariants.{UnknownOpcode}
use Rattle.outcome.specs.Meets as Part
use Rattle.heapops.specs.Turns.{mem}
use Rattle.heapops.specs.Follows.{fails}
use Rattle.finish.specs.Laws.{to_loaded, looks_below, by_part}
use Rattle.finish.proofs.execute_more.Goals as goal

pub returns-in-Lookup : goal.returns-in-Lookup
returns-in-Lookup c = rw c.in-Lookup.is (by_part (rw (c.new-texts.ensures, c.new-held.ensures) at c.look_up-r.ensures) (looks_below (mem c.args.stacks.now c.args.heap.now c.args.text.now c.args.output.now)) to_loaded c.complete.ensures)

pub returns-in-Change : goal.returns-in-Change
returns-in-Change c = rw c.in-Change.is (c.change.ensures c.args.rows.now c.args.starts.now c.args.output.now)

pub returns-in-Unknown : goal.returns-in-Unknown
returns-in-Unknown c = rw c.in-Unknown.is (fails (Part.fails {e = UnknownOpcode c.in-Unknown.b} refl) c.failed.ensures)
