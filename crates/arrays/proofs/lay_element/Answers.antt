use Rattle.std.proofs.Common.{refl, ◌∙◌}
use Rattle.arrays.specs.Keys.{key_text}
use Rattle.arrays.specs.Arrays.{laid_element}
use Rattle.arrays.proofs.lay_element.Goals as goal

pub returns : goal.returns
returns c = laid_element c.args.heap.now c.args.text.now c.args.k c.args.id c.args.e c.args.i c.args.v _ c.write-end.result _ _ _ (c.layout-l.ensures.text ∙ key_text c.args.i _ c.requires.k_in_bounds.1 c.js_int.ensures) c.write-end.ensures refl c.write_row.ensures
