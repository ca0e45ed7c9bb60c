use Rattle.reach.specs.Reaches.{load_lifts, store_lifts, index_lifts, loaded_lifts}
use Rattle.reach.proofs.execute.Goals as goal

pub returns-in-3-clause-reaches : goal.returns-in-3-clause-reaches
returns-in-3-clause-reaches c = rw c.in-3.is (λ rows starts o. load_lifts c.load_global.ensures.quickly o)

pub returns-in-4-clause-reaches : goal.returns-in-4-clause-reaches
returns-in-4-clause-reaches c = rw c.in-4.is (λ rows starts o. store_lifts (c.store_global.ensures.reaches o))

pub returns-in-5-clause-reaches : goal.returns-in-5-clause-reaches
returns-in-5-clause-reaches c = rw c.in-5.is (λ rows starts o. load_lifts c.load_property.ensures.quickly o)

pub returns-in-6-clause-reaches : goal.returns-in-6-clause-reaches
returns-in-6-clause-reaches c = rw c.in-6.is (λ rows starts o. store_lifts (c.store_property.ensures.reaches o))

pub returns-in-7-clause-reaches : goal.returns-in-7-clause-reaches
returns-in-7-clause-reaches c = rw c.in-7.is (λ rows starts o. index_lifts (c.load_index.ensures.quickly c.args.code.now c.requires.code_in_bounds) o)

pub returns-in-8-clause-reaches : goal.returns-in-8-clause-reaches
returns-in-8-clause-reaches c = rw c.in-8.is (λ rows starts o. loaded_lifts (c.store_index.ensures.reaches c.args.code.now o c.requires.code_in_bounds))
