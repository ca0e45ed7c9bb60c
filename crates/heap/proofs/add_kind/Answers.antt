use Rattle.std.proofs.Common.{◌≡◌, refl}
use denote.Enum.Declared.{tag_of}
use Rattle.heap.specs.contracts.ObjectType.{the_type}
use Rattle.heap.specs.declared.ObjectType.{ObjectType}
use Rattle.heap.specs.declared.ObjectType.TheVariants.{Ordinary, Array}
use Rattle.heap.specs.View.{kind_of, kind_is}
use Rattle.heap.specs.Laws.{kind_added}
use Rattle.heap.proofs.add_kind.Goals as goal

-- a kind's number is its word
word_of : (k : ObjectType) → kind_of (tag_of the_type k) ≡ kind_is k
word_of Ordinary = refl
word_of Array = refl

pub returns : goal.returns
returns c = kind_added c.args.z c.args.heap.now c.requires.sized (kind_is c.args.kind) _ _ (word_of c.args.kind) c.requires.objects_lt_object_limit refl
