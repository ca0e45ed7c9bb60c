-- What `===` and `==` see of a value. Assumes nothing.
use Rattle.std.specs.Prelude.{[], ◌∷◌, if◌then◌else◌}
use Rattle.machine.specs.Convert.{Seen, seen}
use Rattle.convert.specs.declared.Shown.{Shown}
use Rattle.convert.specs.declared.Shown.TheVariants.{Undefined, Null, Boolean, Number, Text, Object, Function}

-- the machine's kinds and contents
abbrev pub seen_of : Shown → Seen
seen_of Undefined = seen 0 []
seen_of Null = seen 1 []
seen_of (Boolean b) = seen 2 ((if b then 1 else 0) ∷ [])
seen_of (Number x) = seen 3 (x ∷ [])
seen_of (Text s) = seen 4 s.now
seen_of (Object i) = seen 5 (i ∷ [])
seen_of (Function i) = seen 6 (i ∷ [])
