-- What the host gives, as the machine has it. Assumes nothing.
use Rattle.machine.specs.Act as A
use Rattle.value.specs.Words.{value_of}
use Rattle.host.specs.declared.given.Given.{Given}
use Rattle.host.specs.declared.given.Given.TheVariants.{Plain, Bytes}

abbrev pub given_of : Given → A.Given
given_of (Plain v) = A.plain (value_of v)
given_of (Bytes bs) = A.as_bytes bs.now
