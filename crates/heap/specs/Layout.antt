-- Where functions, objects, properties and globals begin in the one lent store, by the limits of document 01. Assumes nothing.
use Rattle.std.specs.Prelude.{ℕ, ◌+◌, ◌*◌}
use Rattle.machine.specs.State.{limit, function_store, object_store, property_store, global_store, text_store}

-- A function has 2 words, an object 1, a property and a global 6.
abbrev pub function_limit : ℕ
function_limit = limit function_store

abbrev pub object_limit : ℕ
object_limit = limit object_store

abbrev pub property_limit : ℕ
property_limit = limit property_store

abbrev pub global_limit : ℕ
global_limit = limit global_store

abbrev pub text_limit : ℕ
text_limit = limit text_store

abbrev pub objects_at : ℕ
objects_at = 2 * function_limit

abbrev pub properties_at : ℕ
properties_at = objects_at + object_limit

abbrev pub globals_at : ℕ
globals_at = properties_at + 6 * property_limit

abbrev pub heap_words : ℕ
heap_words = globals_at + 6 * global_limit
