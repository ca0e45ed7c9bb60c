-- The state with another field: antt has no record update. Assumes nothing.
use Rattle.std.specs.Prelude.{List, ℕ}
use Rattle.machine.specs.Value.{Value}
use Rattle.machine.specs.Image.{Template}
use Rattle.machine.specs.State.{State, Frame, Handler, Function, Kind, Property, Global}

abbrev pub set_code : List ℕ → State → State
set_code x s = record { code = x; images = s.images; operands = s.operands; slots = s.slots; frames = s.frames; handlers = s.handlers; functions = s.functions; objects = s.objects; properties = s.properties; globals = s.globals; text = s.text; output = s.output }

abbrev pub set_images : List (List Template) → State → State
set_images x s = record { code = s.code; images = x; operands = s.operands; slots = s.slots; frames = s.frames; handlers = s.handlers; functions = s.functions; objects = s.objects; properties = s.properties; globals = s.globals; text = s.text; output = s.output }

abbrev pub set_operands : List Value → State → State
set_operands x s = record { code = s.code; images = s.images; operands = x; slots = s.slots; frames = s.frames; handlers = s.handlers; functions = s.functions; objects = s.objects; properties = s.properties; globals = s.globals; text = s.text; output = s.output }

abbrev pub set_slots : List Value → State → State
set_slots x s = record { code = s.code; images = s.images; operands = s.operands; slots = x; frames = s.frames; handlers = s.handlers; functions = s.functions; objects = s.objects; properties = s.properties; globals = s.globals; text = s.text; output = s.output }

abbrev pub set_frames : List Frame → State → State
set_frames x s = record { code = s.code; images = s.images; operands = s.operands; slots = s.slots; frames = x; handlers = s.handlers; functions = s.functions; objects = s.objects; properties = s.properties; globals = s.globals; text = s.text; output = s.output }

abbrev pub set_handlers : List Handler → State → State
set_handlers x s = record { code = s.code; images = s.images; operands = s.operands; slots = s.slots; frames = s.frames; handlers = x; functions = s.functions; objects = s.objects; properties = s.properties; globals = s.globals; text = s.text; output = s.output }

abbrev pub set_functions : List Function → State → State
set_functions x s = record { code = s.code; images = s.images; operands = s.operands; slots = s.slots; frames = s.frames; handlers = s.handlers; functions = x; objects = s.objects; properties = s.properties; globals = s.globals; text = s.text; output = s.output }

abbrev pub set_objects : List Kind → State → State
set_objects x s = record { code = s.code; images = s.images; operands = s.operands; slots = s.slots; frames = s.frames; handlers = s.handlers; functions = s.functions; objects = x; properties = s.properties; globals = s.globals; text = s.text; output = s.output }

abbrev pub set_properties : List Property → State → State
set_properties x s = record { code = s.code; images = s.images; operands = s.operands; slots = s.slots; frames = s.frames; handlers = s.handlers; functions = s.functions; objects = s.objects; properties = x; globals = s.globals; text = s.text; output = s.output }

abbrev pub set_globals : List Global → State → State
set_globals x s = record { code = s.code; images = s.images; operands = s.operands; slots = s.slots; frames = s.frames; handlers = s.handlers; functions = s.functions; objects = s.objects; properties = s.properties; globals = x; text = s.text; output = s.output }

abbrev pub set_text : List ℕ → State → State
set_text x s = record { code = s.code; images = s.images; operands = s.operands; slots = s.slots; frames = s.frames; handlers = s.handlers; functions = s.functions; objects = s.objects; properties = s.properties; globals = s.globals; text = x; output = s.output }

abbrev pub set_output : List ℕ → State → State
set_output x s = record { code = s.code; images = s.images; operands = s.operands; slots = s.slots; frames = s.frames; handlers = s.handlers; functions = s.functions; objects = s.objects; properties = s.properties; globals = s.globals; text = s.text; output = x }
