-- The number of the question that each error is about, and its text. Assumes nothing.
use Rattle.std.specs.Prelude.{ℕ, List, codes}
use Rattle.reader.specs.declared.error.ImageError.{ImageError}
use Rattle.reader.specs.declared.error.ImageError.TheVariants.{UnexpectedEnd, TemplateCount, ConstantKind, BooleanValue, TextByte, FunctionIndex, TrailingBytes}

abbrev pub question : ImageError → ℕ
question UnexpectedEnd = 1
question TemplateCount = 2
question ConstantKind = 3
question BooleanValue = 4
question TextByte = 5
question FunctionIndex = 6
question TrailingBytes = 7

abbrev pub text_of : ImageError → List ℕ
text_of UnexpectedEnd = codes "the image ends too soon"
text_of TemplateCount = codes "an image has 1 to 256 templates"
text_of ConstantKind = codes "a constant is of an unknown kind"
text_of BooleanValue = codes "a boolean is neither 0 nor 1"
text_of TextByte = codes "a text has a byte above 127"
text_of FunctionIndex = codes "a function is not a later template"
text_of TrailingBytes = codes "bytes are left over"
