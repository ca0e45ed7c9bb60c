-- The number of the question that each error is about, and its text. Assumes nothing.
use Rattle.std.specs.Prelude.{ℕ, List, codes}
use Rattle.reader.specs.Errors.{question}
use Rattle.reader.specs.Errors as Reader
use Rattle.image.specs.declared.error.LoadError.{LoadError}
use Rattle.image.specs.declared.error.LoadError.TheVariants.{Image, CodeFull, ImagesFull, StoreSizes}

abbrev pub asked : LoadError → ℕ
asked (Image e) = question e
asked CodeFull = 8
asked ImagesFull = 9
asked StoreSizes = 33

abbrev pub text_of : LoadError → List ℕ
text_of (Image e) = Reader.text_of e
text_of CodeFull = codes "the code store is full"
text_of ImagesFull = codes "the table of images is full"
text_of StoreSizes = codes "a store is not of its listed size"
