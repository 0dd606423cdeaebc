-- How the program says why it builds no tree from ranges.
-- Source: this project's own.
use Rattle.std.specs.Prelude.{ℕ, List, ◌++◌, codes, decimal}
use Rattle.mt_bulk.specs.declared.errors.BulkError.{BulkError}
use Rattle.mt_bulk.specs.declared.errors.BulkError.TheVariants.{Order, TooMany, NoMemory}

abbrev pub error_text : BulkError → List ℕ
error_text (Order at) = codes "range " ++ (decimal at ++ codes " is out of order")
error_text (TooMany rows) = codes "too many rows: " ++ decimal rows
error_text NoMemory = codes "out of memory"
