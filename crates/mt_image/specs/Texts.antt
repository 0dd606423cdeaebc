-- How the program says why bytes are no image.
-- Source: this project's own.
use Rattle.std.specs.Prelude.{ℕ, List, ◌++◌, codes, decimal}
use Rattle.mt_image.specs.Prelude.{Law, Name, Depth, Parent, Pivots, Count, Entries, Holes, Gaps}
use Rattle.mt_image.specs.declared.errors.ImageError.{ImageError}
use Rattle.mt_image.specs.declared.errors.ImageError.TheVariants.{Length, Head, Broken, Stray, NoMemory}

abbrev pub law_text : Law → List ℕ
law_text Name = codes "name"
law_text Depth = codes "depth"
law_text Parent = codes "parent"
law_text Pivots = codes "pivots"
law_text Count = codes "count"
law_text Entries = codes "entries"
law_text Holes = codes "holes"
law_text Gaps = codes "gaps"

abbrev pub error_text : ImageError → List ℕ
error_text (Length want got) = codes "length " ++ (decimal want ++ (codes " " ++ decimal got))
error_text (Head at) = codes "head " ++ decimal at
error_text (Broken row law) = codes "row " ++ (decimal row ++ (codes " " ++ law_text law))
error_text (Stray row) = codes "stray row " ++ decimal row
error_text NoMemory = codes "out of memory"
