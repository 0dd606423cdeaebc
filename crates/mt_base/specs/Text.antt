-- How kinds and ranges are printed. How a reply is printed depends on the log's version.
use Rattle.std.specs.Prelude.{ℕ, List, ◌++◌, codes, decimal}
use Rattle.mt_base.specs.declared.kinds.Kind.{Kind}
use Rattle.mt_base.specs.declared.kinds.Kind.TheVariants as kinds
use Rattle.mt_base.specs.declared.ranges.Range.{Range}

abbrev pub kind_text : Kind → List ℕ
kind_text kinds.Range = codes "range"
kind_text kinds.Alloc = codes "alloc"
kind_text kinds.Range32 = codes "range32"
kind_text kinds.Alloc32 = codes "alloc32"

-- a range as its first index, its last index and its entry
abbrev pub range_text : Range → List ℕ
range_text r = decimal r.first ++ (codes " " ++ (decimal r.last ++ (codes " " ++ decimal r.entry)))
