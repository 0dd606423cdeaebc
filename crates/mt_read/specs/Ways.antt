-- Which query a way to a neighbour is, and what is left of a range by its bound.
-- Source: the kernel's documentation of the maple tree, mt_next, mt_prev and mas_find_rev.
use Rattle.std.specs.Prelude.{ℕ, Option}
use Rattle.mt_read.specs.Prelude.{Kind, Range, Query, Next, Prev, Rfind, greatest_of}
use Rattle.mt_read.specs.declared.ways.Way.{Way}
use Rattle.mt_read.specs.declared.ways.Way.TheVariants as ways
use Rattle.mt_read.specs.Answers.{not_below, within}

-- the query with its bound, and without one
abbrev pub query_by : Way → ℕ → ℕ → Query
query_by ways.Next index bound = Next index bound
query_by ways.Prev index bound = Prev index bound
query_by ways.Rfind index bound = Rfind index bound

abbrev pub whole_query : Way → Kind → ℕ → Query
whole_query ways.Next kind index = Next index (greatest_of kind)
whole_query ways.Prev kind index = Prev index 0
whole_query ways.Rfind kind index = Rfind index 0

-- the range, where the bound admits it
abbrev pub bounded : Way → ℕ → ℕ → Option Range → Option Range
bounded ways.Next index bound range = within 0 bound range
bounded ways.Prev index bound range = not_below bound bound range
bounded ways.Rfind index bound range = not_below index bound range
