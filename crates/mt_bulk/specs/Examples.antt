-- Twenty single ranges at every other index.
-- Source: this project's own.
use Rattle.std.specs.Prelude.{◌*◌, List, map}
use Rattle.std.specs.List.{range_with_len}
use Rattle.mt_bulk.specs.Prelude.{Range}

abbrev pub worked_ranges : List Range
worked_ranges = map (λ k. record { first = 2 * k; last = 2 * k; entry = 1 }) (range_with_len 0 20)
