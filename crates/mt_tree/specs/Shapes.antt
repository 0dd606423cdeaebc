-- Which trees may be made: the first field of a shape that is out of range.
-- Source: this project's own; the kernel's trees grow as memory lasts.
use Rattle.std.specs.Prelude.{ℕ, ◌&&◌, not, nat_le, Bool, Option, Some, None, if◌then◌else◌}
use Rattle.mt_tree.specs.Prelude.{most_rows, fewest_rows, most_calls, most_passes}
use Rattle.mt_tree.specs.declared.shapes.Field.{Field}
use Rattle.mt_tree.specs.declared.shapes.Field.TheVariants.{Rows, Passes, Calls}
use Rattle.mt_tree.specs.declared.shapes.Shape.{Shape}

abbrev pub is_within : ℕ → ℕ → ℕ → Bool
is_within least most n = nat_le least n && nat_le n most

abbrev pub first_bad : Shape → Option Field
first_bad s =
    if not (is_within fewest_rows most_rows s.rows) then Some Rows
    else (if not (is_within 1 most_passes s.passes) then Some Passes
    else (if not (is_within 1 most_calls s.calls) then Some Calls else None))
