-- No writer's table, and no seat (token) at a turn. Source: this project's own.
use Rattle.std.specs.Prelude.{[]}
use Rattle.atomic_table.specs.declared.badge.Badge.{Badge}
use Rattle.mt_pen.specs.Prelude.{TurnView, no_shape, Identity}

abbrev pub no_table : Identity
no_table = record { table = record { words = 0; slots = 0; views_name = 0; atom = 0; block = 0; offset = 0; slot_names = [] }; shape = no_shape }

abbrev pub no_turn : Badge TurnView
no_turn = record { marker = record {}; table_id = no_table.table; id = 0; views = [] }
