-- How far a cursor of a shared tree has come, as a lane's walk.
-- Source: this project's own.
use Rattle.mt_commands.specs.Prelude.{Cursor, opened, pass_in, steps_made, Walk}

abbrev pub walk_of : Cursor → Walk
walk_of c = record { history = opened c.tree.now; reference = c.pass.ghost_name; pass = pass_in c.pass.now; steps = steps_made c.pass.now; at = c.walk.at; max = c.walk.max }
