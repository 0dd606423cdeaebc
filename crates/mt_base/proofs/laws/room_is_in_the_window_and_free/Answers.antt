use Rattle.mt_base.proofs.FreeAreas.{low_is_room, high_is_room}
use Rattle.mt_base.proofs.laws.room_is_in_the_window_and_free.Goals as goal

pub returns-clause-lowest : goal.returns-clause-lowest
returns-clause-lowest c = low_is_room

pub returns-clause-highest : goal.returns-clause-highest
returns-clause-highest c = high_is_room
