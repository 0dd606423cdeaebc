use Rattle.mt_life.proofs.Carrying.{carried}
use Rattle.mt_life.proofs.Forming.{goes}
use Rattle.mt_life.proofs.laws.a_publishing_store_carries_what_is_known.Goals as goal

pub returns : goal.returns
returns c = λ kind s s' place word call reply e e' m m' may done known follows past now.
    (carried kind s s' place word call reply may done e e' m m' known follows past now, goes kind s s' place word call reply may done e e' m m' known follows past now)
