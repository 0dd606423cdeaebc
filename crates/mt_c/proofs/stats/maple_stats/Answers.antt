use Rattle.mt_c.proofs.Prelude.{rules, refl}
use Rattle.mt_c.proofs.Counting.{stats_open}
use Rattle.mt_c.proofs.stats.maple_stats.Goals as goal

pub returns : goal.returns
returns c = stats_open _ _ c.deref_mut.result.now c.stats-told.new.self 0 c.stats-told.result (search rules) (search rules) c.stats-told.ensures.rest refl c.stats-told.ensures.stats
