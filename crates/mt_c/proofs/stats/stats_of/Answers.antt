use Rattle.mt_c.proofs.Prelude.{sheet_in}
use Rattle.mt_c.proofs.Counting.{still_high, tells_tree}
use Rattle.mt_c.proofs.stats.stats_of.Goals as goal

pub of_height-requires-clause-height : goal.of_height-requires-clause-height
of_height-requires-clause-height c = still_high _ _ c.height-height.result c.parts-rows.ensures.rows c.height-height.ensures

pub returns-clause-stats : goal.returns-clause-stats
returns-clause-stats c =
    tells_tree c.args.engine (sheet_in c.parts-rows.result.0) c.parts-rows.result.1 c.args.engine.kind _ c.parts-rows.ensures.rows c.parts-rows.ensures.book c.parts-rows.ensures.idle
    c.size.ensures c.free.ensures c.live.ensures c.held.ensures c.height-height.ensures c.requires.calls
