use Rattle.mt_c.proofs.Prelude.{◌∙◌, sheet_in, high_as, live_as}
use Rattle.mt_c.proofs.Copying.{copy_told, lacks_told, used_count}
use Rattle.mt_c.proofs.copies.copy_of.Goals as goal

pub fitted-made-requires-clause-used : goal.fitted-made-requires-clause-used
fitted-made-requires-clause-used c = used_count (sheet_in c.parts-src.result.0).tree c.parts-src.result.1 c.live.result c.live.ensures (live_as _ _ _ _ c.parts-src.ensures.rows c.parts-src.ensures.idle)

pub of_height-requires-clause-height : goal.of_height-requires-clause-height
of_height-requires-clause-height c = high_as _ _ _ c.height-height.result c.parts-src.ensures.rows c.fitted-made.ensures.rest c.height-height.ensures

pub returns-clause-copy : goal.returns-clause-copy
returns-clause-copy c =
    copy_told c.args.engine (sheet_in c.parts-src.result.0) c.args.wanted.kind c.live.result c.args.wanted.rows c.parts-src.ensures.rows c.requires (c.live.ensures ∙ live_as _ _ _ _ c.parts-src.ensures.rows c.parts-src.ensures.idle)
    c.fitted-made.result (λ whole. whole.value.engine) c.fitted-made.ensures.fits c.fitted-made.ensures.tree

pub returns-clause-lacks : goal.returns-clause-lacks
returns-clause-lacks c =
    lacks_told c.args.engine (sheet_in c.parts-src.result.0) c.args.wanted.kind c.live.result c.args.wanted.rows c.parts-src.ensures.rows c.requires (c.live.ensures ∙ live_as _ _ _ _ c.parts-src.ensures.rows c.parts-src.ensures.idle)
    c.fitted-made.result c.fitted-made.ensures.lacks
