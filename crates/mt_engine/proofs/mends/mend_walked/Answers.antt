use Rattle.mt_engine.proofs.Prelude.{finds_room}
use Rattle.mt_engine.proofs.Mended.{along_at, is_way, mended}
use Rattle.mt_engine.proofs.mends.mend_walked.Goals as goal

pub mend_way-requires : goal.mend_way-requires
mend_way-requires g c =
    let s = g.R.Rows.sheet c.args.rows.now in
    let s₁ = g.R.Rows.sheet c.walk_to.new.rows in
    let path = c.walk_to.new.path.items in
    let kind = c.requires.0 in
    record { way = (finds_room kind, is_way kind s s₁ c.args.index path c.leaf_on.result c.requires.1 c.walk_to.ensures.reads.rest (along_at path c.leaf_on.result c.leaf_on.ensures c.walk_to.ensures.path)) }

pub returns : goal.returns
returns g c = λ kind may.
    let s = g.R.Rows.sheet c.args.rows.now in
    let s₁ = g.R.Rows.sheet c.walk_to.new.rows in
    let s₂ = g.R.Rows.sheet c.mend_way.new.rows in
    let path = c.walk_to.new.path.items in
    let way = is_way kind s s₁ c.args.index path c.leaf_on.result may c.walk_to.ensures.reads.rest (along_at path c.leaf_on.result c.leaf_on.ensures c.walk_to.ensures.path) in
    mended kind s s₁ s₂ path c.args.index may c.walk_to.ensures.reads.rest c.mend_way.ensures.rest (c.mend_way.ensures.gaps (finds_room kind) way) c.mend_way.ensures.words (λ h stands. c.mend_way.ensures.spans (finds_room kind) h stands)
