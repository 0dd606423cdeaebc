use Rattle.mt_engine.proofs.Prelude.{arith, refl, ◌∙◌, map_by, reads_on, length-set}
use Rattle.mt_engine.proofs.Batching.{look_all, look_more}
use Rattle.mt_engine.proofs.batches.put_each.Goals as goal

pub loop-i-preserved : goal.loop-i-preserved
loop-i-preserved g c =
    let s = g.R.Rows.sheet c.args.rows.now in
    let s' = g.R.Rows.sheet c.loop-i.rows in
    record {
      reads = reads_on s s' (g.R.Rows.sheet c.entry_at.new.rows) c.loop-i.invariant.reads c.entry_at.ensures.rest;
      size = length-set _ _ _ ∙ c.loop-i.invariant.size;
      entries = look_more s s' c.args.indexes.now c.args.entries.now c.loop-i.entries c.loop-i.i _ c.unwrap_or.result c.entry_at.result c.loop-i.invariant.reads (omega (arith, c.loop-i-test.true))
          (omega (arith, c.loop-i-test.true, c.requires.places)) c.loop-i.invariant.entries refl c.entry_at.ensures.entry c.unwrap_or.ensures;
    }

pub returns-clause-entries : goal.returns-clause-entries
returns-clause-entries g c =
    let s = g.R.Rows.sheet c.args.rows.now in
    look_all (map_by s.tree) c.args.indexes.now c.args.entries.now c.loop-i.entries c.loop-i.i (omega (arith, c.loop-i-test.false)) c.requires.places c.loop-i.invariant.entries
