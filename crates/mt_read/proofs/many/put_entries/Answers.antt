use Rattle.mt_read.proofs.Prelude.{rules, arith, refl, length, part_of, SeenAt}
use Rattle.mt_read.proofs.Batching.{entries_begin, entry_put}
use Rattle.mt_read.proofs.Descending.{goes_on}
use Rattle.mt_read.proofs.Keeping.{nothing_goes}
use Rattle.mt_read.proofs.many.put_entries.Goals as goal

pub loop-i-init : goal.loop-i-init
loop-i-init g c =
    let q = part_of c.args.pass.now in let put = entries_begin (SeenAt q) (length q.seen) (length q.seen) c.args.indexes.now c.args.entries.now (omega arith) in
    record { stepped = record { of = c.requires.pass; turn = refl }; goes = nothing_goes q; put = put; long = refl; counted = refl; steps = omega arith }

pub loop-i-preserved : goal.loop-i-preserved
loop-i-preserved g c =
    let q = part_of c.args.pass.now in let q₁ = part_of c.loop-i.pass in let q₂ = part_of c.entry_of.new.pass in
    let inv = c.loop-i.invariant in let goes = c.entry_of.ensures.goes in
    record {
      stepped = search rules;
      goes = goes_on q q₁ q₂ inv.goes goes;
      put = entry_put q₁ q₂ goes (length q.seen) c.loop-i.i c.args.indexes.now c.args.entries.now c.loop-i.entries inv.put (search rules) (search rules) _ _ c.entry_of.ensures.answer (search rules) c.unwrap_or.result (search rules);
      long = search rules;
      counted = omega arith;
      steps = omega arith;
    }
