use Rattle.mt_c.proofs.Prelude.{rules, ◌∙◌, ap, slice_set}
use Rattle.mt_c.proofs.SharingMany.{put_on}
use Rattle.mt_c.proofs.shared_many.put_ranges.Goals as goal

pub loop-i-preserved : goal.loop-i-preserved
loop-i-preserved c = record {
  put = ap (slice_set c.loop-i.ranges c.loop-i.i) c.out_of.ensures ∙ put_on c.args.found.now c.args.ranges.now c.loop-i.ranges c.loop-i.i _ (search rules) (search rules) c.loop-i.invariant.put;
  long = search rules;
}
