use Rattle.mt_splice.proofs.Prelude.{differs_false, rules, ◌∙◌, refl, sym, ap, arith, Sheet, Up}
use Rattle.mt_splice.specs.contracts.decisions.Next.{the_type}
use Rattle.mt_splice.proofs.Climbed.{leaves_deep, may_gather, climbs_up}
use Rattle.mt_splice.proofs.climbing.climb_up.Goals as goal

pub overflow_sub-depth : goal.overflow_sub-depth
overflow_sub-depth g c = let deep = (leaves_deep c.requires).0 in let same = c.len.ensures.value in omega arith

pub gather_above-requires : goal.gather_above-requires
gather_above-requires g c =
    let up = differs_false the_type (search rules) c.draft_level-drafted.result.next Up (sym c.ne.ensures ∙ c.if-ne.false) in
    may_gather (rw up at c.draft_level-drafted.ensures.level) c.as_slice-new.ensures.value

pub loop-rows-preserved : goal.loop-rows-preserved
loop-rows-preserved g c =
    let up = differs_false the_type (search rules) c.draft_level-drafted.result.next Up (sym c.ne.ensures ∙ c.if-ne.false) in (
      climbs_up (rw up at c.draft_level-drafted.ensures.level) c.gather_above.ensures.rest c.as_slice-new.ensures.value c.gather_above.ensures.all refl refl refl refl,
      ap (λ (s : Sheet). s.buried) c.gather_above.ensures.rest ∙ (c.draft_level-drafted.ensures.none_buried ∙ c.loop-rows.invariant.1),
      c.draft_level-drafted.ensures.none_retired ∙ c.loop-rows.invariant.2,
    )
