use Rattle.mt_c.proofs.Prelude.{refl, sheet_in, map_by}
use Rattle.mt_c.proofs.SharedMaps.{good_shape, lacks_memory, lacks_with}
use Rattle.mt_c.proofs.Using.{is_first, new_spare}
use Rattle.mt_c.proofs.shared_maps.first_with.Goals as goal

pub returns-in-Err-clause-lacks : goal.returns-in-Err-clause-lacks
returns-in-Err-clause-lacks c =
    lacks_with c.args.shape _ c.in-Err.ensures.bad (sheet_in c.args.rows.now).tree c.args.shape.kind refl c.in-Err.ensures.counted c.in-Err.ensures.invalid c.in-Err.why c.status_for.result refl c.status_for.ensures

pub first-requires-clause-passes : goal.first-requires-clause-passes
first-requires-clause-passes c = new_spare c.in-Ok.made.0 c.in-Ok.made.1.items _ c.in-Ok.ensures.new.all.of c.in-Ok.ensures.new.passes

pub returns-in-Ok-first-clause-user : goal.returns-in-Ok-first-clause-user
returns-in-Ok-first-clause-user c = (
  good_shape c.args.shape _ c.in-Ok.ensures.bad c.in-Ok.made refl,
  is_first c.args.shape (map_by (sheet_in c.args.rows.now).tree) c.in-Ok.made.0 c.in-Ok.made.1.items c.in-Ok-first.user c.in-Ok.ensures.new c.in-Ok-first.ensures.tree c.in-Ok-first.ensures.passes c.in-Ok-first.ensures.chair c.in-Ok-first.ensures.walk c.in-Ok-first.ensures.none,
)

pub returns-in-Err-first-clause-lacks : goal.returns-in-Err-first-clause-lacks
returns-in-Err-first-clause-lacks c = lacks_memory c.args.shape (sheet_in c.args.rows.now).tree 12 (good_shape c.args.shape _ c.in-Ok.ensures.bad c.in-Ok.made refl) refl
