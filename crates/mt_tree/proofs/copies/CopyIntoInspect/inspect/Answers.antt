use Rattle.mt_tree.proofs.Prelude.{refl, sym, ap, ◌∙◌, Width, kind_width, sheet_in, new_sheet, live_rows, map_by, Sheet}
use Rattle.mt_tree.proofs.Forms.{high_as, lawful_as, live_as, ready_there, reads_through}
use Rattle.mt_tree.proofs.copies.CopyIntoInspect.inspect.Goals as goal

pub copy_out-requires-clause-lawful : goal.copy_out-requires-clause-lawful
copy_out-requires-clause-lawful g c = (c.args.engine.kind, c.parts-rows.ensures.idle.state.kept.lawful)

pub copy_out-requires-clause-live : goal.copy_out-requires-clause-live
copy_out-requires-clause-live g c = c.live-live.ensures ∙ live_as _ _ _ _ c.parts-rows.ensures.rows c.parts-rows.ensures.idle

pub copy_out-requires-clause-rows : goal.copy_out-requires-clause-rows
copy_out-requires-clause-rows g c =
    c.requires.may.0 ∙ ap (λ (width : Width). new_sheet width c.args.self.own.rows) (sym (c.parts-rows.ensures.idle.state.kept.lawful.width ∙ ap kind_width (sym c.requires.kind)))

pub of_height-requires-clause-height : goal.of_height-requires-clause-height
of_height-requires-clause-height g c = high_as _ _ _ c.height-height.result c.parts-rows.ensures.rows c.copy_out.ensures.rest c.height-height.ensures

pub returns-clause-rest : goal.returns-clause-rest
returns-clause-rest g c = reads_through _ _ _ _ c.parts-rows.ensures.rows c.copy_out.ensures.rest c.of_height.ensures.sheet

pub returns-clause-finds : goal.returns-clause-finds
returns-clause-finds g c =
    let lawful = lawful_as _ _ _ _ _ c.parts-rows.ensures.rows (sym c.requires.kind) c.parts-rows.ensures.idle in
    let live = live_as _ _ _ _ c.parts-rows.ensures.rows c.parts-rows.ensures.idle in (
      c.live-live.ensures ∙ (live ∙ ap (λ (s : Sheet). live_rows s.tree) c.parts-rows.ensures.rows),
      λ room. ready_there c.args.kind c.args.kind _ _ c.args.self.own.rows (sheet_in c.copy_out.new.dst) c.copy_out.new.book refl (ap (λ (s : Sheet). map_by s.tree) c.parts-rows.ensures.rows) (c.copy_out.ensures.copy room _ lawful),
    )
