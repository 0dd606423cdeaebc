-- What the definitions beside this file take from the toolchain and from the crates below, under one name. Declares nothing.
pub use Rattle.mt_rows.specs.Names.{Erase, IsMap, Kind, Range, Rooted, acted, kind_width, map_by, most_calls, most_rows, over, places, tree_made}
pub use Rattle.mt_image.specs.Images.{IsImageOf}
pub use Rattle.mt_image.specs.Reading.{Image, image_in}
pub use Rattle.mt_bulk.specs.Bulk.{bulk}
pub use Rattle.mt_ids.specs.Draws.{Found, drawn, position_behind}
pub use Rattle.mt_ids.specs.Window.{Draws, new_draws}
pub use Rattle.mt_ids.specs.declared.ids.Drawn.{Drawn}
pub use Rattle.mt_ids.specs.declared.ids.Drawn.TheVariants.{Busy, Invalid, NoNodes, Number, Worn}
pub use Rattle.mt_tree.specs.Trees.{limit_of, map_seen, opened, pass_in, passes_of, steps_made}
pub use Rattle.mt_tree.specs.declared.cursors.Cursor.{Cursor}
pub use Rattle.mt_tree.specs.declared.trees.Tree.{Tree}
pub use Rattle.mt_log.specs.Names.{IsRun, listing_text, log_text}
pub use Rattle.mt_log.specs.declared.transcripts.Transcript.{Transcript}
pub use Rattle.mt_workload.specs.Made.{made}
pub use Rattle.mt_workload.specs.Summary.{counted, summary_text}
pub use Rattle.mt_desks.specs.Walks.{Walk}
pub use Rattle.mt_replay.specs.Turns.{AllTurned}
