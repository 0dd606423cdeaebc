-- What the definitions beside this file take from the toolchain and from the crates below, under one name. Declares nothing.
pub use Rattle.mt_base.specs.Names.{History, IsLegal, IsTrueRead, Record, find_at, greatest_of, holder_of, kind_text, last_map, map_at, most_lanes, place_after, place_within, range_text}
pub use Rattle.mt_base.specs.declared.calls.Call.{Call}
pub use Rattle.mt_base.specs.declared.calls.Call.TheVariants.{Alloc, Clear, Erase, Gap, Insert, Ralloc, Rgap, Store, StorePre}
pub use Rattle.mt_base.specs.declared.calls.Query.{Query}
pub use Rattle.mt_base.specs.declared.calls.Query.TheVariants.{Find, Load, Next, Prev, Rfind}
pub use Rattle.mt_base.specs.declared.kinds.Kind.{Kind}
pub use Rattle.mt_base.specs.declared.ranges.Range.{Range}
pub use Rattle.mt_base.specs.declared.replies.Holder.{Holder}
pub use Rattle.mt_base.specs.declared.replies.Reply.{Reply}
pub use Rattle.mt_base.specs.declared.replies.Shortage.{Shortage}
