-- How a call of a shared tree may end.
-- Source: this project's own.
use Rattle.std.specs.Prelude.{◌≡◌, ◌⊎◌, ◌-◌, ◌^◌, true, false, Some, None, IfSome, Contains}
use Rattle.mt_rule.specs.Prelude.{Call, Holder, Reply, acted, limits_after, IsRefused, Scan, IsRealShortage, NoneBuried, map_by}
use Rattle.mt_rule.specs.declared.views.PenPart.{PenPart}
use Rattle.mt_rule.specs.Scans.{IsScanOf}
use Rattle.mt_rule.specs.Seats.{rooted_in, pen_sheet, tree_of}

-- Nodes are short: the shortage is counted by a scan of this call. Its least epoch is that of the holder that it names, whose
-- section was found open, and the greatest number if it names none.
pub record IsPenShort (p : PenPart) (call : Call) (reply : Reply) : Type 0 where
  pub scan : Scan
  pub refused : IsRefused p.shape.kind (limits_after (tree_of p.shape p.history) p.ended) (map_by (rooted_in p)) call reply
  pub counted : IsRealShortage (record (pen_sheet p) { scan = scan }) refused.shortage
  pub least : ((scan.by ≡ None) × (scan.least ≡ 2 ^ 64 - 1)) ⊎ ((holder : Holder) × (scan.by ≡ Some holder) × (scan.least ≡ holder.epoch))
  pub found : IfSome scan.by (Contains p.loaded)
  pub scanned : IsScanOf p.sections p.shape.passes scan

-- A call that published nothing leaves the map, by its reply or by a refusal, and has buried no node.
pub record EndsQuietly (p : PenPart) (call : Call) (reply : Reply) : Type 0 where
  pub none_buried : NoneBuried p.shape.rows p.buried
  pub answer : (acted p.shape.kind (map_by (rooted_in p)) call ≡ (map_by (rooted_in p), reply)) ⊎ IsPenShort p call reply

pub record MayEnd (p : PenPart) (call : Call) (reply : Reply) : Type 0 where
  pub in_flight : p.in_flight ≡ true
  pub quiet : p.published ≡ false → EndsQuietly p call reply
