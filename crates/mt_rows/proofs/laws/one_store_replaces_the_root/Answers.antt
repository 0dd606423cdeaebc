use Rattle.mt_rows.proofs.Prelude.{deepest, root_span}
use Rattle.mt_rows.proofs.Depth.{ranges_by_depth}
use Rattle.mt_rows.proofs.laws.one_store_replaces_the_root.Goals as goal

pub returns-clause-grown : goal.returns-clause-grown
returns-clause-grown c = λ t h word low rows. (record { low = low; rows = rows }, ranges_by_depth (record t { root = word }) deepest h (root_span t.table word) low rows)
