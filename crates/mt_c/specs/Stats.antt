-- What is returned of how a tree uses its nodes. Source: this project's own.
use Rattle.std.specs.Prelude.{◌≡◌, ℕ, Option, Some, None, length}
use Rattle.mt_c.specs.Prelude.{Parts, HasHeight, live_rows}
use Rattle.mt_c.specs.declared.stats.OutStats.{OutStats}
use Rattle.mt_c.specs.Calls.{IsAsked}
use Rattle.mt_c.specs.Own.{OwnTree}

abbrev pub no_stats : OutStats
no_stats = record { rows = 0; free = 0; live = 0; held = 0; height = 0; calls = 0 }

-- how many nodes it has, and how many of these are free, in use and held; how many levels, and how many calls were made
pub record TellsTree (t : Parts) (s : OutStats) : Type 0 where
  pub rows : s.rows ≡ t.sheet.tree.rows
  pub free : s.free ≡ length t.book.free
  pub live : s.live ≡ live_rows t.sheet.tree
  pub held : s.held ≡ length t.book.held
  pub height : HasHeight t.sheet.tree s.height
  pub calls : s.calls ≡ t.sheet.ended

-- The numbers are those of what C keeps, which is only read. A closed tree is EBADF.
abbrev pub HasStats : Option OwnTree → Option OwnTree → ℕ → OutStats → Type 0
HasStats None after status s = (after ≡ None) × (status ≡ 9) × (s ≡ no_stats)
HasStats (Some t) None status s = ⊥
HasStats (Some t) (Some t') status s = IsAsked t.engine t'.engine × (status ≡ 0) × TellsTree t.engine s
