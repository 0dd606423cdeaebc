-- The log of a worked play, from line 2 on: `tree a range / store a 0 9 1 / join / dup a b / store a 5 5 3 / load b 5`.
-- Source: this project's own.
use Rattle.std.specs.Prelude.{[], ◌∷◌}
use Rattle.mt_base.specs.declared.calls.Call.TheVariants as calls
use Rattle.mt_base.specs.declared.calls.Query.TheVariants as queries
use Rattle.mt_base.specs.declared.kinds.Kind.TheVariants as kinds
use Rattle.mt_log.specs.declared.lines.Item.TheVariants as items
use Rattle.mt_log.specs.declared.lines.Log.{Log}

abbrev pub worked_log : Log
worked_log = record {
  version = 2;
  lines = record { number = 2; item = items.Tree (97 ∷ []) kinds.Range }
      ∷ record { number = 3; item = items.Write 0 (calls.Store 0 9 1) }
      ∷ record { number = 4; item = items.Join }
      ∷ record { number = 5; item = items.Dup 0 (98 ∷ []) }
      ∷ record { number = 6; item = items.Write 0 (calls.Store 5 5 3) }
      ∷ record { number = 7; item = items.Ask 1 (queries.Load 5) } ∷ [];
}
