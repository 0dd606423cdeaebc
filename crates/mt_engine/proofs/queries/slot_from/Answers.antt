use Rattle.mt_engine.proofs.Prelude.{arith, no_reads, reads_up}
use Rattle.mt_engine.proofs.SlotQueries.{first_here, from_behind, handle_behind}
use Rattle.mt_engine.proofs.queries.slot_from.Goals as goal

pub returns-then-here-ne0-clause-range : goal.returns-then-here-ne0-clause-range
returns-then-here-ne0-clause-range g c = λ index within is. first_here _ c.requires.tree index _ (record { some = c.requires.here.some; within = within; is = is }) c.if-here-ne0.true

pub returns-then-here-ne0-clause-near : goal.returns-then-here-ne0-clause-near
returns-then-here-ne0-clause-near g c = λ _. (let s = g.R.Rows.sheet c.args.rows.now in reads_up 0 2 s s (omega arith) (no_reads s))

pub returns-clause-unread : goal.returns-clause-unread
returns-clause-unread g c = λ some. absurd (some c.if-here-ne0.false)

pub returns-clause-handle : goal.returns-clause-handle
returns-clause-handle g c = handle_behind _ c.requires.tree c.args.here.now c.requires.here c.behind.result c.behind.ensures.none c.behind.ensures.some

pub returns-clause-range : goal.returns-clause-range
returns-clause-range g c = λ index within is.
    from_behind _ c.requires.tree index c.args.here.now (record { some = c.requires.here.some; within = within; is = is }) c.if-here-ne0.false c.behind.result c.behind.ensures.none c.behind.ensures.some
