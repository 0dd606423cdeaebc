use Rattle.mt_verify.proofs.Prelude.{◌≡◌, ℕ, true, false, inl, inr, arith, subst, list_any, cases_lt, reads_by}
use Rattle.mt_verify.proofs.FirstReads.{no_lane}
use Rattle.mt_verify.proofs.heard.Readers.beside.Goals.{else-other-lane-via-then-other-lane+else-has_read, else-other-lane-via-else-other-lane}
use Rattle.mt_verify.proofs.heard.Readers.beside.Goals as goal

pub returns-clause-none : goal.returns-clause-none
returns-clause-none c = λ told are lanes k other reads.
    elim (cases_lt k 16) [
      | inl low ↦ c.loop-other.invariant told are k (omega (arith, low, c.loop-other-test.false)) other reads
      | inr past ↦ no_lane c.args.tree k c.args.phase told lanes past reads
    ]

pub loop-other-preserved : goal.loop-other-preserved
loop-other-preserved c = λ told are k below other reads.
    let this = c.loop-other.other in
    elim (cases_lt k this) [
      | inl low ↦ c.loop-other.invariant told are k low other reads
      | inr from ↦
          (let same : k ≡ this = omega (arith, from, below) in
          let here : list_any (reads_by c.args.tree this c.args.phase) told ≡ true = subst (λ (n : ℕ). list_any (reads_by c.args.tree n c.args.phase) told ≡ true) same reads in
          elim c.else-other-lane.branch [
            | else-other-lane-via-then-other-lane+else-has_read w ↦ (let yes : w.has_read.result ≡ true = (w.has_read.ensures told are).1 here in let not : w.has_read.result ≡ false = w.if-has_read.false in absurd (cc))
            | else-other-lane-via-else-other-lane w ↦ other (omega (arith, same, w.if-other-lane.false))
          ])
    ]
