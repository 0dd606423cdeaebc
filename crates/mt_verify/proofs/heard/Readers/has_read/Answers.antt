use Rattle.mt_verify.proofs.Prelude.{sym, subst, Option, ℕ, leb-true, le-leb, HasReadBy}
use Rattle.mt_verify.proofs.heard.Readers.has_read.Goals as goal

pub returns-in-Some : goal.returns-in-Some
returns-in-Some c = λ told are.
    let reads = λ (o : Option ℕ). HasReadBy o c.args.phase in
    let known = are c.args.tree c.args.lane c.args.phase _ c.requires.tree c.requires.lane in
    (λ yes. known.0 (subst reads (sym c.in-Some.is) (leb-true c.in-Some.first c.args.phase yes)), λ any. le-leb c.in-Some.first c.args.phase (subst reads c.in-Some.is (known.1 any)))

pub returns-in-None : goal.returns-in-None
returns-in-None c = λ told are.
    let reads = λ (o : Option ℕ). HasReadBy o c.args.phase in
    let known = are c.args.tree c.args.lane c.args.phase _ c.requires.tree c.requires.lane in
    (λ yes. absurd (cc), λ any. absurd (subst reads c.in-None.is (known.1 any)))
