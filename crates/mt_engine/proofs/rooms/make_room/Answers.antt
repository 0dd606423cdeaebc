use Rattle.mt_engine.proofs.Prelude.{◌≡◌, refl, ap, arith, ◌+◌, ◌*◌, nat_lt, Option, None, if◌then◌else◌, lt-ltb, le-ltb, Kind, Holder, height_in, Sheet, IsEngineState, IsScanned, IsShortOf}
use Rattle.mt_engine.proofs.Scanned.{is_scanned}
use Rattle.mt_engine.proofs.Shortages.{low_height, short_after}
use Rattle.mt_engine.proofs.rooms.make_room.Given.{Over}
use Rattle.mt_engine.proofs.rooms.make_room.Goals.{After-reclaim, After-live}
use Rattle.mt_engine.proofs.rooms.make_room.Goals as goal

-- what the scan and the freeing of held nodes left
was_scanned : (g : Over) (c : After-reclaim g) (kind : Kind) → IsEngineState kind (g.R.Rows.sheet c.args.rows.now) c.args.book.now → IsScanned kind (g.R.Rows.sheet c.args.rows.now) (g.R.Rows.sheet c.scan-scan.new.self) c.args.book.now c.reclaim.new.self
was_scanned g c kind state = is_scanned kind _ _ _ _ _ state c.scan-scan.ensures.rest c.scan-scan.ensures.answer c.scan-scan.ensures.kept c.scan-scan.ensures.cleared c.reclaim.ensures.freed

-- the shortage, with the reader that it names
falls_short : (g : Over) (c : After-live g) (by : Option Holder) → by ≡ (if nat_lt 0 c.held-held.result then c.scan-scan.result.by else None)
    → IsShortOf (g.R.Rows.sheet c.scan-scan.new.self) c.reclaim.new.self (record { need = 3 * c.args.height + 1; free = c.free-2.result; live = c.live.result; held = c.held-held.result; by = by })
falls_short g c by is =
    let found = is_scanned c.requires.state.0 _ _ _ _ _ c.requires.state.1 c.scan-scan.ensures.rest c.scan-scan.ensures.answer c.scan-scan.ensures.kept c.scan-scan.ensures.cleared c.reclaim.ensures.freed in
    short_after c.requires.state.0 (g.R.Rows.sheet c.args.rows.now) (g.R.Rows.sheet c.scan-scan.new.self) c.scan-scan.result c.args.book.now c.reclaim.new.self _ found c.scan-scan.ensures.rest c.scan-scan.ensures.answer c.requires.few
    (record { free = c.free-2.ensures; live = c.live.ensures; held = c.held-held.ensures }) (ap (λ h. 3 * h + 1) c.requires.height) is (omega (arith, c.free-2.ensures, c.free.ensures, c.if-need-free.false))

pub overflow_mul-need : goal.overflow_mul-need
overflow_mul-need g c = (let low = low_height c.requires.state.0 (g.R.Rows.sheet c.args.rows.now) c.args.book.now c.args.height c.requires.state.1 c.requires.height in omega arith)

pub overflow_add-need : goal.overflow_add-need
overflow_add-need g c = (let low = low_height c.requires.state.0 (g.R.Rows.sheet c.args.rows.now) c.args.book.now c.args.height c.requires.state.1 c.requires.height in omega arith)

pub returns-then-need-free-clause-scanned : goal.returns-then-need-free-clause-scanned
returns-then-need-free-clause-scanned g c = was_scanned g (goal.at.returns-then-need-free-clause-scanned g c).After-reclaim

pub returns-then-need-free-clause-room : goal.returns-then-need-free-clause-room
returns-then-need-free-clause-room g c =
    let same = ap (λ (s : Sheet). height_in s.tree.table s.tree.root) c.scan-scan.ensures.rest in
    omega (arith, same, c.requires.height, c.free.ensures, c.if-need-free.true)

pub returns-then-held-gt0-clause-scanned : goal.returns-then-held-gt0-clause-scanned
returns-then-held-gt0-clause-scanned g c = was_scanned g (goal.at.returns-then-held-gt0-clause-scanned g c).After-reclaim

pub returns-then-held-gt0-clause-short : goal.returns-then-held-gt0-clause-short
returns-then-held-gt0-clause-short g c =
    falls_short g (goal.at.returns-then-held-gt0-clause-short g c).After-live c.scan-scan.result.by (rw (lt-ltb 0 c.held-held.result c.if-held-gt0.true) refl)

pub returns-else-held-gt0-clause-scanned : goal.returns-else-held-gt0-clause-scanned
returns-else-held-gt0-clause-scanned g c = was_scanned g (goal.at.returns-else-held-gt0-clause-scanned g c).After-reclaim

pub returns-else-held-gt0-clause-short : goal.returns-else-held-gt0-clause-short
returns-else-held-gt0-clause-short g c =
    falls_short g (goal.at.returns-else-held-gt0-clause-short g c).After-live None (rw (le-ltb 0 c.held-held.result c.if-held-gt0.false) refl)
