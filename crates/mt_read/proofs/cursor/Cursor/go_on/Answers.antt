use Rattle.mt_read.proofs.Prelude.{arith, ◌∙◌, inl, length, refl, part_of, moment_seen}
use Rattle.mt_read.proofs.Keeping.{nothing_goes}
use Rattle.mt_read.proofs.Leaves.{looks_nowhere, looks_there, reached_same}
use Rattle.mt_read.proofs.Stepping.{asks_nothing, asks_there}
use Rattle.mt_read.proofs.cursor.Cursor.go_on.Goals as goal

pub returns-in_default-clause-read : goal.returns-in_default-clause-read
returns-in_default-clause-read g c =
    let q = part_of c.args.pass.now in let s = c.args.self.now in
    (length q.seen, omega arith, record { high = omega arith; is = asks_nothing (moment_seen q (length q.seen)).ranges s.at s.max c.in_default.is })

pub returns-clause-read : goal.returns-clause-read
returns-clause-read g c =
    let q₁ = part_of c.look-range.new.pass in let s = c.args.self.now in
    let a = c.look-range.ensures.answer in
    (a.k, a.low, record { high = a.high; is = a.is ∙ asks_there (moment_seen q₁ a.k).ranges s.at c.in-Some.index s.max s.max c.in-Some.is refl })

pub returns-in_default-clause-gone : goal.returns-in_default-clause-gone
returns-in_default-clause-gone g c = record {
  stepped = record { of = c.requires.pass; turn = refl };
  goes = nothing_goes (part_of c.args.pass.now);
  kept = c.requires.kept;
  lo = inl refl;
}

pub returns-clause-gone : goal.returns-clause-gone
returns-clause-gone g c = c.look-range.ensures.gone

pub returns-in_default-clause-looked : goal.returns-in_default-clause-looked
returns-in_default-clause-looked g c = looks_nowhere (part_of c.args.pass.now) c.args.self.now.leaf c.args.self.now.at c.args.steps.now c.in_default.is

pub returns-clause-looked : goal.returns-clause-looked
returns-clause-looked g c =
    let s = c.args.self.now in let told = c.look-range.ensures in
    looks_there (part_of c.args.pass.now) (part_of c.look-range.new.pass) s.leaf c.look-range.new.self.leaf s.at c.in-Some.index c.args.steps.now c.look-range.new.steps c.in-Some.is told.short told.stays told.marks told.far told.steps

pub returns-in_default-clause-reached : goal.returns-in_default-clause-reached
returns-in_default-clause-reached g c = reached_same (part_of c.args.pass.now) (part_of c.args.pass.now) refl

pub returns-clause-reached : goal.returns-clause-reached
returns-clause-reached g c = c.look-range.ensures.reached
