use Rattle.mt_desks.proofs.Prelude.{◌≡◌, length, arith, refl, sym, ◌∙◌}
use Rattle.mt_desks.proofs.Doing.{written_back}
use Rattle.mt_desks.proofs.LeftLines.{behind_line, is_line, line_at, room_from, some_left}
use Rattle.mt_desks.proofs.desks.LaneDeskDesk.answer.Goals as goal

pub unreachable-requires : goal.unreachable-requires
unreachable-requires g c = some_left c.args.self.now.lines.all c.args._step c.requires.below (sym c.requires.awaited.left_is ∙ c.in_default.ensures.none)

pub answer_line-requires-clause-named : goal.answer_line-requires-clause-named
answer_line-requires-clause-named g c = (is_line (length c.args.self.now.trees.now) c.args.self.now.lines.all c.args._step c.in-Some.line.now c.next.new.self.left (sym c.requires.awaited.left_is ∙ c.in-Some.ensures.some) c.requires.awaited.lines_of).0

pub answer_line-requires-clause-step : goal.answer_line-requires-clause-step
answer_line-requires-clause-step g c = (is_line (length c.args.self.now.trees.now) c.args.self.now.lines.all c.args._step c.in-Some.line.now c.next.new.self.left (sym c.requires.awaited.left_is ∙ c.in-Some.ensures.some) c.requires.awaited.lines_of).1

pub answer_line-requires-clause-room : goal.answer_line-requires-clause-room
answer_line-requires-clause-room g c = omega (arith, c.requires.awaited.roomy, room_from c.args.self.now.lines.all c.args._step c.in-Some.line.now c.next.new.self.left (sym c.requires.awaited.left_is ∙ c.in-Some.ensures.some))

pub returns-clause-did : goal.returns-clause-did
returns-clause-did g c =
    let long : length c.answer_line.new.passes ≡ c.args.self.now.passes.len = omega (arith, c.answer_line.ensures.manned.count, c.requires.awaited.manned.count, c.as_mut_slice.ensures.len) in
    let back = written_back c.args.self.now.passes.len c.answer_line.new.passes c.args.self.now.passes.items long in (
      rw (back, c.next.ensures.all) (record {
        kept = refl;
        line = c.in-Some.line.now;
        line_is = line_at c.args.self.now.lines.all c.args._step c.in-Some.line.now c.next.new.self.left (sym c.requires.awaited.left_is ∙ c.in-Some.ensures.some);
        did = rw c.as_mut_slice.ensures.value at (c.answer_line.ensures.done c.args.self.now.lane c.args.self.now.phase);
      }),
      rw back (record { trees_stay = refl; manned = c.answer_line.ensures.manned }),
    )

pub returns-clause-next : goal.returns-clause-next
returns-clause-next g c = λ more.
    let long : length c.answer_line.new.passes ≡ c.args.self.now.passes.len = omega (arith, c.answer_line.ensures.manned.count, c.requires.awaited.manned.count, c.as_mut_slice.ensures.len) in
    let back = written_back c.args.self.now.passes.len c.answer_line.new.passes c.args.self.now.passes.items long in
    let next = sym c.requires.awaited.left_is ∙ c.in-Some.ensures.some in
    rw (back, c.next.ensures.all) (record {
      manned = c.answer_line.ensures.manned;
      lines_of = c.requires.awaited.lines_of;
      left_is = behind_line c.args.self.now.lines.all c.args._step c.in-Some.line.now c.next.new.self.left next;
      roomy = omega (arith, c.requires.awaited.roomy, c.answer_line.ensures.len, c.answer_line.ensures.capacity, room_from c.args.self.now.lines.all c.args._step c.in-Some.line.now c.next.new.self.left next);
    })
