use Rattle.mt_desks.proofs.Prelude.{[], ◌∷◌, refl, inl, Write, Asked, Called, step_of}
use Rattle.mt_desks.proofs.Doing.{worn_line}
use Rattle.mt_desks.proofs.Scanning.{step_leads}
use Rattle.mt_desks.proofs.desks.write.Goals as goal

pub returns-in-Ok-clause-done : goal.returns-in-Ok-clause-done
returns-in-Ok-clause-done g c = λ lane phase number.
    let a : Asked = record { line = c.args.line; lane = lane; phase = phase; item = Write number c.args.call.now } in
    let tree = (g.T.Shared.tree c.args.tree.now).history in
    record {
      steps = step_of a number (Called c.in-Ok.done.call c.args.call.now c.in-Ok.done.reply) ∷ [];
      done = inl (c.in-Ok.done.call, c.in-Ok.done.reply, refl);
      leads = step_leads tree number a (g.P.Passage.knows c.args.pass.now) (g.P.Passage.knows c.act.new.pass) (Called c.in-Ok.done.call c.args.call.now c.in-Ok.done.reply) (c.requires.closed, c.in-Ok.ensures.wrote);
      told = c.push_reserved.ensures.items;
    }

pub returns-in_default-clause-done : goal.returns-in_default-clause-done
returns-in_default-clause-done g c = λ lane phase number. worn_line (g.T.Shared.tree c.args.tree.now) number (record { line = c.args.line; lane = lane; phase = phase; item = Write number c.args.call.now }) (g.P.Passage.knows c.args.pass.now) (g.P.Passage.knows c.act.new.pass) c.args.room.now.items c.in_default.ensures.worn.0 c.in_default.ensures.worn.1
