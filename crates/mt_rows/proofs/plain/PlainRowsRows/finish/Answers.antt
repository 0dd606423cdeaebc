use Rattle.mt_rows.proofs.Prelude.{◌+◌, false, refl, arith, sheet_of, sheet_in}
use Rattle.mt_rows.proofs.PlainFates.{buried_before, finished_lives, finished_buried, either_same}
use Rattle.mt_rows.proofs.plain.PlainRowsRows.finish.Goals as goal

pub invariant_of-self : goal.invariant_of-self
invariant_of-self c =
    let p = c.args.self.now.plain in
    record {
      plain = record {
        few = p.few;
        words = p.words;
        fates = p.fates;
        cleared = (let low = p.cleared in omega arith);
        room = λ e. absurd (cc);
        calm = λ _. refl;
        buried = buried_before c.args.self.now.state p;
        fresh = λ row none. absurd (omega arith);
      };
    }

pub returns : goal.returns
returns c =
    let p = c.args.self.now.state in
    let lives = finished_lives p (sheet_in c.args.self.now) c.requires.0 c.args._call.now c.args._reply.now c.args.self.now.plain refl c.requires.1 in
    let buried = finished_buried p (sheet_in c.args.self.now) c.requires.0 c.args._call.now c.args._reply.now c.args.self.now.plain refl c.requires.1 in
    λ i. record (sheet_of p) { ended = p.ended + 1; in_flight = false; published = false; lives = lives i; buried = buried i; told = either_same p.published (sheet_of p).told i }
