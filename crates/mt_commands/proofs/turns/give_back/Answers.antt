use Rattle.mt_commands.proofs.Prelude.{pass_in}
use Rattle.mt_commands.proofs.Drawing.{Takes, given_back}
use Rattle.mt_commands.proofs.turns.give_back.Goals.{After-act}
use Rattle.mt_commands.proofs.turns.give_back.Goals as goal

-- what the call leaves behind
taken : (c : After-act) → Takes c.args.write.now.tree.now (pass_in c.args.write.now.pass.now) (pass_in c.act.new.self.pass.now) c.requires.only c.requires.shut c.requires.few c.args.number
taken c =
    let after = c.act.ensures in
    given_back c.args.write.now.tree.now (pass_in c.args.write.now.pass.now) (pass_in c.act.new.self.pass.now) c.requires.only c.requires.shut c.requires.few c.args.number _ c.act.result c.requires.calls after.done after.number after.callers after.named after.worn after.still

pub returns-clause-map : goal.returns-clause-map
returns-clause-map c = (taken (goal.at.returns-clause-map c).After-act).map

pub returns-clause-called : goal.returns-clause-called
returns-clause-called c = (taken (goal.at.returns-clause-called c).After-act).called
