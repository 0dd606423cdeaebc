use Rattle.mt_c.proofs.Prelude.{rules, ap, ◌∙◌, User, when_looked}
use Rattle.mt_c.proofs.Duplicating.{copy_looked}
use Rattle.mt_c.proofs.user.User.dup_told.Goals as goal

pub returns-in-Ok-made-clause-copied : goal.returns-in-Ok-made-clause-copied
returns-in-Ok-made-clause-copied c =
    let left : User = record c.try_dup.new.self { receipts = c.keep.new.self } in
    copy_looked c.args.shape c.args.self.now left c.try_dup.result c.in-Ok.made c.in-Ok.look c.in-Ok-made.made.0 c.in-Ok-made.made.1 (search rules) (search rules) c.try_dup.ensures.tried
    (c.keep.ensures ∙ ap (when_looked c.in-Ok.look) c.try_dup.ensures.receipts)
