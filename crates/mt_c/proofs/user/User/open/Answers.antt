use Rattle.mt_c.proofs.Prelude.{Err, [], ap, refl, ◌≡◌}
use Rattle.mt_tree.specs.declared.shapes.MakeError.TheVariants as make_error
use Rattle.mt_c.proofs.Using.{is_first, new_spare, none_bad, none_short}
use Rattle.mt_c.proofs.user.User.open.Goals as goal

pub first-requires-clause-passes : goal.first-requires-clause-passes
first-requires-clause-passes c = new_spare c.in-Ok.made.0 c.in-Ok.made.1.items _ c.in-Ok.ensures.new.all.of c.in-Ok.ensures.new.passes

pub returns-in-Err-clause-bad : goal.returns-in-Err-clause-bad
returns-in-Err-clause-bad c = λ field e. let why : c.in-Err.why ≡ make_error.BadShape field = cc in (c.in-Err.ensures.bad field).0 (ap Err why)

pub returns-in-Ok-first-clause-good : goal.returns-in-Ok-first-clause-good
returns-in-Ok-first-clause-good c = none_bad c.args.shape _ c.in-Ok.made c.in-Ok.ensures.bad refl

pub returns-in-Ok-first-clause-first : goal.returns-in-Ok-first-clause-first
returns-in-Ok-first-clause-first c =
    is_first c.args.shape [] c.in-Ok.made.0 c.in-Ok.made.1.items c.in-Ok-first.user c.in-Ok.ensures.new c.in-Ok-first.ensures.tree c.in-Ok-first.ensures.passes c.in-Ok-first.ensures.chair c.in-Ok-first.ensures.walk c.in-Ok-first.ensures.none

pub returns-in-Err-clause-short : goal.returns-in-Err-clause-short
returns-in-Err-clause-short c = λ e. let why : c.in-Err.why ≡ make_error.NoMemory = cc in none_short c.args.shape _ c.in-Err.ensures.bad (ap Err why)

pub returns-in-Err-first-clause-short : goal.returns-in-Err-first-clause-short
returns-in-Err-first-clause-short c = λ e. none_bad c.args.shape _ c.in-Ok.made c.in-Ok.ensures.bad refl
