use Rattle.mt_c.proofs.Prelude.{rules, refl, Shape}
use Rattle.mt_c.proofs.Sharing.{new_bad, new_short}
use Rattle.mt_c.proofs.shared_opens.opened.Goals as goal

pub returns-in-Err-BadShape-clause-new : goal.returns-in-Err-BadShape-clause-new
returns-in-Err-BadShape-clause-new c =
    let shape : Shape = record { kind = c.in-Some.kind; rows = c.args.rows; passes = c.args.passes; calls = c.args.calls } in
    new_bad _ _ _ _ _ _ shape c.closed-in-Err-BadShape.ensures.value (c.in-Some.ensures, refl, refl, refl) (c.in-Err-BadShape.field, c.in-Err-BadShape.ensures.bad c.in-Err-BadShape.field (search rules), c.field_status.ensures)

pub returns-in-Err-NoMemory-clause-new : goal.returns-in-Err-NoMemory-clause-new
returns-in-Err-NoMemory-clause-new c =
    let shape : Shape = record { kind = c.in-Some.kind; rows = c.args.rows; passes = c.args.passes; calls = c.args.calls } in
    new_short _ _ _ _ _ _ shape c.closed-in-Err-NoMemory.ensures.value refl ((c.in-Some.ensures, refl, refl, refl), c.in-Err-NoMemory.ensures.short (search rules))
