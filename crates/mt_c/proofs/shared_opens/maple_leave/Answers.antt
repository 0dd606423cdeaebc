use Rattle.mt_c.proofs.Prelude.{refl}
use Rattle.mt_c.proofs.Sharing.{left_done}
use Rattle.mt_c.proofs.shared_opens.maple_leave.Goals as goal

pub returns-in-Ok : goal.returns-in-Ok
returns-in-Ok c = left_done _ _ _ _ c.in-Ok.field-0 c.in-Some.ensures.user c.close.ensures.value c.close.ensures.state refl c.in-Ok.ensures.left
