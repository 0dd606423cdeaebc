use Rattle.mt_verify.proofs.SaidShortages.{says}
use Rattle.mt_verify.proofs.heard.shortage_in.Goals as goal

pub returns-clause-some : goal.returns-clause-some
returns-clause-some c =
    says c.args.text.now c.in_ok-text.text.now c.in_ok-need.text.now c.in_ok-free.text.now c.in_ok-live.text.now c.in_ok-need.need c.in_ok-free.free c.in_ok-live.live c.in_ok-held.held
    c.in_ok-text.ensures.some c.in_ok-need.ensures.some c.in_ok-free.ensures.some c.in_ok-live.ensures.some c.in_ok-held.ensures.some
