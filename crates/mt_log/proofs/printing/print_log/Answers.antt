use Rattle.mt_log.proofs.Prelude.{◌≡◌, arith, common_steps, log_text}
use Rattle.mt_log.proofs.RoundTrip.{reads_again}
use Rattle.mt_log.proofs.printing.print_log.Goals as goal

pub returns-clause-log : goal.returns-clause-log
returns-clause-log c =
    let text : c.push_lines.new.text.items ≡ log_text c.args.log.now = grind (arith, common_steps) in
    rw text (reads_again c.args.log.now c.requires)
