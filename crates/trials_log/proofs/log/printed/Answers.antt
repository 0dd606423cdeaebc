use Rattle.trials_log.proofs.log.printed.Goals as goal

-- the bytes that were read are the log's
pub print_log-requires : goal.print_log-requires
print_log-requires c = (c.as_bytes.result.now, c.in_ok-log.ensures.log)
