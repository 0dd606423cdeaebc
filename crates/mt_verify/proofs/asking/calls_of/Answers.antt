use Rattle.mt_verify.proofs.Prelude.{◌∙◌, List, ap, length, sym, filter, Line, asks_call}
use Rattle.mt_verify.proofs.Tellings.{calls_are_asked}
use Rattle.mt_verify.proofs.asking.calls_of.Goals as goal

pub returns : goal.returns
returns c = λ rows t run.
    calls_are_asked c.args.log.now rows t run
    ∙ sym (c.asking.ensures ∙ ap (λ (lines : List Line). length (filter (λ line. asks_call line.item) lines)) c.as_slice.ensures)
