use Rattle.mt_program.proofs.Prelude.{◌≡◌, ◌⊎◌, ◌∙◌, ◌<◌, ◌≤◌, ℕ, ap, inl, subst, sym, IsDue}
use Rattle.mt_program.proofs.Statuses as statuses
use Rattle.mt_program.proofs.program.mtreplay.Goals as goal

pub returns-in-Ok-clause-prints : goal.returns-in-Ok-clause-prints
returns-in-Ok-clause-prints g c = λ command is _. statuses.ok_prints c.in-Ok.ensures.ends command is

pub returns-in-Ok-clause-taken : goal.returns-in-Ok-clause-taken
returns-in-Ok-clause-taken g c = λ _. statuses.ok_taken c.in-Ok.ensures.ends

pub returns-in-Ok-clause-complete : goal.returns-in-Ok-clause-complete
returns-in-Ok-clause-complete g c = λ command is read bytes left _ _. inl (statuses.ok_due c.in-Ok.ensures.ends command is read bytes left)

pub returns-in-Ok-clause-at_end : goal.returns-in-Ok-clause-at_end
returns-in-Ok-clause-at_end g c = λ read _. statuses.ok_ended c.in-Ok.ensures.ends read

pub returns-in-Ok-clause-limit : goal.returns-in-Ok-clause-limit
returns-in-Ok-clause-limit g c = λ _ _. statuses.ok_within c.in-Ok.ensures.ends (λ unread. ap g.S.Source.left (c.run.ensures.unread unread))

pub returns-in-Err-clause-refused : goal.returns-in-Err-clause-refused
returns-in-Err-clause-refused g c = λ is. (c.in-Err.failure, statuses.err_refused c.in-Err.failure c.in-Err.ensures.ends (sym c.status.ensures ∙ is), c.status.ensures)

pub returns-in-Err-clause-refused_too : goal.returns-in-Err-clause-refused_too
returns-in-Err-clause-refused_too g c = λ is. statuses.err_unverified c.in-Err.failure c.in-Err.ensures.ends (sym c.status.ensures ∙ is)

pub returns-in-Err-clause-refused_image : goal.returns-in-Err-clause-refused_image
returns-in-Err-clause-refused_image g c = λ is. statuses.err_no_image c.in-Err.failure c.in-Err.ensures.ends (sym c.status.ensures ∙ is)

pub returns-in-Err-clause-usage : goal.returns-in-Err-clause-usage
returns-in-Err-clause-usage g c = λ is. statuses.err_usage c.in-Err.failure c.in-Err.ensures.ends (sym c.status.ensures ∙ is)

pub returns-in-Err-clause-read_fault : goal.returns-in-Err-clause-read_fault
returns-in-Err-clause-read_fault g c = λ is. statuses.err_read_fault c.in-Err.failure c.in-Err.ensures.ends (sym c.status.ensures ∙ is)

pub returns-in-Err-clause-write_fault : goal.returns-in-Err-clause-write_fault
returns-in-Err-clause-write_fault g c = λ is. statuses.err_write_fault c.in-Err.failure c.in-Err.ensures.ends (sym c.status.ensures ∙ is)

pub returns-in-Err-clause-taken_too : goal.returns-in-Err-clause-taken_too
returns-in-Err-clause-taken_too g c = λ is. statuses.err_taken c.in-Err.failure c.in-Err.ensures.ends (sym c.status.ensures ∙ is)

pub returns-in-Err-clause-part : goal.returns-in-Err-clause-part
returns-in-Err-clause-part g c = λ command known is. statuses.err_part c.in-Err.failure c.in-Err.ensures.ends command known (sym c.status.ensures ∙ is)

pub returns-in-Err-clause-too_long : goal.returns-in-Err-clause-too_long
returns-in-Err-clause-too_long g c = λ is. statuses.err_too_long c.in-Err.failure c.in-Err.ensures.ends (sym c.status.ensures ∙ is)

pub returns-in-Err-clause-of_reading : goal.returns-in-Err-clause-of_reading
returns-in-Err-clause-of_reading g c = λ unread.
    let none = statuses.err_unread c.in-Err.failure c.in-Err.ensures.ends unread in
    (λ is. none.0 (sym c.status.ensures ∙ is), λ is. none.1 (sym c.status.ensures ∙ is), λ is. none.2 (sym c.status.ensures ∙ is), λ is. none.3 (sym c.status.ensures ∙ is), λ is. none.4 (sym c.status.ensures ∙ is))

pub returns-in-Err-clause-complete : goal.returns-in-Err-clause-complete
returns-in-Err-clause-complete g c = λ command is read bytes left no_source no_sink. subst (λ (status : ℕ). IsDue command bytes status ⊎ (status ≡ 5)) (sym c.status.ensures)
    (statuses.err_complete c.in-Err.failure c.in-Err.ensures.ends command is bytes left no_source no_sink)

pub returns-in-Err-clause-at_end : goal.returns-in-Err-clause-at_end
returns-in-Err-clause-at_end g c = λ read is. statuses.err_ended c.in-Err.failure c.in-Err.ensures.ends (subst (λ (status : ℕ). status < 2) c.status.ensures is)

pub returns-in-Err-clause-at_end_too : goal.returns-in-Err-clause-at_end_too
returns-in-Err-clause-at_end_too g c = λ read is.
    statuses.err_ended_too c.in-Err.failure c.in-Err.ensures.ends read (subst (λ (status : ℕ). (status ≡ 4) ⊎ (7 ≤ status)) c.status.ensures is)

pub returns-in-Err-clause-limit : goal.returns-in-Err-clause-limit
returns-in-Err-clause-limit g c = λ memory long. statuses.err_within c.in-Err.failure c.in-Err.ensures.ends (λ unread. ap g.S.Source.left (c.run.ensures.unread unread)) (λ is. memory (c.status.ensures ∙ is)) (λ is. long (c.status.ensures ∙ is))

pub returns-in-Err-clause-told : goal.returns-in-Err-clause-told
returns-in-Err-clause-told g c = λ _. (c.in-Err.failure, sym c.status.ensures, statuses.err_told c.in-Err.failure c.in-Err.ensures.ends, c.report.ensures.told)
