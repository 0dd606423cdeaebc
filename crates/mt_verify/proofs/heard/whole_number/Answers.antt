use Rattle.mt_verify.proofs.Prelude.{rules, length, sym, eqb-false}
use Rattle.mt_verify.proofs.SaidShortages.{not_whole}
use Rattle.mt_verify.proofs.heard.whole_number.Goals as goal

pub returns-then-not-is_empty-clause-none : goal.returns-then-not-is_empty-clause-none
returns-then-not-is_empty-clause-none c = λ n small other.
    let front = c.in_ok-number.ensures.some in
    not_whole c.args.text.now c.in_ok-number.rest.now c.in_ok-number.number n front.0 front.1 (search rules) (eqb-false (length c.in_ok-number.rest.now) 0 (sym c.if-not-is_empty.ensures)) small other
