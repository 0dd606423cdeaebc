-- A tree that was lent is the same tree, of which its passes are; and one that is locked goes on from what its pass has seen.
use Rattle.mt_tree.proofs.Prelude.{◌≡◌, ◌+◌, List, Option, Result, Ok, Err, IfOk, IfErr, length, sym, ap, ◌∙◌, arith, subst, length-map, Seat, Record, Pass, TurnView, record_of, records_of, pass_in, Done, Worn, Tree, Behind, after_show, IsOpen, IsPassOf, IsWorn, LookedBehind, LookedUnder}

pub still_of : (t t' : Tree) (p : Pass) → t ≡ t' → IsPassOf t p → IsPassOf t' p
still_of t t' p same of = subst (λ (x : Tree). IsPassOf x p) same of

-- under the lock the number of a call that comes behind the whole history is the next that the pass sees
pub next_call : (t : Tree) (p : Pass) (b : Behind) (seat : Seat (Option Behind) TurnView) (made : Result Done Worn) → IsOpen t p b seat
    → IfOk made (λ d. d.call ≡ length b.pen.history + 1) → IfOk made (λ d. d.call ≡ length (pass_in p).seen + 1)
next_call t p b seat (Ok d) here is = omega (arith, is, ap (λ (rs : List Record). length rs) here.seen, length-map b.pen.history record_of)
next_call t p b seat (Err w) here is = tt

-- where no call was made the pass that had seen the whole history has seen what it had
pub none_since : (p q : Pass) (t : Tree) (b b' : Behind) (seat : Seat (Option Behind) TurnView) (made : Result Done Worn) → IsOpen t p b seat → (pass_in q).seen ≡ records_of b'.pen.history
    → IfErr made (λ w. IsWorn t (pass_in p) w (pass_in q) × (b' ≡ after_show b)) → IfErr made (λ w. (pass_in q).seen ≡ (pass_in p).seen)
none_since p q t b b' seat (Ok d) here seen is = tt
none_since p q t b b' seat (Err w) here seen is = seen ∙ (ap (λ (x : Behind). records_of x.pen.history) is.1 ∙ sym here.seen)

-- a look by a handle that holds the lock leaves what that knows
pub looked_under : (t : Tree) (p q : Pass) (b b' : Behind) (seat : Seat (Option Behind) TurnView) → IsOpen t p b seat → LookedBehind t b b' p q → LookedUnder t b b' p q
looked_under t p q b b' seat here looked =
    let seen : (pass_in q).seen ≡ (pass_in p).seen = looked.seen ∙ (looked.state.records ∙ sym here.seen) in
    let ended : length (pass_in q).seen ≡ (pass_in p).ended = ap (λ (rs : List Record). length rs) seen ∙ sym here.ended in
    record { behind = looked.state; rests = looked.rests; pass = looked.saw.pass ∙ (λ i. record (pass_in p) { seen = seen i; ended = ended i }); words = looked.words }
