use Rattle.mt_told.proofs.Prelude.{◌≡◌, ℕ, ◌++◌, List, take, drop, sym, ap, ◌∙◌, subst, decimal, iff_false, take-append-drop, EndsNumber}
use Rattle.mt_told.proofs.Spelled.{digits_of, printed_as, in_front, front_told}
use Rattle.mt_told.proofs.numbers.number_in_front.Goals as goal

pub returns-then-not-is_led-clause-none : goal.returns-then-not-is_led-clause-none
returns-then-not-is_led-clause-none c = λ number rest fits ends is.
    let text = c.args.text.now in
    let at : c.split_at.result.0.now ≡ take (digits_of text) text = c.split_at.ensures.front ∙ ap (λ (n : ℕ). take n text) c.digits_in_front.ensures in
    let f = in_front text rest c.split_at.result.0.now number fits ends is at in
    iff_false c.is_led.ensures c.if-not-is_led.true (record { some = f.some; lead = f.lead })

pub returns-in_err-number-clause-none : goal.returns-in_err-number-clause-none
returns-in_err-number-clause-none c = rw c.from_residual.ensures (λ number rest fits ends is.
    let text = c.args.text.now in
    let at : c.split_at.result.0.now ≡ take (digits_of text) text = c.split_at.ensures.front ∙ ap (λ (n : ℕ). take n text) c.digits_in_front.ensures in
    let f = in_front text rest c.split_at.result.0.now number fits ends is at in
    c.in_err-number.ensures (f.told, f.value))

pub returns-clause-some : goal.returns-clause-some
returns-clause-some c =
    let text = c.args.text.now in
    let mid : c.digits_in_front.result ≡ digits_of text = c.digits_in_front.ensures in
    let led = c.is_led.ensures.0 c.if-not-is_led.false in
    let spelled : decimal c.in_ok-number.number ≡ c.split_at.result.0.now = ap decimal c.in_ok-number.ensures.1 ∙ printed_as c.split_at.result.0.now c.in_ok-number.ensures.0.0 led.some led.lead c.in_ok-number.ensures.0.1 in
    let whole : c.split_at.result.0.now ++ c.split_at.result.1.now ≡ text = (λ i. c.split_at.ensures.front i ++ c.split_at.ensures.back i) ∙ take-append-drop c.digits_in_front.result text in (
      sym (ap (λ (ds : List ℕ). ds ++ c.split_at.result.1.now) spelled ∙ whole),
      subst EndsNumber (sym (c.split_at.ensures.back ∙ ap (λ (n : ℕ). drop n text) mid)) (front_told text).1,
    )
