use Rattle.mt_image.proofs.Prelude.{◌≡◌, ◌+◌, ◌*◌, suc, [], ◌∷◌, ◌++◌, sym, ap, ◌∙◌, arith, number_at, numbers_from}
use Rattle.mt_image.proofs.MoreNumbers.{no_numbers, number_more}
use Rattle.mt_image.proofs.bytes.read_numbers.Goals as goal

pub loop-i-init : goal.loop-i-init
loop-i-init c = c.new-numbers.ensures.items ∙ sym (no_numbers c.args.bytes.now c.args.at)

pub loop-i-preserved : goal.loop-i-preserved
loop-i-preserved c =
    let bytes = c.args.bytes.now in
    let at = c.args.at in
    let i = c.loop-i.i in
    let same : suc i ≡ i + 1 = omega arith in
    let before : c.loop-i.numbers.items ≡ numbers_from bytes at i = c.loop-i.invariant in
    let value : c.number_at.result ≡ number_at bytes (at + 8 * i) = c.number_at.ensures in
    let pushed : c.push.new.self.items ≡ c.loop-i.numbers.items ++ c.number_at.result ∷ [] = c.in_ok-push.ensures.items in
    pushed ∙ ((λ k. before k ++ (value k ∷ [])) ∙ (sym (number_more bytes at i) ∙ ap (numbers_from bytes at) same))
