use Rattle.mt_log.proofs.Prelude.{◌+◌, ◌≤◌, ◌∷◌, length, drop, arith, ap, ◌∙◌}
use Rattle.mt_log.proofs.Tails.{nothing_behind}
use Rattle.mt_log.proofs.line_ends.LineEnd.begin.Goals as goal

pub text-requires : goal.text-requires
text-requires c = let room : length (drop 192 c.self.inside.bytes) + 1 ≤ 192 = omega (arith, ap length (nothing_behind c.self.inside.bytes c.self.told)) in room

pub returns : goal.returns
returns c = c.text.ensures.text ∙ ap (λ z. 10 ∷ z) (nothing_behind c.self.inside.bytes c.self.told)
