-- A pen that goes on with the same pass.
use Rattle.mt_pen.proofs.Prelude.{◌≡◌, ◌⊎◌, ℕ, ◌+◌, ◌*◌, ◌≤◌, ap, subst, ◌∙◌, PenPart, PassPart, Pen, section_word, Identity, KeepsPassOf, Scan, IsWordOf, HasScanned}

pub goes_on : (t : Identity) (a b c : Pen) → KeepsPassOf t a b → KeepsPassOf t b c → KeepsPassOf t a c
goes_on t a b c x y = record { of = y.of; joined = y.joined; pass = y.pass ∙ x.pass; turn = y.turn ∙ x.turn }

pub word_here : (p p' : PenPart) (q q' : PassPart) (scan : Scan) (passes pass word : ℕ) → HasScanned p q p' scan passes → q' ≡ q
    → (word ≡ 0) ⊎ ((epoch : ℕ) × (word ≡ 2 * epoch + 1) × (epoch ≤ p'.ended))
    → (q'.number ≡ pass → word ≡ section_word q'.standing) → IsWordOf p q pass word
word_here p p' q q' scan passes pass word h same there own = record {
  closed_or_open = subst (λ n. (word ≡ 0) ⊎ ((epoch : ℕ) × (word ≡ 2 * epoch + 1) × (epoch ≤ n))) (ap (λ (x : PenPart). x.ended) h.pen) there;
  own = subst (λ (x : PassPart). x.number ≡ pass → word ≡ section_word x.standing) same own;
}
