-- No call is answered by a map as one that is refused for want of rows, and when one is refused.
use Rattle.mt_verify.proofs.Prelude.{◌≡◌, ◌↔◌, Bool, true, false, List, refl, sym, ap, ◌∙◌, subst, IsTrue, Range, Kind, Call, Reply, Shortage, acted, IsMap, Limits, Wants, IsShort, IsRefused, is_nomem, wants}
use Rattle.mt_base.proofs.PlainReplies.{IsPlain, acted_plainly as replies_plainly}
use Rattle.mt_base.specs.declared.replies.Reply.TheVariants as reply
use Rattle.mt_verify.proofs.Wanted.{wants_is}

-- ---- no call is answered so

no_nomem : (r : Reply) → IsPlain r → is_nomem r ≡ false
no_nomem (reply.NoNodes shortage) plain = absurd plain
no_nomem r plain = refl

pub acted_plainly : (kind : Kind) (m : List Range) (call : Call) → is_nomem (acted kind m call).1 ≡ false
acted_plainly kind m call = no_nomem (acted kind m call).1 (replies_plainly kind m call)

-- ---- a refusal

pub refused_wants : (kind kind' : Kind) (l : Limits) (m : List Range) (call : Call) (answer : Reply) (yes' : Bool) → IsMap kind' m → kind ≡ kind' → yes' ≡ wants kind m call → IsRefused kind' l m call answer → yes' ≡ true
refused_wants kind kind' l m call answer yes' is same told refused = told ∙ (ap (λ (k : Kind). wants k m call) same ∙ (wants_is kind' m call is).1 refused.wants)

pub wants_so : (kind kind' : Kind) (m : List Range) (call : Call) (yes' : Bool) → IsMap kind' m → kind ≡ kind' → yes' ≡ wants kind m call → yes' ≡ true → Wants kind' m call
wants_so kind kind' m call yes' is same told holds = (wants_is kind' m call is).0 (ap (λ (k : Kind). wants k m call) (sym same) ∙ (sym told ∙ holds))

pub refused_iff : (kind : Kind) (l : Limits) (m : List Range) (call : Call) (s : Shortage) (short : Bool) → Wants kind m call → IsTrue short ↔ IsShort l m s → IsTrue short ↔ IsRefused kind l m call (reply.NoNodes s)
refused_iff kind l m call s short w iff = (
  (λ holds. record { shortage = s; told = refl; wants = w; short = iff.0 holds }),
  (λ refused. iff.1 (let same : s ≡ refused.shortage = (let told = refused.told in cc) in subst (IsShort l m) (sym same) refused.short)),
)
