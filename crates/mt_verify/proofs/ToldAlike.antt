-- Runs that are told by one list are told alike.
use Rattle.mt_verify.proofs.Prelude.{◌≡◌, ℕ, ◌==◌, ◌++◌, Bool, false, List, [], ◌∷◌, codes, refl, sym, ap, ◌∙◌, decimal, cond_both, Reply, range_text, Outcome, Called, Looked, Counted, Step, reply_text, ToldLine, What, Wrote, Got, Copied, Lawful, AreTold, is_nomem, OutcomesAlike, AreToldAlike}
use Rattle.mt_base.specs.declared.replies.Reply.TheVariants as replies
use Rattle.mt_verify.proofs.ToldSteps.{IsToldOf}

-- ---- a refusal for want of rows is told by its text

-- the third byte is an m
abbrev pub third_m : List ℕ → Bool
third_m (a ∷ b ∷ c ∷ rest) = c == 109
third_m rest = false

pub nomem_text : (version : ℕ) (r : Reply) → third_m (reply_text version r) ≡ is_nomem r
nomem_text version replies.Ok = refl
nomem_text version (replies.Over entry) = cond_both (version == 1) (codes "ok") (codes "over " ++ decimal entry) (λ (t : List ℕ). third_m t ≡ false) (λ first. refl) (λ later. refl)
nomem_text version (replies.Start start) = refl
nomem_text version (replies.Was r) = cond_both (version == 1) (codes "was " ++ decimal r.entry) (codes "was " ++ range_text r) (λ (t : List ℕ). third_m t ≡ false) (λ first. refl) (λ later. refl)
nomem_text version replies.None = refl
nomem_text version replies.Exists = refl
nomem_text version replies.Invalid = refl
nomem_text version replies.Busy = refl
nomem_text version (replies.NoNodes s) = refl

-- ---- steps

module _ (version : ℕ) where
  outcomes_alike : (w : What) (o o' : Outcome) → IsToldOf version w o → IsToldOf version w o' → OutcomesAlike o o'
  outcomes_alike (Wrote number call reply) (Called n c r) (Called n' c' r') a b =
      (a.0 ∙ sym b.0, a.1 ∙ sym b.1, sym (nomem_text version r) ∙ (ap third_m (a.2 ∙ sym b.2) ∙ nomem_text version r'))
  outcomes_alike (Wrote number call reply) (Called n c r) (Looked lo hi k q v) a b = absurd b
  outcomes_alike (Wrote number call reply) (Called n c r) (Counted s ranges) a b = absurd b
  outcomes_alike (Wrote number call reply) (Looked lo hi k q v) o' a b = absurd a
  outcomes_alike (Wrote number call reply) (Counted s ranges) o' a b = absurd a
  outcomes_alike (Got lo hi query answer) (Called n c r) o' a b = absurd a
  outcomes_alike (Got lo hi query answer) (Looked l h k q v) (Called n c r) a b = absurd b
  outcomes_alike (Got lo hi query answer) (Looked l h k q v) (Looked l' h' k' q' v') a b =
      (a.0 ∙ sym b.0, a.1 ∙ sym b.1, a.2 ∙ sym b.2, a.3 ∙ sym b.3)
  outcomes_alike (Got lo hi query answer) (Looked l h k q v) (Counted s ranges) a b = absurd b
  outcomes_alike (Got lo hi query answer) (Counted s ranges) o' a b = absurd a
  outcomes_alike (Copied count) (Called n c r) o' a b = absurd a
  outcomes_alike (Copied count) (Looked lo hi k q v) o' a b = absurd a
  outcomes_alike (Copied count) (Counted s ranges) (Called n c r) a b = absurd b
  outcomes_alike (Copied count) (Counted s ranges) (Looked lo hi k q v) a b = absurd b
  outcomes_alike (Copied count) (Counted s ranges) (Counted s' ranges') a b = tt
  outcomes_alike (Lawful count) (Called n c r) o' a b = absurd a
  outcomes_alike (Lawful count) (Looked lo hi k q v) o' a b = absurd a
  outcomes_alike (Lawful count) (Counted s ranges) (Called n c r) a b = absurd b
  outcomes_alike (Lawful count) (Counted s ranges) (Looked lo hi k q v) a b = absurd b
  outcomes_alike (Lawful count) (Counted s ranges) (Counted s' ranges') a b = tt

  pub told_alike_by_one : (told : List ToldLine) (steps steps' : List Step) → AreTold version told steps → AreTold version told steps' → AreToldAlike steps steps'
  told_alike_by_one [] [] [] a b = tt
  told_alike_by_one [] [] (s' ∷ steps') a b = absurd b
  told_alike_by_one [] (s ∷ steps) steps' a b = absurd a
  told_alike_by_one (t ∷ told) [] steps' a b = absurd a
  told_alike_by_one (t ∷ told) (s ∷ steps) [] a b = absurd b
  told_alike_by_one (t ∷ told) (s ∷ steps) (s' ∷ steps') a b = (
    record {
      lane = a.0.lane ∙ sym b.0.lane;
      phase = a.0.phase ∙ sym b.0.phase;
      tree = a.0.tree ∙ sym b.0.tree;
      outcome = outcomes_alike t.what s.outcome s'.outcome a.0.outcome b.0.outcome;
    },
    told_alike_by_one told steps steps' a.1 b.1,
  )
