-- Who held rows, among steps that are told so.
use Rattle.mt_verify.proofs.Prelude.{[], ◌≡◌, ◌≢◌, ◌↔◌, ℕ, ◌==◌, ◌&&◌, ◌||◌, Bool, true, List, ◌∷◌, Option, Some, None, IfSome, refl, sym, ap, ◌∙◌, nat_le, if◌then◌else◌, list_any, Holder, Outcome, Step, IsHeldRightly, holder_in, is_read, is_read_by, ToldLine, What, Wrote, Got, Copied, Lawful, AreTold, IsTold, Numbered, IsReader, reads_by, numbered_of, numbered_on_told, is_got}
use Rattle.mt_verify.proofs.ToldSteps.{IsToldOf, by_kind}
use Rattle.mt_verify.proofs.Placed.{same_number}

module _ (version : ℕ) where
  same_read : (w : What) (o : Outcome) → IsToldOf version w o → is_got w ≡ is_read o
  same_read = by_kind version (λ w o. is_got w ≡ is_read o)
      (λ number call reply n c r is. refl) (λ lo hi query answer l h k q v is. refl) (λ count s ranges. refl) (λ count s ranges. refl)

  module _ (lane : ℕ) (t : ToldLine) (s : Step) (same : IsTold version t s) where
    read_alike : (r : ToldLine) (step : Step) → IsTold version r step → reads_by t.tree lane t.phase r ≡ is_read_by lane s step
    read_alike r step is = λ i.
        (sym is.lane i == lane) && ((sym is.tree i == sym same.tree i) && (nat_le (sym is.phase i) (sym same.phase i) && same_read r.what step.outcome is.outcome i))

    reads_alike : (told : List ToldLine) (steps : List Step) → AreTold version told steps → list_any (reads_by t.tree lane t.phase) told ≡ list_any (is_read_by lane s) steps
    reads_alike [] [] are = refl
    reads_alike [] (step ∷ steps) are = absurd are
    reads_alike (r ∷ told) [] are = absurd are
    reads_alike (r ∷ told) (step ∷ steps) are = λ i. read_alike r step are.0 i || reads_alike told steps are.1 i

-- the call is of the line's lane and phase
abbrev IsOfLine : ToldLine → Numbered → Type 0
IsOfLine t call = (call.lane ≡ t.lane) × (call.phase ≡ t.phase)

of_line : (t : ToldLine) (w : What) (number : ℕ) (call : Numbered) → numbered_of t.lane t.phase w ≡ Some (number, call) → IsOfLine t call
of_line t (Wrote n c r) number call is =
    let same : (n, record { lane = t.lane; phase = t.phase; call = c; reply = r }) ≡ (number, call) = cc in
    (sym (ap (λ (x : ℕ × Numbered). x.1.lane) same), sym (ap (λ (x : ℕ × Numbered). x.1.phase) same))
of_line t (Got lo hi query answer) number call is = absurd (cc)
of_line t (Copied count) number call is = absurd (cc)
of_line t (Lawful count) number call is = absurd (cc)

module _ (version : ℕ) (told : List ToldLine) (steps : List Step) (t : ToldLine) (s : Step) (are : AreTold version told steps) (is : IsTold version t s) (call : Numbered) (of : IsOfLine t call) where
  told_so : (lane : ℕ) → list_any (reads_by t.tree lane call.phase) told ≡ list_any (is_read_by lane s) steps
  told_so lane = ap (λ (p : ℕ). list_any (reads_by t.tree lane p) told) of.1 ∙ reads_alike version lane t s is told steps are

  held_alike : (o : Option Holder) → IfSome o (λ holder. (holder.pass ≢ s.lane) × (list_any (is_read_by holder.pass s) steps ≡ true)) ↔ IfSome o (λ holder. IsReader told t.tree call holder.pass)
  held_alike None = (λ h. tt, λ h. tt)
  held_alike (Some holder) = (
    λ h. record { other = λ same. h.0 (same ∙ (of.0 ∙ sym is.lane)); reads = told_so holder.pass ∙ h.1 },
    λ h. (λ same. h.other (same ∙ (is.lane ∙ sym of.0)), sym (told_so holder.pass) ∙ h.reads),
  )

pub holders_told : (version : ℕ) (told : List ToldLine) (steps : List Step) (t : ToldLine) (s : Step) (number : ℕ) (call : Numbered) → AreTold version told steps → IsTold version t s → numbered_on_told t.tree t ≡ Some (number, call)
    → IsHeldRightly steps s ↔ IfSome (holder_in s.outcome) (λ holder. IsReader told t.tree call holder.pass)
holders_told version told steps t s number call are is numbered =
    let mine : numbered_of t.lane t.phase t.what ≡ Some (number, call) = sym (ap (λ (b : Bool). if b then numbered_of t.lane t.phase t.what else None) (same_number t.tree)) ∙ numbered in
    held_alike version told steps t s are is call (of_line t t.what number call mine) (holder_in s.outcome)
