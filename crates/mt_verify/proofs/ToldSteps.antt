-- Steps that are told so: their order and their calls are those of the text.
use Rattle.mt_verify.proofs.Prelude.{[], ◌≡◌, ◌↔◌, ◌⊎◌, ℕ, zero, suc, ◌==◌, ◌<◌, ◌≤◌, Bool, true, false, List, ◌∷◌, Option, Some, None, All, AllPairs, length, get_or, filter_map, if◌then◌else◌, arith, refl, sym, ap, ◌∙◌, subst, inl, inr, cons_option, Record, Outcome, Called, Looked, Counted, Step, numbered_on, record_in, ToldLine, What, Wrote, Got, Copied, Lawful, AreTold, IsSpelledOf, IsTold, spelling_of, Numbered, AreRecordsTold, IsRecordTold, calls_told, numbered_of, numbered_on_told, Bor, Call, Query, Range, Reply, Answer, Said}
use Rattle.mt_verify.specs.PrintedOrder as of_text
use Rattle.mt_verify.specs.Windows as of_steps

-- as this version of logs writes it
abbrev pub IsToldOf : ℕ → What → Outcome → Type 0
IsToldOf version what o = IsSpelledOf (spelling_of version) what o

-- what is told of an outcome is of its kind: so what holds of calls, of reads and of numbers of ranges holds of all
pub by_kind : (version : ℕ) (P : What → Outcome → Type 0)
    → ((number : ℕ) (call : Call) (reply : Bor (List ℕ)) (n : ℕ) (c : Call) (r : Reply) → IsToldOf version (Wrote number call reply) (Called n c r) → P (Wrote number call reply) (Called n c r))
    → ((lo hi : ℕ) (query : Query) (answer : Answer) (l h k : ℕ) (q : Query) (v : Option Range) → IsToldOf version (Got lo hi query answer) (Looked l h k q v) → P (Got lo hi query answer) (Looked l h k q v))
    → ((count : Bor (List ℕ)) (s : ℕ → Said) (ranges : List Range) → P (Copied count) (Counted s ranges))
    → ((count : Bor (List ℕ)) (s : ℕ → Said) (ranges : List Range) → P (Lawful count) (Counted s ranges))
    → (w : What) (o : Outcome) → IsToldOf version w o → P w o
by_kind version P called looked copied lawful (Wrote number call reply) (Called n c r) is = called number call reply n c r is
by_kind version P called looked copied lawful (Wrote number call reply) (Looked lo hi k q v) is = absurd is
by_kind version P called looked copied lawful (Wrote number call reply) (Counted s ranges) is = absurd is
by_kind version P called looked copied lawful (Got lo hi query answer) (Called n c r) is = absurd is
by_kind version P called looked copied lawful (Got lo hi query answer) (Looked l h k q v) is = looked lo hi query answer l h k q v is
by_kind version P called looked copied lawful (Got lo hi query answer) (Counted s ranges) is = absurd is
by_kind version P called looked copied lawful (Copied count) (Called n c r) is = absurd is
by_kind version P called looked copied lawful (Copied count) (Looked lo hi k q v) is = absurd is
by_kind version P called looked copied lawful (Copied count) (Counted s ranges) is = copied count s ranges
by_kind version P called looked copied lawful (Lawful count) (Called n c r) is = absurd is
by_kind version P called looked copied lawful (Lawful count) (Looked lo hi k q v) is = absurd is
by_kind version P called looked copied lawful (Lawful count) (Counted s ranges) is = lawful count s ranges

-- ---- what is told of the order: a call's number, or a window

abbrev Part : Type 0
Part = Option (ℕ ⊎ (ℕ × ℕ))

abbrev told_part : What → Part
told_part (Wrote number call reply) = Some (inl number)
told_part (Got lo hi query answer) = Some (inr (lo, hi))
told_part (Copied count) = None
told_part (Lawful count) = None

abbrev step_part : Outcome → Part
step_part (Called number call reply) = Some (inl number)
step_part (Looked lo hi k query value) = Some (inr (lo, hi))
step_part (Counted said ranges) = None

abbrev Keeps : Part → Part → Type 0
Keeps None other = Unit {0}
Keeps (Some one) None = Unit {0}
Keeps (Some (inl m)) (Some (inl n)) = m < n
Keeps (Some (inl m)) (Some (inr w)) = m ≤ w.0
Keeps (Some (inr v)) (Some (inl n)) = v.1 < n
Keeps (Some (inr v)) (Some (inr w)) = v.0 ≤ w.0

keeps_told : (v w : What) → of_text.KeepsTo v w ↔ Keeps (told_part v) (told_part w)
keeps_told (Wrote m c r) (Wrote n d s) = (λ h. h, λ h. h)
keeps_told (Wrote m c r) (Got lo hi q a) = (λ h. h, λ h. h)
keeps_told (Wrote m c r) (Copied count) = (λ h. h, λ h. h)
keeps_told (Wrote m c r) (Lawful count) = (λ h. h, λ h. h)
keeps_told (Got lo hi q a) (Wrote n d s) = (λ h. h, λ h. h)
keeps_told (Got lo hi q a) (Got lo' hi' q' a') = (λ h. h, λ h. h)
keeps_told (Got lo hi q a) (Copied count) = (λ h. h, λ h. h)
keeps_told (Got lo hi q a) (Lawful count) = (λ h. h, λ h. h)
keeps_told (Copied count) other = (λ h. h, λ h. h)
keeps_told (Lawful count) other = (λ h. h, λ h. h)

keeps_done : (o p : Outcome) → of_steps.KeepsTo o p ↔ Keeps (step_part o) (step_part p)
keeps_done (Called m c r) (Called n d s) = (λ h. h, λ h. h)
keeps_done (Called m c r) (Looked lo hi k q v) = (λ h. h, λ h. h)
keeps_done (Called m c r) (Counted said ranges) = (λ h. h, λ h. h)
keeps_done (Looked lo hi k q v) (Called n c r) = (λ h. h, λ h. h)
keeps_done (Looked lo hi k q v) (Looked lo' hi' k' q' v') = (λ h. h, λ h. h)
keeps_done (Looked lo hi k q v) (Counted said ranges) = (λ h. h, λ h. h)
keeps_done (Counted said ranges) other = (λ h. h, λ h. h)

module _ (version : ℕ) where
  same_part : (w : What) (o : Outcome) → IsToldOf version w o → told_part w ≡ step_part o
  same_part = by_kind version (λ w o. told_part w ≡ step_part o)
      (λ number call reply n c r is. ap (λ (m : ℕ). Some (inl m)) (sym is.0))
      (λ lo hi query answer l h k q v is i. Some (inr (sym is.0 i, sym is.1 i)))
      (λ count s ranges. refl) (λ count s ranges. refl)

  -- ---- one by one

  pub as_many_steps : (told : List ToldLine) (steps : List Step) → AreTold version told steps → length told ≡ length steps
  as_many_steps [] [] are = refl
  as_many_steps [] (s ∷ steps) are = absurd are
  as_many_steps (t ∷ told) [] are = absurd are
  as_many_steps (t ∷ told) (s ∷ steps) are = ap suc (as_many_steps told steps are.1)

  pub told_at : (told : List ToldLine) (steps : List Step) (i : ℕ) (d : ToldLine) (e : Step) → AreTold version told steps → i < length told → IsTold version (get_or told i d) (get_or steps i e)
  told_at [] steps i d e are within = absurd (omega arith)
  told_at (t ∷ told) [] i d e are within = absurd are
  told_at (t ∷ told) (s ∷ steps) zero d e are within = are.0
  told_at (t ∷ told) (s ∷ steps) (suc i) d e are within = told_at told steps i d e are.1 (omega arith)

  -- a step and a line, where there is some
  some_told : (told : List ToldLine) (i : ℕ) → i < length told → ToldLine
  some_told [] i within = absurd (omega arith)
  some_told (t ∷ told) i within = t

  some_step : (steps : List Step) (i : ℕ) → i < length steps → Step
  some_step [] i within = absurd (omega arith)
  some_step (s ∷ steps) i within = s

  -- ---- the order

  order_of_steps : (s t : ToldLine) (s' t' : Step) → IsTold version s s' → IsTold version t t' → of_text.InPrintedOrder s t → of_steps.InPrintedOrder s' t'
  order_of_steps s t s' t' first second order tree knows =
      let known : of_text.Knows s t = elim knows [ inl lane ↦ inl (sym first.lane ∙ (lane ∙ second.lane)) | inr phase ↦ inr (omega (arith, phase, first.phase, second.phase)) ] in
      let keeps = (keeps_told s.what t.what).0 (order (sym first.tree ∙ (tree ∙ second.tree)) known) in
      (keeps_done s'.outcome t'.outcome).1 (subst (λ (p : Part). Keeps p (step_part t'.outcome)) (same_part s.what s'.outcome first.outcome) (subst (Keeps (told_part s.what)) (same_part t.what t'.outcome second.outcome) keeps))

  order_of_text : (s t : ToldLine) (s' t' : Step) → IsTold version s s' → IsTold version t t' → of_steps.InPrintedOrder s' t' → of_text.InPrintedOrder s t
  order_of_text s t s' t' first second order tree knows =
      let keeps = (keeps_done s'.outcome t'.outcome).0 (order (first.tree ∙ (tree ∙ sym second.tree)) (elim knows [ inl lane ↦ inl (first.lane ∙ (lane ∙ sym second.lane)) | inr phase ↦ inr (omega (arith, phase, first.phase, second.phase)) ])) in
      (keeps_told s.what t.what).1 (subst (λ (p : Part). Keeps p (told_part t.what)) (sym (same_part s.what s'.outcome first.outcome)) (subst (Keeps (step_part s'.outcome)) (sym (same_part t.what t'.outcome second.outcome)) keeps))

pub order_told : (version : ℕ) (told : List ToldLine) (steps : List Step) → AreTold version told steps → AllPairs of_text.InPrintedOrder told ↔ AllPairs of_steps.InPrintedOrder steps
order_told version told steps are =
    let long = as_many_steps version told steps are in (
      λ pairs i j e before within.
          (let d : ToldLine = some_told version told j (omega (arith, long)) in
          order_of_steps version (get_or told i d) (get_or told j d) (get_or steps i e) (get_or steps j e) (told_at version told steps i d e are (omega (arith, long))) (told_at version told steps j d e are (omega (arith, long))) (pairs i j d before (omega (arith, long)))),
      λ pairs i j d before within.
          (let e : Step = some_step version steps j (omega (arith, long)) in
          order_of_text version (get_or told i d) (get_or told j d) (get_or steps i e) (get_or steps j e) (told_at version told steps i d e are (omega arith)) (told_at version told steps j d e are within) (pairs i j e before (omega (arith, long)))),
    )

-- ---- calls

module _ (version tree : ℕ) where
  abbrev AreTellable : Option (ℕ × Numbered) → Option (ℕ × Record) → Type 0
  AreTellable None None = Unit {0}
  AreTellable None (Some r) = ⊥
  AreTellable (Some e) None = ⊥
  AreTellable (Some e) (Some r) = IsRecordTold version e r

  one_call : (lane lane' phase : ℕ) (w : What) (o : Outcome) → lane' ≡ lane → IsToldOf version w o → AreTellable (numbered_of lane phase w) (record_in lane' o)
  one_call lane lane' phase w o same = by_kind version (λ w o. AreTellable (numbered_of lane phase w) (record_in lane' o))
      (λ number call reply n c r is. record { number = is.0; lane = same; call = is.1; reply = is.2 })
      (λ lo hi query answer l h k q v is. tt) (λ count s ranges. tt) (λ count s ranges. tt) w o

  on_tree : (b : Bool) (o : Option (ℕ × Numbered)) (p : Option (ℕ × Record)) → AreTellable o p → AreTellable (if b then o else None) (if b then p else None)
  on_tree true o p are = are
  on_tree false o p are = tt

  one_line : (t : ToldLine) (s : Step) → IsTold version t s → AreTellable (numbered_on_told tree t) (numbered_on tree s)
  one_line t s is =
      let call = one_call t.lane s.lane t.phase t.what s.outcome is.lane is.outcome in
      subst (λ (n : ℕ). AreTellable (numbered_on_told tree t) (if n == tree then record_in s.lane s.outcome else None)) (sym is.tree) (on_tree (t.tree == tree) (numbered_of t.lane t.phase t.what) (record_in s.lane s.outcome) call)

  one_more_call : (o : Option (ℕ × Numbered)) (p : Option (ℕ × Record)) (calls : List (ℕ × Numbered)) (records : List (ℕ × Record)) → AreTellable o p → AreRecordsTold version calls records → AreRecordsTold version (cons_option o calls) (cons_option p records)
  one_more_call None None calls records one rest = rest
  one_more_call None (Some r) calls records one rest = absurd one
  one_more_call (Some e) None calls records one rest = absurd one
  one_more_call (Some e) (Some r) calls records one rest = (one, rest)

  pub calls_of_steps : (told : List ToldLine) (steps : List Step) → AreTold version told steps → AreRecordsTold version (calls_told tree told) (filter_map (numbered_on tree) steps)
  calls_of_steps [] [] are = tt
  calls_of_steps [] (s ∷ steps) are = absurd are
  calls_of_steps (t ∷ told) [] are = absurd are
  calls_of_steps (t ∷ told) (s ∷ steps) are = one_more_call (numbered_on_told tree t) (numbered_on tree s) (calls_told tree told) (filter_map (numbered_on tree) steps) (one_line t s are.0) (calls_of_steps told steps are.1)

pub as_many_told : (version : ℕ) (calls : List (ℕ × Numbered)) (records : List (ℕ × Record)) → AreRecordsTold version calls records → length calls ≡ length records
as_many_told version [] [] are = refl
as_many_told version [] (r ∷ records) are = absurd are
as_many_told version (e ∷ calls) [] are = absurd are
as_many_told version (e ∷ calls) (r ∷ records) are = ap suc (as_many_told version calls records are.1)

-- ---- the ends of windows

abbrev Ends : ℕ → Part → Type 0
Ends calls None = Unit {0}
Ends calls (Some (inl n)) = Unit {0}
Ends calls (Some (inr w)) = w.1 ≤ calls

ends_as_told : (calls : ℕ) (w : What) → of_text.EndsWithin calls w ↔ Ends calls (told_part w)
ends_as_told calls (Wrote number call reply) = (λ h. h, λ h. h)
ends_as_told calls (Got lo hi query answer) = (λ h. h, λ h. h)
ends_as_told calls (Copied count) = (λ h. h, λ h. h)
ends_as_told calls (Lawful count) = (λ h. h, λ h. h)

ends_as_done : (calls : ℕ) (o : Outcome) → of_steps.EndsWithin calls o ↔ Ends calls (step_part o)
ends_as_done calls (Called number call reply) = (λ h. h, λ h. h)
ends_as_done calls (Looked lo hi k query value) = (λ h. h, λ h. h)
ends_as_done calls (Counted said ranges) = (λ h. h, λ h. h)

module _ (version : ℕ) (told : List ToldLine) (steps : List Step) (are : AreTold version told steps) where
  same_count : (t : ToldLine) (s : Step) → IsTold version t s → length (calls_told t.tree told) ≡ length (filter_map (numbered_on s.tree) steps)
  same_count t s is = as_many_told version (calls_told t.tree told) (filter_map (numbered_on t.tree) steps) (calls_of_steps version t.tree told steps are) ∙ ap (λ (n : ℕ). length (filter_map (numbered_on n) steps)) (sym is.tree)

  ends_at : (t : ToldLine) (s : Step) → IsTold version t s → of_text.EndsInTree told t ↔ of_steps.EndsInTree steps s
  ends_at t s is =
      let count = same_count t s is in
      let part = same_part version t.what s.outcome is.outcome in
      let text = ends_as_told (length (calls_told t.tree told)) t.what in
      let done = ends_as_done (length (filter_map (numbered_on s.tree) steps)) s.outcome in (
        λ h. done.1 (subst (λ (n : ℕ). Ends n (step_part s.outcome)) count (subst (Ends (length (calls_told t.tree told))) part (text.0 h))),
        λ h. text.1 (subst (Ends (length (calls_told t.tree told))) (sym part) (subst (λ (n : ℕ). Ends n (step_part s.outcome)) (sym count) (done.0 h))),
      )

pub ends_told : (version : ℕ) (told : List ToldLine) (steps : List Step) → AreTold version told steps → All (of_text.EndsInTree told) told ↔ All (of_steps.EndsInTree steps) steps
ends_told version told steps are =
    let long = as_many_steps version told steps are in (
      λ all k e within.
          (let d : ToldLine = some_told version told k (omega (arith, long)) in
          (ends_at version told steps are (get_or told k d) (get_or steps k e) (told_at version told steps k d e are (omega (arith, long)))).0 (all k d (omega (arith, long)))),
      λ all k d within.
          (let e : Step = some_step version steps k (omega (arith, long)) in
          (ends_at version told steps are (get_or told k d) (get_or steps k e) (told_at version told steps k d e are within)).1 (all k e (omega (arith, long)))),
    )
