-- A step's line stands at the front of a text in one way.
use Rattle.mt_told.proofs.Prelude.{◌≡◌, ℕ, List, [], ◌∷◌, ◌++◌, length, length-append, append_assoc, refl, sym, ap, ◌∙◌, subst, arith, flat_map, decimal, append-nil, append_cancel_left, Outcome, Step, entry_of, AllFit, IsStepAt, TellsDone, TellsNotDone, TellsNothingOf, TellsOf, TellsStepAt, outcome_text, step_at_place, steps_text, told_at, AreSpelled, FitsLine, HasForm, IsSpelled, Spelling, spelled_line, told_text, what_text, Deed, LinePlace, ToldLine, What}

pub steps_text-append : (sp : Spelling) (first second : List Step) (after : List ℕ) → steps_text sp (first ++ second) ++ after ≡ steps_text sp first ++ (steps_text sp second ++ after)
steps_text-append sp [] second after = refl
steps_text-append sp (s ∷ first) second after =
    append_assoc (spelled_line sp (entry_of s)) (steps_text sp (first ++ second)) after
    ∙ (ap (λ (t : List ℕ). spelled_line sp (entry_of s) ++ t) (steps_text-append sp first second after)
    ∙ sym (append_assoc (spelled_line sp (entry_of s)) (steps_text sp first) (steps_text sp second ++ after)))

pub told_text-append : (mine more : List ToldLine) (after : List ℕ) → flat_map told_text (mine ++ more) ++ after ≡ flat_map told_text mine ++ (flat_map told_text more ++ after)
told_text-append [] more after = refl
told_text-append (t ∷ mine) more after =
    append_assoc (told_text t) (flat_map told_text (mine ++ more)) after
    ∙ (ap (λ (x : List ℕ). told_text t ++ x) (told_text-append mine more after)
    ∙ sym (append_assoc (told_text t) (flat_map told_text mine) (flat_map told_text more ++ after)))

-- a text tells of no steps, and goes on with all of it
pub nothing_told : (text : List ℕ) → TellsDone (λ steps. steps ≡ []) text [] text
nothing_told text = record { only = only_none; its = its_none; printed = printed_none; written = refl; shorter = omega arith }
  where
    only_none : (sp : Spelling) (steps : List Step) (after : List ℕ) → steps ≡ [] → AllFit sp steps → text ≡ steps_text sp steps ++ after → AreSpelled sp [] steps × (text ≡ after)
    only_none sp steps after is small other = (subst (AreSpelled sp []) (sym is) tt, other ∙ ap (λ (ss : List Step). steps_text sp ss ++ after) is)

    its_none : (sp : Spelling) (steps : List Step) → AreSpelled sp [] steps → steps ≡ []
    its_none sp [] told = refl
    its_none sp (s ∷ steps) told = absurd told

    printed_none : (sp : Spelling) (steps : List Step) → AreSpelled sp [] steps → text ≡ steps_text sp steps ++ text
    printed_none sp [] told = refl
    printed_none sp (s ∷ steps) told = absurd told

-- ---- one step

step_text : (sp : Spelling) (p : LinePlace) (o : Outcome) (after : List ℕ) → steps_text sp (step_at_place p o ∷ []) ++ after ≡ decimal p.line ++ (32 ∷ (outcome_text sp o ++ after))
step_text sp p o after = simp (append_assoc, append-nil)

written_text : (p : LinePlace) (what : What) (rest : List ℕ) → flat_map told_text (told_at p what ∷ []) ++ rest ≡ decimal p.line ++ (32 ∷ ((what_text what ++ (10 ∷ [])) ++ rest))
written_text p what rest = simp (append_assoc, append-nil)

-- it is told of one step
pub one_told : (sp : Spelling) (t : ToldLine) (steps : List Step) → AreSpelled sp (t ∷ []) steps → (s : Step) × (steps ≡ s ∷ []) × IsSpelled sp t s
one_told sp t [] h = absurd h
one_told sp t (s ∷ []) h = (s, refl, h.0)
one_told sp t (s ∷ other ∷ steps) h = absurd h.1

front_of_step : (sp : Spelling) (p : LinePlace) (o : Outcome) (text line after : List ℕ) (steps : List Step) → text ≡ decimal p.line ++ (32 ∷ line) → steps ≡ step_at_place p o ∷ [] → text ≡ steps_text sp steps ++ after → line ≡ outcome_text sp o ++ after
front_of_step sp p o text line after steps at is other =
    let whole : text ≡ steps_text sp (step_at_place p o ∷ []) ++ after = other ∙ ap (λ (ss : List Step). steps_text sp ss ++ after) is in
    let same : 32 ∷ line ≡ 32 ∷ (outcome_text sp o ++ after) = append_cancel_left (decimal p.line) (32 ∷ line) (32 ∷ (outcome_text sp o ++ after)) (sym at ∙ (whole ∙ step_text sp p o after)) in
    (cc)

small_of_step : (sp : Spelling) (p : LinePlace) (o : Outcome) (steps : List Step) → steps ≡ step_at_place p o ∷ [] → AllFit sp steps → FitsLine sp o
small_of_step sp p o steps is small =
    let one : AllFit sp (step_at_place p o ∷ []) = subst (AllFit sp) is small in
    one 0 (step_at_place p o) (omega arith)

module _ (p : LinePlace) (deed : Deed) (text line rest : List ℕ) (what : What) (at : text ≡ decimal p.line ++ (32 ∷ line)) (tells : TellsOf deed line what rest) where
  only_step : (sp : Spelling) (steps : List Step) (after : List ℕ) → IsStepAt p deed steps → AllFit sp steps → text ≡ steps_text sp steps ++ after → AreSpelled sp (told_at p what ∷ []) steps × (rest ≡ after)
  only_step sp steps after h small other =
      let one = tells.only sp h.0 after h.2 (small_of_step sp p h.0 steps h.1 small) (front_of_step sp p h.0 text line after steps at h.1 other) in
      let told : IsSpelled sp (told_at p what) (step_at_place p h.0) = record { line = refl; lane = refl; phase = refl; tree = refl; outcome = one.0 } in
      (subst (AreSpelled sp (told_at p what ∷ [])) (sym h.1) (told, tt), one.1)

  step_is : (sp : Spelling) (s : Step) → IsSpelled sp (told_at p what) s → s ≡ step_at_place p s.outcome
  step_is sp s h = λ i. record { line = h.line i; lane = h.lane i; phase = h.phase i; tree = h.tree i; outcome = s.outcome }

  its_step : (sp : Spelling) (steps : List Step) → AreSpelled sp (told_at p what ∷ []) steps → IsStepAt p deed steps
  its_step sp steps told =
      let one = one_told sp (told_at p what) steps told in
      (one.0.outcome, one.1 ∙ ap (λ (s : Step). s ∷ []) (step_is sp one.0 one.2), tells.its sp one.0.outcome one.2.outcome)

  printed_step : (sp : Spelling) (steps : List Step) → AreSpelled sp (told_at p what ∷ []) steps → text ≡ steps_text sp steps ++ rest
  printed_step sp steps told =
      let one = one_told sp (told_at p what) steps told in
      let is : steps ≡ step_at_place p one.0.outcome ∷ [] = one.1 ∙ ap (λ (s : Step). s ∷ []) (step_is sp one.0 one.2) in
      at ∙ (ap (λ (t : List ℕ). decimal p.line ++ (32 ∷ t)) (tells.printed sp one.0.outcome one.2.outcome)
      ∙ (sym (step_text sp p one.0.outcome rest) ∙ ap (λ (ss : List Step). steps_text sp ss ++ rest) (sym is)))

  written_step : text ≡ flat_map told_text (told_at p what ∷ []) ++ rest
  written_step = at ∙ (ap (λ (t : List ℕ). decimal p.line ++ (32 ∷ t)) tells.written ∙ sym (written_text p what rest))

  pub step_told : TellsStepAt p deed text (told_at p what) rest
  step_told = record {
    told = record { only = only_step; its = its_step; printed = printed_step; written = written_step; shorter = omega (arith, tells.shorter, ap length at, length-append (decimal p.line) (32 ∷ line)) };
    stands = record { line = refl; lane = refl; phase = refl; tree = refl; form = tells.form };
  }

pub no_step : (p : LinePlace) (deed : Deed) (text line : List ℕ) → text ≡ decimal p.line ++ (32 ∷ line) → TellsNothingOf deed line → TellsNotDone (IsStepAt p deed) text
no_step p deed text line at none sp steps after h small other =
    none sp h.0 after h.2 (small_of_step sp p h.0 steps h.1 small) (front_of_step sp p h.0 text line after steps at h.1 other)
