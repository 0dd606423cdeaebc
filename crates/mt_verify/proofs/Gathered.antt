-- Lines that are gone through one by one, and what is asked for by them.
use Rattle.mt_verify.proofs.Prelude.{◌≡◌, ◌↔◌, ℕ, ◌<◌, ◌≤◌, List, [], ◌∷◌, ◌++◌, length, get_or, set, replicate, All, inl, inr, arith, refl, sym, ap, ◌∙◌, subst, get_or-set_same, get_or-set_other, length_push, length-set, get_or_default, length-replicate, get_or-replicate, get_or_append_left, get_or_push, cases_eq, All-push, ToldLine, What, Mark, Marks, Admits, Gather, AreMarked, lane_place, KeepsTo, most_lanes}

module _ {X : Type 0} (P : X → Type 0) where
  pub all_but_last : (xs : List X) (y : X) → All P (xs ++ y ∷ []) → All P xs
  all_but_last xs y all k d lt = subst P (get_or_append_left xs (y ∷ []) d k lt) (all k d (omega (arith, length_push xs y)))

  pub the_last : (xs : List X) (y : X) → All P (xs ++ y ∷ []) → P y
  the_last xs y all = subst P (get_or_push xs y y (length xs) refl) (all (length xs) y (omega (arith, length_push xs y)))

-- a mark asks for what another does, and for what a line does
abbrev pub IsWithLine : What → Mark → Mark → Type 0
IsWithLine s old new = (w : What) → Admits new w ↔ (Admits old w × KeepsTo s w)

-- the mark at each place asks for what these lines do that are of the place
module _ (IsOf : ℕ → ToldLine → Type 0) where
  pub gather_none : (n : ℕ) (mark : Mark) → ((w : What) → Admits mark w) → Gather IsOf (replicate n mark) []
  gather_none n mark admits place other w within = (λ a k d lt. absurd (omega arith), λ all. subst (λ (m : Mark). Admits m w) (sym (get_or-replicate n place mark other (omega (arith, within, length-replicate n mark)))) (admits w))

  -- one more line is of no place
  pub gather_past : (marks : List Mark) (told : List ToldLine) (t : ToldLine) → ((place : ℕ) → IsOf place t → ⊥) → Gather IsOf marks told → Gather IsOf marks (told ++ t ∷ [])
  gather_past marks told t none gathered place other w within =
      let P : ToldLine → Type 0 = λ s. IsOf place s → KeepsTo s.what w in
      let old = gathered place other w within in
      (λ a. All-push P told t (old.0 a) (λ is. absurd (none place is)), λ all. old.1 (all_but_last P told t all))

  -- one more line is of one place, whose mark asks for what it does besides
  pub gather_one : (marks : List Mark) (told : List ToldLine) (t : ToldLine) (at : ℕ) (mark : Mark) → at < length marks → IsOf at t → ((place : ℕ) → IsOf place t → place ≡ at) → IsWithLine t.what (get_or marks at mark) mark → Gather IsOf marks told → Gather IsOf (set marks at mark) (told ++ t ∷ [])
  gather_one marks told t at mark inside is only with gathered place other w within =
      let lt : place < length marks = omega (arith, within, length-set marks at mark) in
      let P : ToldLine → Type 0 = λ s. IsOf place s → KeepsTo s.what w in
      let old = gathered place mark w lt in
      elim (cases_eq place at) [
        | inl here ↦
            (let same : get_or (set marks at mark) place other ≡ mark = subst (λ (k : ℕ). get_or (set marks at mark) k other ≡ mark) (sym here) (get_or-set_same marks at mark other inside) in
            let mine : IsOf place t = subst (λ (k : ℕ). IsOf k t) (sym here) is in
            let was : get_or marks place mark ≡ get_or marks at mark = ap (λ (k : ℕ). get_or marks k mark) here in (
              λ a.
                  let both = (with w).0 (subst (λ (m : Mark). Admits m w) same a) in
                  All-push P told t (old.0 (subst (λ (m : Mark). Admits m w) (sym was) both.0)) (λ of. both.1),
              λ all.
                  subst (λ (m : Mark). Admits m w) (sym same) ((with w).1 (subst (λ (m : Mark). Admits m w) was (old.1 (all_but_last P told t all)), the_last P told t all mine)),
            ))
        | inr there ↦
            (let same : get_or (set marks at mark) place other ≡ get_or marks place mark = get_or-set_other marks at place mark other there ∙ get_or_default marks place other mark lt in (
              λ a. All-push P told t (old.0 (subst (λ (m : Mark). Admits m w) same a)) (λ of. absurd (there (only place of))),
              λ all. subst (λ (m : Mark). Admits m w) (sym same) (old.1 (all_but_last P told t all)),
            ))
      ]

-- ---- all marks

pub marked_none : (mark : Mark) → ((w : What) → Admits mark w) → AreMarked (record { lanes = replicate 256 mark; trees = replicate 16 mark; before = replicate 16 mark; phase = 0 }) []
marked_none mark admits = record {
  lanes = gather_none (λ place s. lane_place s ≡ place) 256 mark admits;
  trees = gather_none (λ tree s. s.tree ≡ tree) 16 mark admits;
  before = gather_none (λ tree s. (s.tree ≡ tree) × (s.phase < 0)) 16 mark admits;
  phase = λ k d lt. absurd (omega arith);
  within = λ k d lt. absurd (omega arith);
}

-- these are the marks behind one more line, where the mark of its lane and that of its tree become these
abbrev pub marks_after : Marks → ToldLine → ℕ → Mark → Mark → Marks
marks_after marks t place lane tree = record { lanes = set marks.lanes place lane; trees = set marks.trees t.tree tree; before = marks.before; phase = marks.phase }

pub marked_one : (marks : Marks) (told : List ToldLine) (t : ToldLine) (place : ℕ) (lane tree d e : Mark) → place ≡ lane_place t → length marks.lanes ≡ 256 → length marks.trees ≡ 16 → t.tree < 16 → t.lane < 16
    → IsWithLine t.what (get_or marks.lanes place d) lane → IsWithLine t.what (get_or marks.trees t.tree e) tree
    → AreMarked marks told → marks.phase ≡ t.phase → AreMarked (marks_after marks t place lane tree) (told ++ t ∷ [])
marked_one marks told t place lane tree d e at lanes trees tree_below lane_below by_lane by_tree old now =
    let here : place < length marks.lanes = omega (arith, at) in
    let there : t.tree < length marks.trees = omega arith in
    record {
      lanes = gather_one (λ place s. lane_place s ≡ place) marks.lanes told t place lane here (sym at) (λ other is. sym is ∙ sym at) (subst (λ (m : Mark). IsWithLine t.what m lane) (get_or_default marks.lanes place d lane here) by_lane) old.lanes;
      trees = gather_one (λ tree s. s.tree ≡ tree) marks.trees told t t.tree tree there refl (λ other is. sym is) (subst (λ (m : Mark). IsWithLine t.what m tree) (get_or_default marks.trees t.tree e tree there) by_tree) old.trees;
      before = gather_past (λ tree s. (s.tree ≡ tree) × (s.phase < marks.phase)) marks.before told t (λ other is. omega (arith, is.1, now)) old.before;
      phase = All-push (λ (s : ToldLine). s.phase ≤ marks.phase) told t old.phase (omega (arith, now));
      within = All-push (λ (s : ToldLine). s.lane < most_lanes) told t old.within lane_below;
    }
