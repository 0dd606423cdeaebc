-- How many words were loaded. For the proofs of the crates above, too.
use Rattle.mt_path.proofs.Prelude.{◌≡◌, ℕ, ◌+◌, ◌-◌, ◌<◌, ◌≤◌, List, [], ◌∷◌, ◌++◌, Option, Some, None, length, take, drop, map, sum, refl, sym, ap, ◌∙◌, subst, arith, option_map, le-max_left, le-max_right, map-append, take-append-drop, sum_by-append, Sheet, loaded, one_more, RoseUpTo, ReadsUpTo, PathStep, last_step, word_at, loads_at, loads_in, no_step, reads_on, step_at, drop_all, drop_more}
use Rattle.mt_path.proofs.Kept.{word_kept}

-- ---- counts

rose_none : (a : Option ℕ) → RoseUpTo 0 a a
rose_none None = tt
rose_none (Some a) = omega arith

rose_more : (n m : ℕ) (a b c : Option ℕ) → RoseUpTo n a b → RoseUpTo m b c → RoseUpTo (n + m) a c
rose_more n m None None None first second = tt
rose_more n m None None (Some c) first second = absurd second
rose_more n m None (Some b) c first second = absurd first
rose_more n m (Some a) None c first second = absurd first
rose_more n m (Some a) (Some b) None first second = absurd second
rose_more n m (Some a) (Some b) (Some c) first second = omega arith

rose_one : (a : Option ℕ) → RoseUpTo 1 a (option_map one_more a)
rose_one None = tt
rose_one (Some a) = omega arith

pub rose_up : (n m : ℕ) (a b : Option ℕ) → n ≤ m → RoseUpTo n a b → RoseUpTo m a b
rose_up n m None None more rose = tt
rose_up n m None (Some b) more rose = absurd rose
rose_up n m (Some a) None more rose = absurd rose
rose_up n m (Some a) (Some b) more rose = omega arith

pub no_reads : (s : Sheet) → ReadsUpTo 0 s s
no_reads s = record { rest = refl; reads = rose_none s.reads }

pub reads_more : (n m : ℕ) (s s' s'' : Sheet) → ReadsUpTo n s s' → ReadsUpTo m s' s'' → ReadsUpTo (n + m) s s''
reads_more n m s s' s'' first second = record {
  rest = reads_on s s' s'' first.rest second.rest;
  reads = rose_more n m s.reads s'.reads s''.reads first.reads second.reads;
}

pub reads_up : (n m : ℕ) (s s' : Sheet) → n ≤ m → ReadsUpTo n s s' → ReadsUpTo m s s'
reads_up n m s s' more reads = record { rest = reads.rest; reads = rose_up n m s.reads s'.reads more reads.reads }

pub one_read : (s s' : Sheet) → s' ≡ loaded s → ReadsUpTo 1 s s'
one_read s s' is = record {
  rest = is ∙ ap (λ (r : Option ℕ). record s { reads = r }) (sym (ap (λ (r : Sheet). r.reads) is));
  reads = subst (λ (r : Option ℕ). RoseUpTo 1 s.reads r) (sym (ap (λ (r : Sheet). r.reads) is)) (rose_one s.reads);
}

-- a search pivot by pivot
pub along_reads : (step : PathStep) (s s' : Sheet) → ReadsUpTo (step.slot + 1) s s' → ReadsUpTo (loads_at step) s s'
along_reads step s s' reads = reads_up (step.slot + 1) (loads_at step) s s' (le-max_right 13 (step.slot + 1)) reads

-- one more load
pub reads_next : (n : ℕ) (s s' s'' : Sheet) → ReadsUpTo n s s' → s'' ≡ loaded s' → ReadsUpTo (n + 1) s s''
reads_next n s s' s'' reads is = reads_more n 1 s s' s'' reads (one_read s' s'' is)

-- Two words, or three, are loaded one after another: they are words of the tree as it was before.
pub two_words : (n : ℕ) (s s₀ s₁ s₂ : Sheet) (row a b x y : ℕ) → ReadsUpTo n s s₀ → x ≡ word_at s₀.tree row a → s₁ ≡ loaded s₀ → y ≡ word_at s₁.tree row b → s₂ ≡ loaded s₁
    → (x ≡ word_at s.tree row a) × (y ≡ word_at s.tree row b) × ReadsUpTo (n + 1 + 1) s s₂
two_words n s s₀ s₁ s₂ row a b x y reads is_x one is_y two =
    let first = reads_next n s s₀ s₁ reads one in
    (word_kept n s s₀ row a x reads is_x, word_kept (n + 1) s s₁ row b y first is_y, reads_next (n + 1) s s₁ s₂ first two)

pub three_words : (n : ℕ) (s s₀ s₁ s₂ s₃ : Sheet) (row a b d x y z : ℕ) → ReadsUpTo n s s₀ → x ≡ word_at s₀.tree row a → s₁ ≡ loaded s₀ → y ≡ word_at s₁.tree row b → s₂ ≡ loaded s₁ → z ≡ word_at s₂.tree row d → s₃ ≡ loaded s₂
    → (x ≡ word_at s.tree row a) × (y ≡ word_at s.tree row b) × (z ≡ word_at s.tree row d) × ReadsUpTo (n + 1 + 1 + 1) s s₃
three_words n s s₀ s₁ s₂ s₃ row a b d x y z reads is_x one is_y two is_z three =
    let front = two_words n s s₀ s₁ s₂ row a b x y reads is_x one is_y two in
    (front.0, front.1, word_kept (n + 1 + 1) s s₂ row d z front.2 is_z, reads_next (n + 1 + 1) s s₂ s₃ front.2 three)

-- ---- the loads of a walk

pub loads_in-append : (xs ys : List PathStep) → loads_in (xs ++ ys) ≡ loads_in xs + loads_in ys
loads_in-append xs ys =
    ap sum (map-append (λ (s : PathStep). loads_at s + 1) xs ys)
    ∙ sum_by-append (λ (n : ℕ). n) (map (λ (s : PathStep). loads_at s + 1) xs) (map (λ (s : PathStep). loads_at s + 1) ys)

pub loads_in-push : (steps : List PathStep) (s : PathStep) → loads_in (steps ++ (s ∷ [])) ≡ loads_in steps + (loads_at s + 1)
loads_in-push steps s = let both = loads_in-append steps (s ∷ []) in omega arith

pub loads_in-parts : (n : ℕ) (steps : List PathStep) → loads_in steps ≡ loads_in (take n steps) + loads_in (drop n steps)
loads_in-parts n steps = ap loads_in (sym (take-append-drop n steps)) ∙ loads_in-append (take n steps) (drop n steps)

pub loads_in-take : (n : ℕ) (steps : List PathStep) → loads_in (take n steps) ≤ loads_in steps
loads_in-take n steps = let parts = loads_in-parts n steps in omega arith

pub loads_in-some : (steps : List PathStep) → 0 < length steps → 14 ≤ loads_in steps
loads_in-some [] some = absurd (omega arith)
loads_in-some (s ∷ steps) some = let both = loads_in-append (s ∷ []) steps in omega (arith, le-max_left 13 (s.slot + 1))

-- the last step alone
last_alone : (xs : List PathStep) (d : ℕ) → length xs ≡ d + 1 → drop d xs ≡ last_step xs ∷ []
last_alone xs d long =
    let at : d ≡ length xs - 1 = omega (arith, long) in
    let end : drop (d + 1) xs ≡ [] = drop_all (d + 1) xs (omega (arith, long)) in
    drop_more xs d no_step (omega (arith, long)) ∙ (λ i. step_at xs (at i) ∷ end i)

loads_alone : (s : PathStep) → loads_in (s ∷ []) ≡ loads_at s + 1
loads_alone s = omega arith

-- in the leaf no more words are loaded than on the whole path
pub last_loads : (xs : List PathStep) → 0 < length xs → loads_at (last_step xs) + 1 ≤ loads_in xs
last_loads xs some =
    let parts = loads_in-parts (length xs - 1) xs in
    let last = ap loads_in (last_alone xs (length xs - 1) (omega (arith, some))) ∙ loads_alone (last_step xs) in
    omega (arith, parts, last)

-- a walk that enters one more node, and loads the slot there
pub leaf_reads : (s s₁ s₂ : Sheet) (old new : List PathStep) → old ≡ take (length old) new → length new ≡ length old + 1 → ReadsUpTo (loads_in new - loads_in old - 1) s s₁ → s₂ ≡ loaded s₁ → ReadsUpTo (loads_at (last_step new) + 1) s s₂
leaf_reads s s₁ s₂ old new front long reads end =
    let parts = loads_in-parts (length old) new in
    let before = ap loads_in front in
    let last = ap loads_in (last_alone new (length old) long) ∙ loads_alone (last_step new) in
    reads_up (loads_in new - loads_in old - 1 + 1) (loads_at (last_step new) + 1) s s₂ (omega (arith, parts, before, last)) (reads_next (loads_in new - loads_in old - 1) s s₁ s₂ reads end)
