-- The steps that came of a line are of its lane and its phase, on the tree that it names.
use Rattle.mt_linearize.proofs.Prelude.{◌≡◌, ℕ, zero, suc, ◌<◌, true, false, List, [], ◌∷◌, Option, Some, None, refl, sym, subst, All, AllByRecursion, All-from_recursion, Query, Range, all_join, Item, Tree, Lane, Join, Dup, Check, Write, Ask, Scan, stepped_after, Asked, Outcome, Called, Looked, Counted, Step, IsDone, AreScanSteps, ScanGoesOnFrom, AreDone, find_at, place_after, place_within, step_of, NamesBelow}

-- the tree on which a line's steps are
abbrev IsOn : Item → ℕ → Type 0
IsOn (Dup from name) tree = tree ≡ from
IsOn (Check on) tree = tree ≡ on
IsOn (Write on call) tree = tree ≡ on
IsOn (Ask on query) tree = tree ≡ on
IsOn (Scan on index max count) tree = tree ≡ on
IsOn item tree = ⊥

one_step : (P : Step → Type 0) (s : Step) (steps : List Step) → steps ≡ s ∷ [] → P s → AllByRecursion P steps
one_step P s steps e p = subst (AllByRecursion P) (sym e) (p, tt)

no_step : (P : Step → Type 0) (steps : List Step) → steps ≡ [] → AllByRecursion P steps
no_step P steps e = subst (AllByRecursion P) (sym e) tt

goes_each : (P : Step → Type 0) (a : Asked) (tree max count : ℕ) → ((at : Option ℕ) (steps : List Step) → AreScanSteps a tree max count at steps → AllByRecursion P steps) → (value : Option Range) (steps : List Step) → ScanGoesOnFrom (AreScanSteps a tree max count) max value steps → AllByRecursion P steps
goes_each P a tree max count scans None steps g = no_step P steps g
goes_each P a tree max count scans (Some r) steps g = scans (place_after max r) steps g

pub scan_each : (P : Step → Type 0) (a : Asked) (tree max count : ℕ) → ((lo hi k : ℕ) (query : Query) (value : Option Range) → P (step_of a tree (Looked lo hi k query value))) → (at : Option ℕ) (steps : List Step) → AreScanSteps a tree max count at steps → AllByRecursion P steps
scan_each P a tree max zero p at steps s = no_step P steps s
scan_each P a tree max (suc count) p at steps s = subst (AllByRecursion P) (sym s.5) (p s.0 s.1 s.2 (find_at at max) s.3, goes_each P a tree max count (scan_each P a tree max count p) s.3 s.4 s.6)

-- what holds of each step that a line may have holds of those that came of it
pub done_each : (P : Step → Type 0) (a : Asked) (item : Item) (steps : List Step) → ((tree : ℕ) (o : Outcome) → IsOn item tree → P (step_of a tree o)) → IsDone a item steps → AllByRecursion P steps
done_each P a (Write tree call) steps p d = one_step P _ steps d.2 (p tree _ refl)
done_each P a (Ask tree query) steps p d = one_step P _ steps d.4 (p tree _ refl)
done_each P a (Scan tree index max count) steps p d = scan_each P a tree max count (λ lo hi k query value. p tree (Looked lo hi k query value) refl) (place_within index max) steps d
done_each P a (Dup from name) steps p d = one_step P _ steps d.1 (p from _ refl)
done_each P a (Check tree) steps p d = one_step P _ steps d.1 (p tree _ refl)
done_each P a (Tree name kind) steps p d = no_step P steps d
done_each P a (Lane lane) steps p d = no_step P steps d
done_each P a Join steps p d = no_step P steps d

all_done : (P : Step → Type 0) (Q : Asked → Type 0) → ((a : Asked) (tree : ℕ) (o : Outcome) → Q a → IsOn a.item tree → P (step_of a tree o)) → (asked : List Asked) (steps : List Step) → AllByRecursion Q asked → AreDone asked steps → AllByRecursion P steps
all_done P Q p [] steps q d = no_step P steps d
all_done P Q p (a ∷ asked) steps q d = subst (AllByRecursion P) (sym d.2) (all_join P d.0 d.1 (done_each P a a.item d.0 (λ tree o on. p a tree o q.0 on) d.3) (all_done P Q p asked d.1 q.1 d.4))

pub steps_placed : (passes phase : ℕ) (asked : List Asked) (steps : List Step) → AllByRecursion (λ (a : Asked). (a.phase ≡ phase) × (a.lane < passes)) asked → AreDone asked steps → All (λ (s : Step). (s.phase ≡ phase) × (s.lane < passes)) steps
steps_placed passes phase asked steps placed done =
    let P : Step → Type 0 = λ s. (s.phase ≡ phase) × (s.lane < passes) in
    All-from_recursion P steps (all_done P (λ (a : Asked). (a.phase ≡ phase) × (a.lane < passes)) (λ a tree o q on. q) asked steps placed done)

below_count : (count : ℕ) (item : Item) (tree : ℕ) → NamesBelow count item → IsOn item tree → tree < count
below_count count (Tree name kind) tree below on = absurd on
below_count count (Lane lane) tree below on = absurd on
below_count count Join tree below on = absurd on
below_count count item tree below on = rw on below

pub steps_named : (count : ℕ) (asked : List Asked) (steps : List Step) → AllByRecursion (λ (a : Asked). NamesBelow count a.item) asked → AreDone asked steps → All (λ (s : Step). s.tree < count) steps
steps_named count asked steps named done =
    let P : Step → Type 0 = λ s. s.tree < count in
    All-from_recursion P steps (all_done P (λ (a : Asked). NamesBelow count a.item) (λ a tree o q on. below_count count a.item tree q on) asked steps named done)

-- ---- what came of a call, a query or a scan is no count

abbrev pub IsUncounted : Outcome → Type 0
IsUncounted (Called number call reply) = Unit {0}
IsUncounted (Looked lo hi k query value) = Unit {0}
IsUncounted (Counted said ranges) = ⊥

abbrev Uncounted : Step → Type 0
Uncounted s = IsUncounted s.outcome

done_uncounted : (a : Asked) (item : Item) (steps : List Step) → stepped_after false item ≡ true → IsDone a item steps → AllByRecursion Uncounted steps
done_uncounted a (Write tree call) steps lane d = one_step Uncounted _ steps d.2 tt
done_uncounted a (Ask tree query) steps lane d = one_step Uncounted _ steps d.4 tt
done_uncounted a (Scan tree index max count) steps lane d = scan_each Uncounted a tree max count (λ lo hi k query value. tt) (place_within index max) steps d
done_uncounted a (Dup from name) steps lane d = cc
done_uncounted a (Check tree) steps lane d = cc
done_uncounted a (Tree name kind) steps lane d = no_step Uncounted steps d
done_uncounted a (Lane lane) steps here d = no_step Uncounted steps d
done_uncounted a Join steps lane d = no_step Uncounted steps d

pub steps_uncounted : (asked : List Asked) (steps : List Step) → AllByRecursion (λ (a : Asked). stepped_after false a.item ≡ true) asked → AreDone asked steps → AllByRecursion (λ (s : Step). IsUncounted s.outcome) steps
steps_uncounted [] steps lanes d = no_step Uncounted steps d
steps_uncounted (a ∷ asked) steps lanes d = subst (AllByRecursion Uncounted) (sym d.2) (all_join Uncounted d.0 d.1 (done_uncounted a a.item d.0 lanes.0 d.3) (steps_uncounted asked d.1 lanes.1 d.4))
