-- The log of the first lines of another can be read, and nothing is told of no lines.
use Rattle.mt_judge.proofs.Prelude.{◌≡◌, ℕ, zero, suc, ◌+◌, ◌≤◌, ◌<◌, Bool, List, [], ◌∷◌, ◌++◌, length, length-append, take, subst, sym, refl, inl, inr, arith, option_to_list, cases_lt, take_all, All-nil, All, Line, Log, AreInPlaceFrom, phase_after, stepped_after, Step, AreNamedFrom, Declared, IsReadable, NumbersRiseFrom, count_after, declared_by, most_trees, trees_from, trees_of, ToldLine, FitsLine, IsToldBy, TellsNone, spelling_of, lines_begin, told_by, StopsAt, log_of_first}

named_first : (k count : ℕ) (lines : List Line) → AreNamedFrom count lines → AreNamedFrom count (take k lines)
named_first zero count lines named = tt
named_first (suc k) count [] named = tt
named_first (suc k) count (line ∷ lines) named = (named.0, named_first k (count_after count line.item) lines named.1)

placed_first : (k : ℕ) (stepped : Bool) (lines : List Line) → AreInPlaceFrom stepped lines → AreInPlaceFrom stepped (take k lines)
placed_first zero stepped lines placed = tt
placed_first (suc k) stepped [] placed = tt
placed_first (suc k) stepped (line ∷ lines) placed = (placed.0, placed_first k (stepped_after stepped line.item) lines placed.1)

rising_first : (k least : ℕ) (lines : List Line) → NumbersRiseFrom least lines → NumbersRiseFrom least (take k lines)
rising_first zero least lines rise = tt
rising_first (suc k) least [] rise = tt
rising_first (suc k) least (line ∷ lines) rise = (rise.0, rising_first k (line.number + 1) lines rise.1)

trees_first : (k : ℕ) (trees : List Declared) (phase : ℕ) (lines : List Line) → length (trees_from trees phase (take k lines)) ≤ length (trees_from trees phase lines)
trees_first zero trees phase [] = omega arith
trees_first zero trees phase (line ∷ lines) =
    let one : List Declared = option_to_list (declared_by trees phase line.item) in
    let rest : length (trees ++ one) ≤ length (trees_from (trees ++ one) (phase_after phase line.item) lines) = trees_first zero (trees ++ one) (phase_after phase line.item) lines in
    omega (arith, rest, length-append trees one)
trees_first (suc k) trees phase [] = omega arith
trees_first (suc k) trees phase (line ∷ lines) =
    trees_first k (trees ++ option_to_list (declared_by trees phase line.item)) (phase_after phase line.item) lines

pub readable_first : (k : ℕ) (lines : List Line) → IsReadable lines → IsReadable (take k lines)
readable_first k lines h =
    let fewer : length (trees_of (take k lines)) ≤ length (trees_of lines) = trees_first k [] 0 lines in
    record {
      named = named_first k 0 lines h.named;
      placed = placed_first k _ lines h.placed;
      few = omega (arith, fewer, h.few);
      rising = rising_first k 2 lines h.rising;
    }

nothing_told : (log : Log) (text : List ℕ) → IsToldBy (log_of_first 0 log) text [] text
nothing_told log text = told_by (log_of_first 0 log) text text [] 0 0 0 (lines_begin [] text) (omega arith)

all_untold : (log : Log) (text : List ℕ) (n : ℕ) → n ≡ length log.lines → TellsNone log text → TellsNone (log_of_first n log) text
all_untold log text n all none =
    subst (λ (lines : List Line). TellsNone (record { version = log.version; lines = lines }) text) (sym (take_all n log.lines (omega (arith, all)))) none

-- something is told of no lines, so that a log of which nothing is told has some
some_line : (log : Log) (text : List ℕ) (n : ℕ) → n ≡ length log.lines → TellsNone log text → 0 < n
some_line log text n all none = elim (cases_lt 0 n) [
  | inl some ↦ some
  | inr over ↦
      (let empty : n ≡ 0 = omega (arith, over) in
      let first : TellsNone (log_of_first 0 log) text = subst (λ (k : ℕ). TellsNone (log_of_first k log) text) empty (all_untold log text n all none) in
      absurd (first (spelling_of 1) [] text (record { done = refl; fit = All-nil (λ (s : Step). FitsLine (spelling_of 1) s.outcome); printed = refl })))
]

-- so many lines are told, and not so many
pub record StopsWithin (log : Log) (text : List ℕ) (count above : ℕ) (told : List ToldLine) (rest : List ℕ) : Type 0 where
  pub first : IsToldBy (log_of_first count log) text told rest
  pub up : count < above
  pub within : above ≤ length log.lines
  pub none : TellsNone (log_of_first above log) text

pub stops_within : (log : Log) (text : List ℕ) (n : ℕ) → n ≡ length log.lines → TellsNone log text → StopsWithin log text 0 n [] text
stops_within log text n all none = record { first = nothing_told log text; up = some_line log text n all none; within = omega (arith, all); none = all_untold log text n all none }

pub stops_at : (log : Log) (text rest : List ℕ) (told : List ToldLine) (count above : ℕ) → StopsWithin log text count above told rest → above ≤ count + 1 → StopsAt log text count told rest
stops_at log text rest told count above h near =
    let next : above ≡ count + 1 = omega (arith, h.up, near) in
    record { first = h.first; within = omega (arith, h.up, h.within); none = subst (λ (k : ℕ). TellsNone (log_of_first k log) text) next h.none }

-- the trees that are told of are those that a log may have
pub few_trees : (log : Log) (text rest : List ℕ) (told : List ToldLine) → IsReadable log.lines → IsToldBy log text told rest → All (λ t. t.tree < most_trees) told
few_trees log text rest told readable h k d within = let below = h.trees k d within in omega (arith, below, readable.few)
