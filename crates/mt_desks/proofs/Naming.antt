-- The lines of a phase name trees that are declared when its lanes start.
use Rattle.mt_desks.proofs.Prelude.{◌≡◌, ℕ, ◌≤◌, true, false, Bool, List, [], ◌∷◌, ◌++◌, length, arith, sym, subst, length-append, AllByRecursion, option_to_list, All-from_recursion, all_join, Item, Tree, Join, Line, AreInPlaceFrom, phase_after, stepped_after, stepped_from, Asked, AreNamedFrom, Declared, IsReadable, NamesBelow, count_after, declared_by, trees_from, trees_of, named_there, one_declared, placed_there, counts_in, is_step, lines_of_lane, steps_in, AreLines}
use Rattle.mt_log.specs.declared.lines.Item.TheVariants.{Lane}
use Rattle.mt_desks.proofs.Asking.{counts_keep, own_keep, steps_keep}

named_on : (m n : ℕ) (item : Item) → m ≤ n → NamesBelow m item → NamesBelow n item
named_on m n (Tree name kind) more named = tt
named_on m n (Lane lane) more named = named
named_on m n Join more named = tt
named_on m n item more named = omega (arith, more, named)

trees_grow : (trees : List Declared) (phase : ℕ) (lines : List Line) → length trees ≤ length (trees_from trees phase lines)
trees_grow trees phase [] = omega arith
trees_grow trees phase (line ∷ lines) =
    let one : List Declared = option_to_list (declared_by trees phase line.item) in
    let rest : length (trees ++ one) ≤ length (trees_from (trees ++ one) (phase_after phase line.item) lines) = trees_grow (trees ++ one) (phase_after phase line.item) lines in
    omega (arith, rest, length-append trees one)

all_below : (bound : ℕ) (trees : List Declared) (phase : ℕ) (lines : List Line) → length (trees_from trees phase lines) ≤ bound → AreNamedFrom (length trees) lines → AllByRecursion (λ (line : Line). NamesBelow bound line.item) lines
all_below bound trees phase [] within named = tt
all_below bound trees phase (line ∷ lines) within named =
    let more : List Declared = trees ++ option_to_list (declared_by trees phase line.item) in (
      named_on (length trees) bound line.item (omega (arith, within, trees_grow trees phase (line ∷ lines))) named.0,
      all_below bound more (phase_after phase line.item) lines within (subst (λ (n : ℕ). AreNamedFrom n lines) (sym (one_declared trees phase line.item named.0)) named.1),
    )

lines_below : (trees : List Declared) (phase : ℕ) (lines : List Line) → AreNamedFrom (length trees) lines → AllByRecursion (λ (line : Line). NamesBelow (length (trees_from trees phase lines)) line.item) lines
lines_below trees phase lines named = all_below (length (trees_from trees phase lines)) trees phase lines (omega arith) named

pub all_named : (trees : List Declared) (here phase : ℕ) (lines : List Line) → AreNamedFrom (length trees) lines → AllByRecursion (λ (a : Asked). NamesBelow (length (trees_from trees phase lines)) a.item) (counts_in phase lines ++ steps_in here phase lines)
all_named trees here phase lines named =
    let Q : Item → Type 0 = NamesBelow (length (trees_from trees phase lines)) in
    all_join (λ (a : Asked). Q a.item) (counts_in phase lines) (steps_in here phase lines) (counts_keep Q phase lines (lines_below trees phase lines named)) (steps_keep Q here phase lines (lines_below trees phase lines named))

pub own_lines : (trees : List Declared) (lane here phase : ℕ) (lines : List Line) → AreNamedFrom (length trees) lines → AreLines (length (trees_from trees phase lines)) (lines_of_lane lane here lines)
own_lines trees lane here phase lines named =
    let Q : Item → Type 0 = NamesBelow (length (trees_from trees phase lines)) in
    All-from_recursion (λ (line : Line). Q line.item × (is_step line.item ≡ true)) (lines_of_lane lane here lines) (own_keep Q lane here lines (lines_below trees phase lines named))

-- ---- a phase of a log that can be read

named_front : (count : ℕ) (xs ys : List Line) → AreNamedFrom count (xs ++ ys) → AreNamedFrom count xs
named_front count [] ys h = tt
named_front count (x ∷ xs) ys h = (h.0, named_front (count_after count x.item) xs ys h.1)

placed_front : (stepped : Bool) (xs ys : List Line) → AreInPlaceFrom stepped (xs ++ ys) → AreInPlaceFrom stepped xs
placed_front stepped [] ys h = tt
placed_front stepped (x ∷ xs) ys h = (h.0, placed_front (stepped_after stepped x.item) xs ys h.1)

pub phase_named : (front lines rest : List Line) → IsReadable (front ++ (lines ++ rest)) → AreNamedFrom (length (trees_of front)) lines
phase_named front lines rest r = named_front (length (trees_of front)) lines rest (named_there [] 0 front (lines ++ rest) r.named)

pub phase_placed : (front lines rest : List Line) → IsReadable (front ++ (lines ++ rest)) → AreInPlaceFrom (stepped_from false front) lines
phase_placed front lines rest r = placed_front (stepped_from false front) lines rest (placed_there false front (lines ++ rest) r.placed)
