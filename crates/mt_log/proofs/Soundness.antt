-- What a reader knows holds of each line that it reads.
use Rattle.mt_log.proofs.Prelude.{◌≡◌, inl, inr, ℕ, ◌<◌, ◌≤◌, ◌+◌, Bool, false, List, [], ◌∷◌, ◌++◌, Option, Some, None, length, map, slice_get, length-append, arith, refl, sym, ap, ◌∙◌, subst, option_map, option_to_list, append-nil, map-append, length-map, slice_get_cases, Item, Tree, Dup, Line, KnownTree, AreInPlaceFrom, IsInPlace, phase_after, stepped_after, stepped_from, HasTreeRoom, IsSoundReading, MayFollow, least_behind, ReadSoFar, after_item, nothing_read, Declared, Opening, AreNamedFrom, NamesBelow, NumbersRiseFrom, count_after, declared_by, known_after, tree_declared_by, most_trees, opening_by, renamed, trees_from, trees_of}

-- ---- the trees with one more line

-- the phase and the number of trees behind these lines
abbrev phase_from : ℕ → List Line → ℕ
phase_from phase [] = phase
phase_from phase (line ∷ lines) = phase_from (phase_after phase line.item) lines

abbrev count_from : ℕ → List Line → ℕ
count_from count [] = count
count_from count (line ∷ lines) = count_from (count_after count line.item) lines

trees_more : (lines : List Line) (line : Line) (trees : List Declared) (phase : ℕ) → trees_from trees phase (lines ++ line ∷ []) ≡ trees_from trees phase lines ++ option_to_list (declared_by (trees_from trees phase lines) (phase_from phase lines) line.item)
trees_more [] line trees phase = refl
trees_more (first ∷ lines) line trees phase = trees_more lines line (trees ++ option_to_list (declared_by trees phase first.item)) (phase_after phase first.item)

-- what is known of declared trees
abbrev known_in : List Declared → List KnownTree
known_in trees = map (λ (d : Declared). d.tree) trees

abbrev opened_so : Opening → KnownTree → Declared
opened_so opening tree = record { tree = tree; opening = opening }

known_of_one : (tree : Option KnownTree) (opening : Opening) → known_in (option_to_list (option_map (opened_so opening) tree)) ≡ option_to_list tree
known_of_one None opening = refl
known_of_one (Some tree) opening = refl

known_more : (trees : List Declared) (phase : ℕ) (item : Item) → known_in (trees ++ option_to_list (declared_by trees phase item)) ≡ known_after (known_in trees) item
known_more trees phase item =
    map-append (λ (d : Declared). d.tree) trees (option_to_list (declared_by trees phase item))
    ∙ ap (λ z. known_in trees ++ z) (known_of_one (tree_declared_by (known_in trees) item) (opening_by phase item))

some_tree : (trees : List KnownTree) (tree : ℕ) → tree < length trees → (known : KnownTree) × (slice_get trees tree ≡ Some known)
some_tree trees tree below = elim (slice_get_cases trees tree).1 [ inl found ↦ (found.0, found.2) | inr past ↦ absurd (omega (arith, past.0, below)) ]

copied : (trees : List KnownTree) (from : ℕ) (name : List ℕ) → from < length trees → length (known_after trees (Dup from name)) ≡ length trees + 1
copied trees from name below =
    let source = some_tree trees from below in
    rw source.1 (length-append trees (renamed name source.0 ∷ []))

counted : (trees : List KnownTree) (item : Item) → NamesBelow (length trees) item → length (known_after trees item) ≡ count_after (length trees) item
counted trees (Tree name kind) h = length-append trees (record { name = name; kind = kind } ∷ [])
counted trees (Dup from name) h = copied trees from name h
counted trees item h = ap length (append-nil trees)

known_long : (trees : List Declared) → length (known_in trees) ≡ length trees
known_long trees = length-map trees (λ (d : Declared). d.tree)

one_more_counts : (trees : List Declared) (phase : ℕ) (item : Item) → NamesBelow (length trees) item → length (trees ++ option_to_list (declared_by trees phase item)) ≡ count_after (length trees) item
one_more_counts trees phase item below =
    let named : NamesBelow (length (known_in trees)) item = subst (λ (k : ℕ). NamesBelow k item) (sym (known_long trees)) below in
    sym (known_long (trees ++ option_to_list (declared_by trees phase item)))
    ∙ (ap length (known_more trees phase item) ∙ (counted (known_in trees) item named ∙ ap (λ k. count_after k item) (known_long trees)))

counts : (lines : List Line) (trees : List Declared) (phase : ℕ) → AreNamedFrom (length trees) lines → length (trees_from trees phase lines) ≡ count_from (length trees) lines
counts [] trees phase named = refl
counts (line ∷ lines) trees phase named =
    let more : List Declared = trees ++ option_to_list (declared_by trees phase line.item) in
    let long : length more ≡ count_after (length trees) line.item = one_more_counts trees phase line.item named.0 in
    counts lines more (phase_after phase line.item) (subst (λ (k : ℕ). AreNamedFrom k lines) (sym long) named.1) ∙ ap (λ k. count_from k lines) long

-- ---- one more line

-- names what is declared before it
named_more : (count : ℕ) (lines : List Line) (line : Line) → AreNamedFrom count lines → NamesBelow (count_from count lines) line.item → AreNamedFrom count (lines ++ line ∷ [])
named_more count [] line h below = (below, tt)
named_more count (first ∷ lines) line h below = (h.0, named_more (count_after count first.item) lines line h.1 below)

-- stands in its place
placed_more : (stepped : Bool) (lines : List Line) (line : Line) → AreInPlaceFrom stepped lines → IsInPlace (stepped_from stepped lines) line.item → AreInPlaceFrom stepped (lines ++ line ∷ [])
placed_more stepped [] line h placed = (placed, tt)
placed_more stepped (first ∷ lines) line h placed = (h.0, placed_more (stepped_after stepped first.item) lines line h.1 placed)

stepped_more : (stepped : Bool) (lines : List Line) (line : Line) → stepped_from stepped (lines ++ line ∷ []) ≡ stepped_after (stepped_from stepped lines) line.item
stepped_more stepped [] line = refl
stepped_more stepped (first ∷ lines) line = stepped_more (stepped_after stepped first.item) lines line

-- is above them
rising_more : (least : ℕ) (lines : List Line) (line : Line) → NumbersRiseFrom least lines → least_behind least lines ≤ line.number → NumbersRiseFrom least (lines ++ line ∷ [])
rising_more least [] line h above = (above, tt)
rising_more least (first ∷ lines) line h above = (h.0, rising_more (first.number + 1) lines line h.1 above)

least_more : (least : ℕ) (lines : List Line) (line : Line) → least_behind least (lines ++ line ∷ []) ≡ line.number + 1
least_more least [] line = refl
least_more least (first ∷ lines) line = least_more (first.number + 1) lines line

-- and leaves few trees
few_after : (trees : List KnownTree) (item : Item) → length trees ≤ most_trees → HasTreeRoom trees item → count_after (length trees) item ≤ most_trees
few_after trees (Tree name kind) few room = omega (arith, room.0)
few_after trees (Dup from name) few room = omega (arith, room.0)
few_after trees item few room = few

-- ---- a reader's facts

-- where nothing was read, all is well
pub sound_nothing : IsSoundReading nothing_read
sound_nothing = record { readable = record { named = tt; placed = tt; few = omega arith; rising = tt }; above = omega arith; stepped = refl; known = refl }

-- a line that may follow keeps it so
pub sound_more : (read : ReadSoFar) (item : Item) → IsSoundReading read → MayFollow read item → IsSoundReading (after_item read item)
sound_more read item h follows =
    let line : Line = record { number = read.next; item = item } in
    let trees : List Declared = trees_of read.lines in
    let long : length read.trees ≡ length trees = sym (ap length h.known) ∙ known_long trees in
    let below : NamesBelow (length trees) item = subst (λ (k : ℕ). NamesBelow k item) long follows.named in
    let more : trees_of (read.lines ++ line ∷ []) ≡ trees ++ option_to_list (declared_by trees (phase_from 0 read.lines) item) = trees_more read.lines line [] 0 in
    let total : length (trees_of (read.lines ++ line ∷ [])) ≡ count_after (length trees) item = ap length more ∙ one_more_counts trees (phase_from 0 read.lines) item below in
    record {
      readable = record {
        named = named_more 0 read.lines line h.readable.named (subst (λ (k : ℕ). NamesBelow k item) (counts read.lines [] 0 h.readable.named) below);
        placed = placed_more false read.lines line h.readable.placed (subst (λ (b : Bool). IsInPlace b item) (sym h.stepped) follows.placed);
        few = rw (total, ← long) (few_after read.trees item (rw long h.readable.few) follows.trees);
        rising = rising_more 2 read.lines line h.readable.rising h.above;
      };
      above = omega (arith, least_more 2 read.lines line);
      stepped = stepped_more false read.lines line ∙ ap (λ (b : Bool). stepped_after b item) h.stepped;
      known = ap known_in more ∙ (known_more trees (phase_from 0 read.lines) item ∙ ap (λ t. known_after t item) h.known);
    }
