-- Each declared tree is the first of its name, and stays so with one more tree of a new name.
use Rattle.mt_log.proofs.Prelude.{◌≡◌, ◌⊎◌, ℕ, zero, suc, ◌<◌, Bool, true, false, List, [], ◌∷◌, ◌++◌, Some, None, length, position, slice_get, add-zero, arith, inl, inr, not, refl, sym, ap, ◌∙◌, subst, ◌==◌, position_or_len, bytes_eq, cases_lt, eq-eqb, lt-ltb, nat_tests, append-nil, length_push, length-map, map-append, position_or_len_push, prefix_len-le-length, names_after, is_name, ReadSoFar, declared_place, known_after, renamed, Item, Tree, Dup, KnownTree}
use Rattle.mt_log.proofs.Following.{AreNamed, CanFollow}
use Rattle.mt_log.proofs.Parts.{place_is}
use Rattle.mt_log.proofs.PrintedItems.{names_of, some_tree}

-- an element with one more behind the list
pushed : {X : Type 0} (xs : List X) (y : X) (i : ℕ) (x : X) → slice_get (xs ++ y ∷ []) i ≡ Some x → (slice_get xs i ≡ Some x) ⊎ ((i ≡ length xs) × (y ≡ x))
pushed [] y zero x h = inr (refl, cc)
pushed [] y (suc i) x h = absurd (cc)
pushed (z ∷ xs) y zero x h = inl h
pushed (z ∷ xs) y (suc i) x h = elim (pushed xs y i x h) [ inl within ↦ inl within | inr last ↦ inr (omega (arith, last.0), last.1) ]

-- what is found is found with one more behind it
still_found : (p : List ℕ → Bool) (xs : List (List ℕ)) (y : List ℕ) (i : ℕ) → position p xs ≡ Some i → position p (xs ++ y ∷ []) ≡ Some i
still_found p xs y i h =
    let place = place_is p xs i h in
    let inside : (position_or_len p xs == length xs) ≡ false = let below = place.0 in grind (arith, nat_tests) in
    let at : position_or_len p (xs ++ y ∷ []) ≡ i = position_or_len_push p xs y ∙ rw inside place.1 in
    let within : position_or_len p (xs ++ y ∷ []) < length (xs ++ y ∷ []) = omega (arith, at, place.0, place.1, length_push xs y) in
    rw (lt-ltb (position_or_len p (xs ++ y ∷ [])) (length (xs ++ y ∷ [])) within, at) refl

-- and what is not found there is found at the end
not_within : (p : List ℕ → Bool) (xs : List (List ℕ)) → position p xs ≡ None → position_or_len p xs ≡ length xs
not_within p xs h =
    elim (cases_lt (position_or_len p xs) (length xs)) [
      | inl lt ↦ let some = rw (lt-ltb (position_or_len p xs) (length xs) lt) at h in (cc)
      | inr ge ↦ omega (arith, ge, prefix_len-le-length (λ x. not (p x)) xs)
    ]

found_last : (p : List ℕ → Bool) (xs : List (List ℕ)) (y : List ℕ) → position p xs ≡ None → p y ≡ true → position p (xs ++ y ∷ []) ≡ Some (length xs)
found_last p xs y none passes =
    let all : position_or_len p xs ≡ length xs = not_within p xs none in
    let at : position_or_len p (xs ++ y ∷ []) ≡ length xs = position_or_len_push p xs y ∙ rw (all, eq-eqb (length xs) (length xs) refl, passes) (add-zero (length xs)) in
    let within : position_or_len p (xs ++ y ∷ []) < length (xs ++ y ∷ []) = omega (arith, at, length_push xs y) in
    rw (lt-ltb (position_or_len p (xs ++ y ∷ [])) (length (xs ++ y ∷ [])) within, at) refl

same_bytes : (bytes : List ℕ) → bytes_eq bytes bytes ≡ true
same_bytes [] = refl
same_bytes (b ∷ bytes) = rw (eq-eqb b b refl, same_bytes bytes) refl

names_push : (trees : List KnownTree) (tree : KnownTree) → names_of (trees ++ tree ∷ []) ≡ names_of trees ++ tree.name ∷ []
names_push trees tree = map-append (λ (t : KnownTree). t.name) trees (tree ∷ [])

-- one more tree of a new name
push_named : (trees : List KnownTree) (tree : KnownTree) → AreNamed trees → is_name tree.name ≡ true → declared_place trees tree.name ≡ None → AreNamed (trees ++ tree ∷ [])
push_named trees tree named name new place found h =
    elim (pushed trees tree place found h) [
      | inl within ↦
          let facts = named place found within in
          (ap (position (bytes_eq found.name)) (names_push trees tree) ∙ still_found (bytes_eq found.name) (names_of trees) tree.name place facts.0, facts.1)
      | inr last ↦
          let here : position (bytes_eq tree.name) (names_of trees ++ tree.name ∷ []) ≡ Some (length (names_of trees)) = found_last (bytes_eq tree.name) (names_of trees) tree.name new (same_bytes tree.name) in
          let long : length (names_of trees) ≡ length trees = length-map trees (λ (t : KnownTree). t.name) in
          subst (λ (t : KnownTree). (declared_place (trees ++ tree ∷ []) t.name ≡ Some place) × (is_name t.name ≡ true)) last.1
          (ap (position (bytes_eq tree.name)) (names_push trees tree) ∙ (here ∙ ap (λ k. Some k) (long ∙ sym last.0)), name)
    ]

none_named : (trees : List KnownTree) → AreNamed trees → AreNamed (trees ++ [])
none_named trees named = rw (append-nil trees) named

-- a line that can follow leaves it so
pub named_after : (r : ReadSoFar) (item : Item) → AreNamed r.trees → CanFollow r item → AreNamed (known_after r.trees item)
named_after r (Tree name kind) named h = push_named r.trees (record { name = name; kind = kind }) named h.says h.follows.trees.1
named_after r (Dup from name) named h =
    let source = some_tree r.trees from h.follows.named in
    rw source.1.found (push_named r.trees (renamed name source.0) named h.says h.follows.trees.1)
named_after r item named h = none_named r.trees named

-- the printer knows the names that the reader knows
no_names : (trees : List KnownTree) → names_of trees ≡ names_of (trees ++ [])
no_names trees = ap names_of (sym (append-nil trees))

pub names_kept : (r : ReadSoFar) (item : Item) → CanFollow r item → names_after (names_of r.trees) item ≡ names_of (known_after r.trees item)
names_kept r (Tree name kind) h = sym (names_push r.trees (record { name = name; kind = kind }))
names_kept r (Dup from name) h =
    let source = some_tree r.trees from h.follows.named in
    rw source.1.found (sym (names_push r.trees (renamed name source.0)))
names_kept r item h = no_names r.trees
