-- What a table from names to kinds tells of the list of trees that it stands for.
use Rattle.mt_log.proofs.Prelude.{◌≡◌, ℕ, ◌<◌, true, List, [], ◌∷◌, ◌++◌, Some, None, Ok, arith, length, map, position, slice_get, refl, sym, ap, ◌∙◌, option_map, lt-ltb, bytes_eq-Decides, bytes_eq, keys_of, length-map, map-append, slice_get-map, insert_entry, Missing-position, insert_entry-absent, Kind, KnownTree, known, is_name, declared_place, tree_read}

pub as_many : (entries : List (List ℕ × Kind)) → length (map known entries) ≡ length entries
as_many entries = length-map entries known

pub names_of_known : (entries : List (List ℕ × Kind)) → map (λ (t : KnownTree). t.name) (map known entries) ≡ keys_of entries
names_of_known [] = refl
names_of_known (e ∷ entries) = ap (λ names. e.0 ∷ names) (names_of_known entries)

pub known_at : (entries : List (List ℕ × Kind)) (place : ℕ) → slice_get (map known entries) place ≡ option_map known (slice_get entries place)
known_at entries place = slice_get-map known entries place

-- a tree of a new name is the last
pub one_more : (entries : List (List ℕ × Kind)) (tree : KnownTree) → declared_place (map known entries) tree.name ≡ None → map known (insert_entry bytes_eq entries tree.name tree.kind) ≡ map known entries ++ tree ∷ []
one_more entries tree new =
    let none : position (bytes_eq tree.name) (keys_of entries) ≡ None = ap (position (bytes_eq tree.name)) (sym (names_of_known entries)) ∙ new in
    ap (map known) (insert_entry-absent bytes_eq tree.name tree.kind entries (Missing-position (bytes_eq tree.name) entries none).absent)
    ∙ map-append known entries ((tree.name, tree.kind) ∷ [])

-- the first tree of this name stands first, and a tree that stands there is of number 0
first_place : (trees : List KnownTree) (tree : KnownTree) (name : List ℕ) → bytes_eq name tree.name ≡ true → declared_place (tree ∷ trees) name ≡ Some 0
first_place trees tree name h = rw (h, lt-ltb 0 (length (map (λ (t : KnownTree). t.name) (tree ∷ trees))) (omega arith)) refl

numbered_first : (trees : List KnownTree) (tree : KnownTree) (name : List ℕ) → is_name name ≡ true → declared_place trees name ≡ Some 0 → slice_get trees 0 ≡ Some tree → tree_read trees name ≡ Ok (record { number = 0; kind = tree.kind })
unfolding tree_read
numbered_first trees tree name named place found = rw (named, place, found) refl

-- where the first tree is of this name, it is the one
pub first_of_name : (entries : List (List ℕ × Kind)) (first name : List ℕ) (kind : Kind) → slice_get entries 0 ≡ Some (first, kind) → bytes_eq first name ≡ true → is_name first ≡ true → (tree_read (map known entries) name ≡ Ok (record { number = 0; kind = kind })) × (0 < length (map known entries))
first_of_name [] first name kind found is named = absurd (cc)
first_of_name (e ∷ entries) first name kind found is named =
    let this : first ≡ name = (bytes_eq-Decides first name).0 is in
    let same : known e ≡ known (first, kind) = let one : e ≡ (first, kind) = (cc) in ap known one in
    let place = first_place (map known entries) (known e) name ((bytes_eq-Decides name (known e).name).1 (sym (ap (λ (t : KnownTree). t.name) same ∙ this))) in
    (numbered_first (map known (e ∷ entries)) (known (first, kind)) name (ap is_name (sym this) ∙ named) place (ap (λ t. Some t) same), omega arith)
