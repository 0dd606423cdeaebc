-- A log declares a tree where a line does so behind none that was declared.
use Rattle.mt_program.proofs.Prelude.{◌||◌, ◌≡◌, ◌≢◌, ◌∙◌, ℕ, Bool, true, false, List, [], ◌∷◌, ◌++◌, Some, refl, sym, ap, subst, true≢false, slice_get, list_any, is_some, option_to_list, Item, Tree, Lane, Join, Dup, Check, Write, Ask, Scan, Line, Log, Listing, phase_after, listings_of, Declared, declared_by, tree_declared_by, trees_from, trees_of, History, IsImageOfRun}

abbrev has_some : List Declared → Bool
has_some [] = false
has_some (d ∷ declared) = true

no_one : (declared : List Declared) → has_some declared ≡ false → declared ≡ []
no_one [] is = refl
no_one (d ∷ declared) is = absurd (true≢false is)

-- a tree that was declared stays
kept : (d : Declared) (trees : List Declared) (phase : ℕ) (lines : List Line) → has_some (trees_from (d ∷ trees) phase lines) ≡ true
kept d trees phase [] = refl
kept d trees phase (line ∷ lines) = kept d (trees ++ option_to_list (declared_by (d ∷ trees) phase line.item)) (phase_after phase line.item) lines

abbrev declares : Line → Bool
declares line = is_some (tree_declared_by [] line.item)

as_any : (phase : ℕ) (lines : List Line) → has_some (trees_from [] phase lines) ≡ list_any declares lines
as_any phase [] = refl
as_any phase (line ∷ lines) = by_item line.item (λ p. as_any p lines)
  where
    by_item : (item : Item) → ((p : ℕ) → has_some (trees_from [] p lines) ≡ list_any declares lines)
        → has_some (trees_from (option_to_list (declared_by [] phase item)) (phase_after phase item) lines) ≡ (is_some (tree_declared_by [] item) || list_any declares lines)
    by_item (Tree name kind) rest = kept _ [] phase lines
    by_item (Lane lane) rest = rest phase
    by_item Join rest = rest (phase_after phase Join)
    by_item (Dup from name) rest = rest phase
    by_item (Check tree) rest = rest phase
    by_item (Write tree call) rest = rest phase
    by_item (Ask tree query) rest = rest phase
    by_item (Scan tree index max steps) rest = rest phase

pub some_declared : (lines : List Line) → list_any declares lines ≡ true → trees_of lines ≢ []
some_declared lines any is = true≢false (sym any ∙ (sym (as_any 0 lines) ∙ ap has_some is))

pub none_declared : (lines : List Line) → list_any declares lines ≡ false → trees_of lines ≡ []
none_declared lines none = no_one (trees_of lines) (as_any 0 lines ∙ none)

-- a tree that is listed was declared
listed : (declared : List Declared) (trees : List History) (first : Listing) → slice_get (listings_of declared trees) 0 ≡ Some first → declared ≢ []
listed [] trees first is none = absurd (cc)
listed (d ∷ declared) trees first is none = absurd (cc)

-- a log of which there is an image declares a tree
pub has_tree : (rows : ℕ) (log : Log) (bytes : List ℕ) → IsImageOfRun rows log bytes → trees_of log.lines ≢ []
has_tree rows log bytes image =
    let (steps, trees, run) = image.run in
    listed (trees_of log.lines) trees image.first (subst (λ (lists : List Listing). slice_get lists 0 ≡ Some image.first) run.lists image.first_is)
