-- The fields of a line that can follow are read as this line.
use Rattle.mt_log.proofs.Prelude.{◌≡◌, ℕ, ◌+◌, ◌-◌, ◌≤◌, ◌<◌, true, false, List, [], ◌∷◌, Some, None, Ok, length, map, slice_get, codes, arith, refl, inl, inr, decimal, le-leb, lt-ltb, slice_get-map, slice_get_cases, kind_text, Call, Store, StorePre, Insert, Erase, Alloc, Ralloc, Gap, Rgap, Clear, Query, Load, Find, Next, Prev, Rfind, Kind, call_fields, query_fields, item_fields, tree_name, is_name, ReadSoFar, before_steps, room_for_tree, room_for_scan, most_scan_steps, declared_place, tree_read, new_name_read, kind_read, keyword_read, item_of, item_by, tree_item, dup_item, check_item, lane_item, join_item, range_item, area_of, area_item, area_entry_item, index_item, bound_item, scan_item, whole_item, most_trees, Item, Tree, Lane, Join, Dup, Check, Write, Ask, Scan, KnownTree, NumberedTree, most_lanes}
use Rattle.mt_base.specs.declared.kinds.Kind.TheVariants as kinds
use Rattle.mt_log.proofs.Following.{AreNamed, CallSays, CanFollow, IsNumber, QuerySays}
use Rattle.mt_log.proofs.PrintedNumbers.{count_reads, entry_reads, index_reads, lane_reads, size_reads}

-- ---- names

abbrev pub names_of : List KnownTree → List (List ℕ)
names_of trees = map (λ (tree : KnownTree). tree.name) trees

-- a declared tree by its number, and its name
pub record IsTree (trees : List KnownTree) (place : ℕ) (tree : KnownTree) : Type 0 where
  pub found : slice_get trees place ≡ Some tree
  pub named : tree_name (names_of trees) place ≡ tree.name

name_of_place : (trees : List KnownTree) (place : ℕ) (tree : KnownTree) → slice_get trees place ≡ Some tree → tree_name (names_of trees) place ≡ tree.name
name_of_place trees place tree h = rw (slice_get-map (λ (t : KnownTree). t.name) trees place, h) refl

pub some_tree : (trees : List KnownTree) (place : ℕ) → place < length trees → (tree : KnownTree) × IsTree trees place tree
some_tree trees place below = elim (slice_get_cases trees place).1 [
  | inl found ↦ (found.0, record { found = found.2; named = name_of_place trees place found.0 found.2 })
  | inr past ↦ absurd (omega (arith, past.0, below))
]

tree_reads : (trees : List KnownTree) (place : ℕ) (tree : KnownTree) → AreNamed trees → IsTree trees place tree → tree_read trees (tree_name (names_of trees) place) ≡ Ok (record { number = place; kind = tree.kind })
unfolding tree_read
tree_reads trees place tree named h =
    let facts = named place tree h.found in
    rw (h.named, facts.1, facts.0, h.found) refl

new_name_reads : (trees : List KnownTree) (name : List ℕ) → is_name name ≡ true → declared_place trees name ≡ None → new_name_read trees name ≡ Ok name
unfolding new_name_read
new_name_reads trees name named new = rw (named, new) refl

kind_reads : (kind : Kind) → kind_read (kind_text kind) ≡ Ok kind
unfolding kind_read
kind_reads kinds.Range = refl
kind_reads kinds.Alloc = refl
kind_reads kinds.Range32 = refl
kind_reads kinds.Alloc32 = refl

-- ---- the fields behind a word

range_reads : (call : ℕ → ℕ → ℕ → Call) (trees : List KnownTree) (name : List ℕ) (tree : NumberedTree) (a b e : ℕ) → tree_read trees name ≡ Ok tree → IsNumber a → IsNumber b → IsNumber e
    → range_item call trees (name ∷ decimal a ∷ decimal b ∷ decimal e ∷ []) ≡ Ok (Write tree.number (call a b e))
unfolding range_item
range_reads call trees name tree a b e h ha hb he = rw (h, index_reads tree.kind a ha, index_reads tree.kind b hb, entry_reads e he) refl

area_reads : (trees : List KnownTree) (name : List ℕ) (tree : NumberedTree) (n a b : ℕ) → tree_read trees name ≡ Ok tree → IsNumber n → IsNumber a → IsNumber b
    → area_of trees name (decimal n) (decimal a) (decimal b) ≡ Ok (record { tree = tree.number; size = n; min = a; max = b })
unfolding area_of
area_reads trees name tree n a b h hn ha hb = rw (h, size_reads n hn, index_reads tree.kind a ha, index_reads tree.kind b hb) refl

plain_area_reads : (call : ℕ → ℕ → ℕ → Call) (trees : List KnownTree) (name : List ℕ) (tree : NumberedTree) (n a b : ℕ) → tree_read trees name ≡ Ok tree → IsNumber n → IsNumber a → IsNumber b
    → area_item call trees (name ∷ decimal n ∷ decimal a ∷ decimal b ∷ []) ≡ Ok (Write tree.number (call n a b))
unfolding area_item
plain_area_reads call trees name tree n a b h hn ha hb = rw (area_reads trees name tree n a b h hn ha hb) refl

area_entry_reads : (call : ℕ → ℕ → ℕ → ℕ → Call) (trees : List KnownTree) (name : List ℕ) (tree : NumberedTree) (n a b e : ℕ) → tree_read trees name ≡ Ok tree → IsNumber n → IsNumber a → IsNumber b → IsNumber e
    → area_entry_item call trees (name ∷ decimal n ∷ decimal a ∷ decimal b ∷ decimal e ∷ []) ≡ Ok (Write tree.number (call n a b e))
unfolding area_entry_item
area_entry_reads call trees name tree n a b e h hn ha hb he = rw (area_reads trees name tree n a b h hn ha hb, entry_reads e he) refl

one_index_reads : (item : ℕ → ℕ → Item) (trees : List KnownTree) (name : List ℕ) (tree : NumberedTree) (i : ℕ) → tree_read trees name ≡ Ok tree → IsNumber i
    → index_item item trees (name ∷ decimal i ∷ []) ≡ Ok (item tree.number i)
unfolding index_item
one_index_reads item trees name tree i h hi = rw (h, index_reads tree.kind i hi) refl

bound_reads : (query : ℕ → ℕ → Query) (trees : List KnownTree) (name : List ℕ) (tree : NumberedTree) (i b : ℕ) → tree_read trees name ≡ Ok tree → IsNumber i → IsNumber b
    → bound_item query trees (name ∷ decimal i ∷ decimal b ∷ []) ≡ Ok (Ask tree.number (query i b))
unfolding bound_item
bound_reads query trees name tree i b h hi hb = rw (h, index_reads tree.kind i hi, index_reads tree.kind b hb) refl

whole_reads : (item : ℕ → Item) (trees : List KnownTree) (name : List ℕ) (tree : NumberedTree) → tree_read trees name ≡ Ok tree → whole_item item trees (name ∷ []) ≡ Ok (item tree.number)
unfolding whole_item
whole_reads item trees name tree h = rw h refl

-- ---- lines

call_reads : (r : ReadSoFar) (name : List ℕ) (tree : NumberedTree) (call : Call) → tree_read r.trees name ≡ Ok tree → CallSays call → item_of r (call_fields name call) ≡ Ok (Write tree.number call)
unfolding item_of keyword_read item_by
call_reads r name tree (Store first last entry) h says = range_reads Store r.trees name tree first last entry h says.0 says.1 says.2
call_reads r name tree (StorePre first last entry) h says = range_reads StorePre r.trees name tree first last entry h says.0 says.1 says.2
call_reads r name tree (Insert first last entry) h says = range_reads Insert r.trees name tree first last entry h says.0 says.1 says.2
call_reads r name tree (Erase index) h says = one_index_reads (λ tree index. Write tree (Erase index)) r.trees name tree index h says
call_reads r name tree (Alloc size min max entry) h says = area_entry_reads Alloc r.trees name tree size min max entry h says.0 says.1 says.2 says.3
call_reads r name tree (Ralloc size min max entry) h says = area_entry_reads Ralloc r.trees name tree size min max entry h says.0 says.1 says.2 says.3
call_reads r name tree (Gap size min max) h says = plain_area_reads Gap r.trees name tree size min max h says.0 says.1 says.2
call_reads r name tree (Rgap size min max) h says = plain_area_reads Rgap r.trees name tree size min max h says.0 says.1 says.2
call_reads r name tree Clear h says = whole_reads (λ tree. Write tree Clear) r.trees name tree h

query_reads : (r : ReadSoFar) (name : List ℕ) (tree : NumberedTree) (query : Query) → tree_read r.trees name ≡ Ok tree → QuerySays query → item_of r (query_fields name query) ≡ Ok (Ask tree.number query)
unfolding item_of keyword_read item_by
query_reads r name tree (Load index) h says = one_index_reads (λ tree index. Ask tree (Load index)) r.trees name tree index h says
query_reads r name tree (Find index max) h says = bound_reads Find r.trees name tree index max h says.0 says.1
query_reads r name tree (Next index max) h says = bound_reads Next r.trees name tree index max h says.0 says.1
query_reads r name tree (Prev index min) h says = bound_reads Prev r.trees name tree index min h says.0 says.1
query_reads r name tree (Rfind index min) h says = bound_reads Rfind r.trees name tree index min h says.0 says.1

-- a line that stands before the first step of its phase, and one more tree
before_reads : (r : ReadSoFar) → r.stepped ≡ false → before_steps r ≡ Ok tt
unfolding before_steps
before_reads r h = rw h refl

room_reads : (r : ReadSoFar) → length r.trees < most_trees → room_for_tree r ≡ Ok tt
unfolding room_for_tree
room_reads r h = rw (lt-ltb (length r.trees) most_trees h) refl

scan_room_reads : (r : ReadSoFar) (count : ℕ) → 1 ≤ count → count ≤ most_scan_steps - r.scanned → room_for_scan r count ≡ Ok tt
unfolding room_for_scan
scan_room_reads r count least most = rw (le-leb (r.scanned + count) most_scan_steps (omega arith)) refl

tree_item_reads : (r : ReadSoFar) (name : List ℕ) (kind : Kind) → CanFollow r (Tree name kind) → item_of r (codes "tree" ∷ name ∷ kind_text kind ∷ []) ≡ Ok (Tree name kind)
unfolding item_of keyword_read item_by tree_item
tree_item_reads r name kind h = rw (new_name_reads r.trees name h.says h.follows.trees.1, kind_reads kind, before_reads r h.follows.placed, room_reads r h.follows.trees.0) refl

dup_item_reads : (r : ReadSoFar) (source name : List ℕ) (tree : NumberedTree) → tree_read r.trees source ≡ Ok tree → CanFollow r (Dup tree.number name) → item_of r (codes "dup" ∷ source ∷ name ∷ []) ≡ Ok (Dup tree.number name)
unfolding item_of keyword_read item_by dup_item
dup_item_reads r source name tree found h = rw (found, new_name_reads r.trees name h.says h.follows.trees.1, before_reads r h.follows.placed, room_reads r h.follows.trees.0) refl

check_item_reads : (r : ReadSoFar) (name : List ℕ) (tree : NumberedTree) → tree_read r.trees name ≡ Ok tree → r.stepped ≡ false → item_of r (codes "check" ∷ name ∷ []) ≡ Ok (Check tree.number)
unfolding item_of keyword_read item_by check_item
check_item_reads r name tree found placed = rw (found, before_reads r placed) refl

lane_item_reads : (r : ReadSoFar) (lane : ℕ) → lane < most_lanes → item_of r (codes "lane" ∷ decimal lane ∷ []) ≡ Ok (Lane lane)
unfolding item_of keyword_read item_by lane_item
lane_item_reads r lane below = rw (lane_reads lane below) refl

join_item_reads : (r : ReadSoFar) → item_of r (codes "join" ∷ []) ≡ Ok Join
unfolding item_of keyword_read item_by join_item
join_item_reads r = refl

scan_item_reads : (r : ReadSoFar) (name : List ℕ) (tree : NumberedTree) (index max count : ℕ) → tree_read r.trees name ≡ Ok tree → CanFollow r (Scan tree.number index max count) → item_of r (codes "scan" ∷ name ∷ decimal index ∷ decimal max ∷ decimal count ∷ []) ≡ Ok (Scan tree.number index max count)
unfolding item_of keyword_read item_by scan_item
scan_item_reads r name tree index max count found h = rw (found, index_reads tree.kind index h.says.0, index_reads tree.kind max h.says.1, count_reads count h.says.2 h.says.3, scan_room_reads r count h.says.2 h.follows.scans) refl

-- a line that can follow is read as it is printed
pub item_reads : (r : ReadSoFar) (item : Item) → AreNamed r.trees → CanFollow r item → item_of r (item_fields (names_of r.trees) item) ≡ Ok item
item_reads r (Tree name kind) named h = tree_item_reads r name kind h
item_reads r (Lane lane) named h = lane_item_reads r lane h.follows.named
item_reads r Join named h = join_item_reads r
item_reads r (Dup from name) named h =
    let tree = some_tree r.trees from h.follows.named in
    dup_item_reads r (tree_name (names_of r.trees) from) name (record { number = from; kind = tree.0.kind }) (tree_reads r.trees from tree.0 named tree.1) h
item_reads r (Check tree) named h =
    let known = some_tree r.trees tree h.follows.named in
    check_item_reads r (tree_name (names_of r.trees) tree) (record { number = tree; kind = known.0.kind }) (tree_reads r.trees tree known.0 named known.1) h.follows.placed
item_reads r (Write tree call) named h =
    let known = some_tree r.trees tree h.follows.named in
    call_reads r (tree_name (names_of r.trees) tree) (record { number = tree; kind = known.0.kind }) call (tree_reads r.trees tree known.0 named known.1) h.says
item_reads r (Ask tree query) named h =
    let known = some_tree r.trees tree h.follows.named in
    query_reads r (tree_name (names_of r.trees) tree) (record { number = tree; kind = known.0.kind }) query (tree_reads r.trees tree known.0 named known.1) h.says
item_reads r (Scan tree index max count) named h =
    let known = some_tree r.trees tree h.follows.named in
    scan_item_reads r (tree_name (names_of r.trees) tree) (record { number = tree; kind = known.0.kind }) index max count (tree_reads r.trees tree known.0 named known.1) h
