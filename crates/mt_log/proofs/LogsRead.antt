-- A log that can be read has lines that can follow, one behind the other.
use Rattle.mt_log.proofs.Prelude.{◌≡◌, inl, inr, ℕ, ◌+◌, ◌-◌, ◌≤◌, ◌<◌, ◌^◌, Bool, true, false, List, [], ◌∷◌, ◌++◌, Option, Some, None, Ok, Err, Result, length, slice_get, take, drop, codes, cond, append_assoc, arith, refl, sym, ap, ◌∙◌, subst, ◌==◌, ◌&&◌, is_some, nat_le, nat_lt, is_ascii_digit, is_ascii_hexdigit, slice_split, list_all, ok_or, option_and_then, option_map, bytes_eq, digits_value, and_parts, leb-true, ltb-true, append-nil, slice_get_within, greatest_of, kind_width, Call, Store, StorePre, Insert, Erase, Alloc, Ralloc, Gap, Rgap, Clear, Query, Load, Find, Next, Prev, Rfind, Kind, greatest_fits, Fault, on_line, ◌>>=◌, IsLog, is_name, ReadSoFar, after_item, after_line, after_pieces, after_skipped, before_steps, room_for_tree, room_for_scan, most_scan_steps, declared_place, tree_at, tree_read, new_name_read, kind_read, number_read, decimal_read, hexadecimal_read, index_read, size_read, entry_number_read, as_count, count_read, as_lane, lane_number_read, keyword_read, is_skipped, item_of, item_by, fields_of, tree_item, dup_item, check_item, lane_item, join_item, range_item, area_of, area_item, area_entry_item, index_item, bound_item, scan_item, whole_item, log_of_pieces, headed, nothing_read, most_trees, Area, Why, Keyword, Item, Tree, Lane, Join, Dup, Check, Write, Ask, Scan, Line, Log, KnownTree, NumberedTree, most_lanes}
use Rattle.mt_log.specs.declared.keywords.Keyword.TheVariants as keyword
use Rattle.mt_log.proofs.Digits.{all_told, hexadecimal_is_short, tells_hexadecimal}
use Rattle.mt_log.proofs.Following.{CallSays, CanAllFollow, CanFollow, IsNumber, QuerySays}
use Rattle.mt_log.proofs.Pieces.{IsVersion}

-- ---- what was read was read in each of its parts

bound : {A B E : Type 0} (x : Result A E) (f : A → Result B E) (y : B) → (x >>= f) ≡ Ok y → (a : A) × (x ≡ Ok a) × (f a ≡ Ok y)
bound (Ok a) f y h = (a, refl, h)
bound (Err e) f y h = absurd (cc)

chosen : {A E : Type 0} (b : Bool) (x : Result A E) (e : E) (y : A) → cond b x (Err e) ≡ Ok y → (b ≡ true) × (x ≡ Ok y)
chosen true x e y h = (refl, h)
chosen false x e y h = absurd (cc)

refused : {A E : Type 0} (b : Bool) (x : Result A E) (e : E) (y : A) → cond b (Err e) x ≡ Ok y → (b ≡ false) × (x ≡ Ok y)
refused true x e y h = absurd (cc)
refused false x e y h = (refl, h)

found_some : {A E : Type 0} (o : Option A) (e : E) (y : A) → ok_or o e ≡ Ok y → o ≡ Some y
found_some None e y h = absurd (cc)
found_some (Some x) e y h = let same : x ≡ y = (cc) in ap (λ z. Some z) same

then_some : {A B : Type 0} (f : A → Option B) (o : Option A) (y : B) → option_and_then f o ≡ Some y → (x : A) × (o ≡ Some x) × (f x ≡ Some y)
then_some f None y h = absurd (cc)
then_some f (Some x) y h = (x, refl, h)

map_some : {A B : Type 0} (f : A → B) (o : Option A) (y : B) → option_map f o ≡ Some y → (x : A) × (o ≡ Some x) × (f x ≡ y)
map_some f None y h = absurd (cc)
map_some f (Some x) y h = let same : f x ≡ y = (cc) in (x, refl, same)

-- ---- numbers

decimal_below : (digits : List ℕ) (n : ℕ) → decimal_read digits ≡ Ok n → IsNumber n
unfolding decimal_read
decimal_below digits n h =
    let read = chosen (list_all is_ascii_digit digits && nat_le 1 (length digits) && nat_le (length digits) 20 && nat_lt (digits_value 10 digits) (2 ^ 64)) (Ok (digits_value 10 digits)) _ n h in
    let is : digits_value 10 digits ≡ n = (cc) in
    subst (λ (k : ℕ). k < 2 ^ 64) is (ltb-true (digits_value 10 digits) (2 ^ 64) (and_parts _ _ read.0).1)

hexadecimal_below : (digits : List ℕ) (n : ℕ) → hexadecimal_read digits ≡ Ok n → IsNumber n
unfolding hexadecimal_read
hexadecimal_below digits n h =
    let read = chosen (list_all is_ascii_hexdigit digits && nat_le 1 (length digits) && nat_le (length digits) 16) (Ok (digits_value 16 digits)) _ n h in
    let is : digits_value 16 digits ≡ n = (cc) in
    let short = and_parts _ _ read.0 in
    let told = all_told 16 is_ascii_hexdigit tells_hexadecimal digits (and_parts _ _ short.0).0 in
    subst (λ (k : ℕ). k < 2 ^ 64) is (hexadecimal_is_short digits told (leb-true (length digits) 16 short.1))

either_number : (most n : ℕ) (is_max is_hexadecimal : Bool) (x y : Result ℕ Why) → IsNumber most → (x ≡ Ok n → IsNumber n) → (y ≡ Ok n → IsNumber n) → cond is_max (Ok most) (cond is_hexadecimal x y) ≡ Ok n → IsNumber n
either_number most n true is_hexadecimal x y hm hx hy h = let is : most ≡ n = (cc) in subst (λ (k : ℕ). k < 2 ^ 64) is hm
either_number most n false true x y hm hx hy h = hx h
either_number most n false false x y hm hx hy h = hy h

number_below : (most : ℕ) (field : List ℕ) (n : ℕ) → IsNumber most → number_read most field ≡ Ok n → IsNumber n
unfolding number_read
number_below most field n hm h = either_number most n (bytes_eq field (codes "max")) (bytes_eq (take 2 field) (codes "0x")) (hexadecimal_read (drop 2 field)) (decimal_read field) hm (hexadecimal_below (drop 2 field) n) (decimal_below field n) h

greatest_below : (kind : Kind) → IsNumber (greatest_of kind)
greatest_below kind = greatest_fits (kind_width kind)

index_below : (kind : Kind) (field : List ℕ) (n : ℕ) → index_read kind field ≡ Ok n → IsNumber n
unfolding index_read
index_below kind field n h = number_below (greatest_of kind) field n (greatest_below kind) h

size_below : (field : List ℕ) (n : ℕ) → size_read field ≡ Ok n → IsNumber n
unfolding size_read
size_below field n h = number_below (2 ^ 64 - 1) field n (omega arith) h

entry_below : (field : List ℕ) (n : ℕ) → entry_number_read field ≡ Ok n → IsNumber n
unfolding entry_number_read
entry_below field n h = number_below (2 ^ 64 - 1) field n (omega arith) h

counted : (read : Result ℕ Why) (n : ℕ) → as_count read ≡ Ok n → (1 ≤ n) × (n ≤ 65536)
counted (Ok m) n h =
    let read = chosen (nat_le 1 m && nat_le m 65536) (Ok m) _ n h in
    let is : m ≡ n = (cc) in
    let parts = and_parts _ _ read.0 in
    let least : 1 ≤ m = leb-true 1 m parts.0 in
    let most : m ≤ 65536 = leb-true m 65536 parts.1 in
    (omega arith, omega arith)
counted (Err e) n h = absurd (cc)

count_within : (field : List ℕ) (n : ℕ) → count_read field ≡ Ok n → (1 ≤ n) × (n ≤ 65536)
unfolding count_read
count_within field n h = counted (number_read (2 ^ 64 - 1) field) n h

a_lane : (read : Result ℕ Why) (n : ℕ) → as_lane read ≡ Ok n → n < most_lanes
a_lane (Ok m) n h =
    let read = chosen (nat_lt m most_lanes) (Ok m) _ n h in
    let is : m ≡ n = (cc) in
    let below : m < 16 = ltb-true m most_lanes read.0 in
    omega arith
a_lane (Err e) n h = absurd (cc)

lane_below : (field : List ℕ) (n : ℕ) → lane_number_read field ≡ Ok n → n < most_lanes
unfolding lane_number_read
lane_below field n h = a_lane (number_read (2 ^ 64 - 1) field) n h

-- ---- names

tree_below : (trees : List KnownTree) (name : List ℕ) (tree : NumberedTree) → tree_read trees name ≡ Ok tree → tree.number < length trees
unfolding tree_read
tree_below trees name tree h =
    let named = chosen (is_name name) (ok_or (option_and_then (tree_at trees) (declared_place trees name)) _) _ tree h in
    let found = found_some (option_and_then (tree_at trees) (declared_place trees name)) _ tree named.1 in
    let place = then_some (tree_at trees) (declared_place trees name) tree found in
    let at = map_some (λ (t : KnownTree). record { number = place.0; kind = t.kind }) (slice_get trees place.0) tree place.2 in
    subst (λ (t : NumberedTree). t.number < length trees) at.2 (slice_get_within trees place.0 at.0 at.1)

none_found : {A : Type 0} (o : Option A) → is_some o ≡ false → o ≡ None
none_found None h = refl
none_found (Some x) h = absurd (cc)

new_name : (trees : List KnownTree) (field name : List ℕ) → new_name_read trees field ≡ Ok name → (is_name name ≡ true) × (declared_place trees name ≡ None)
unfolding new_name_read
new_name trees field name h =
    let named = chosen (is_name field) (cond (is_some (declared_place trees field)) (Err _) (Ok field)) _ name h in
    let new = refused (is_some (declared_place trees field)) (Ok field) _ name named.1 in
    let is : field ≡ name = (cc) in
    subst (λ (n : List ℕ). (is_name n ≡ true) × (declared_place trees n ≡ None)) is (named.0, none_found (declared_place trees field) new.0)

-- ---- places

before : (r : ReadSoFar) (u : Unit {0}) → before_steps r ≡ Ok u → r.stepped ≡ false
unfolding before_steps
before r u h = (refused r.stepped (Ok tt) _ u h).0

tree_room : (r : ReadSoFar) (u : Unit {0}) → room_for_tree r ≡ Ok u → length r.trees < most_trees
unfolding room_for_tree
tree_room r u h = ltb-true (length r.trees) most_trees (chosen (nat_lt (length r.trees) most_trees) (Ok tt) _ u h).0

scan_room : (r : ReadSoFar) (count : ℕ) (u : Unit {0}) → room_for_scan r count ≡ Ok u → count ≤ most_scan_steps - r.scanned
unfolding room_for_scan
scan_room r count u h = let room = leb-true (r.scanned + count) most_scan_steps (chosen (nat_le (r.scanned + count) most_scan_steps) (Ok tt) _ u h).0 in omega arith

-- ---- lines

write_follows : (r : ReadSoFar) (tree : ℕ) (call : Call) → tree < length r.trees → CallSays call → CanFollow r (Write tree call)
write_follows r tree call below says = record { follows = record { named = below; placed = tt; trees = tt; scans = omega arith }; says = says }

ask_follows : (r : ReadSoFar) (tree : ℕ) (query : Query) → tree < length r.trees → QuerySays query → CanFollow r (Ask tree query)
ask_follows r tree query below says = record { follows = record { named = below; placed = tt; trees = tt; scans = omega arith }; says = says }

tree_follows : (r : ReadSoFar) (fields : List (List ℕ)) (item : Item) → tree_item r fields ≡ Ok item → CanFollow r item
unfolding tree_item
tree_follows r (name ∷ kind ∷ []) item h =
    let n = bound (new_name_read r.trees name) _ item h in
    let k = bound (kind_read kind) _ item n.2 in
    let first = bound (before_steps r) _ item k.2 in
    let room = bound (room_for_tree r) _ item first.2 in
    let is : Tree n.0 k.0 ≡ item = (cc) in
    let new = new_name r.trees name n.0 n.1 in
    subst (CanFollow r) is (record { follows = record { named = tt; placed = before r first.0 first.1; trees = (tree_room r room.0 room.1, new.1); scans = omega arith }; says = new.0 })
tree_follows r fields item h = absurd (cc)

dup_follows : (r : ReadSoFar) (fields : List (List ℕ)) (item : Item) → dup_item r fields ≡ Ok item → CanFollow r item
unfolding dup_item
dup_follows r (name ∷ copy ∷ []) item h =
    let t = bound (tree_read r.trees name) _ item h in
    let n = bound (new_name_read r.trees copy) _ item t.2 in
    let first = bound (before_steps r) _ item n.2 in
    let room = bound (room_for_tree r) _ item first.2 in
    let is : Dup t.0.number n.0 ≡ item = (cc) in
    let new = new_name r.trees copy n.0 n.1 in
    subst (CanFollow r) is (record { follows = record { named = tree_below r.trees name t.0 t.1; placed = before r first.0 first.1; trees = (tree_room r room.0 room.1, new.1); scans = omega arith }; says = new.0 })
dup_follows r fields item h = absurd (cc)

check_follows : (r : ReadSoFar) (fields : List (List ℕ)) (item : Item) → check_item r fields ≡ Ok item → CanFollow r item
unfolding check_item
check_follows r (name ∷ []) item h =
    let t = bound (tree_read r.trees name) _ item h in
    let first = bound (before_steps r) _ item t.2 in
    let is : Check t.0.number ≡ item = (cc) in
    subst (CanFollow r) is (record { follows = record { named = tree_below r.trees name t.0 t.1; placed = before r first.0 first.1; trees = tt; scans = omega arith }; says = tt })
check_follows r fields item h = absurd (cc)

lane_follows : (r : ReadSoFar) (fields : List (List ℕ)) (item : Item) → lane_item fields ≡ Ok item → CanFollow r item
unfolding lane_item
lane_follows r (lane ∷ []) item h =
    let n = bound (lane_number_read lane) _ item h in
    let is : Lane n.0 ≡ item = (cc) in
    subst (CanFollow r) is (record { follows = record { named = lane_below lane n.0 n.1; placed = tt; trees = tt; scans = omega arith }; says = tt })
lane_follows r fields item h = absurd (cc)

join_follows : (r : ReadSoFar) (fields : List (List ℕ)) (item : Item) → join_item fields ≡ Ok item → CanFollow r item
unfolding join_item
join_follows r (a ∷ fields) item h = absurd (cc)
join_follows r [] item h =
    let is : Join ≡ item = (cc) in
    subst (CanFollow r) is (record { follows = record { named = tt; placed = tt; trees = tt; scans = omega arith }; says = tt })

range_follows : (r : ReadSoFar) (call : ℕ → ℕ → ℕ → Call) → ((a b e : ℕ) → IsNumber a → IsNumber b → IsNumber e → CallSays (call a b e)) → (fields : List (List ℕ)) (item : Item) → range_item call r.trees fields ≡ Ok item → CanFollow r item
unfolding range_item
range_follows r call says (name ∷ first ∷ last ∷ entry ∷ []) item h =
    let t = bound (tree_read r.trees name) _ item h in
    let a = bound (index_read t.0.kind first) _ item t.2 in
    let b = bound (index_read t.0.kind last) _ item a.2 in
    let e = bound (entry_number_read entry) _ item b.2 in
    let is : Write t.0.number (call a.0 b.0 e.0) ≡ item = (cc) in
    subst (CanFollow r) is (write_follows r t.0.number (call a.0 b.0 e.0) (tree_below r.trees name t.0 t.1) (says a.0 b.0 e.0 (index_below t.0.kind first a.0 a.1) (index_below t.0.kind last b.0 b.1) (entry_below entry e.0 e.1)))
range_follows r call says fields item h = absurd (cc)

abbrev the_area : ℕ → ℕ → ℕ → ℕ → Area
the_area tree size min max = record { tree = tree; size = size; min = min; max = max }

-- an area of a declared tree
record IsArea (trees : List KnownTree) (area : Area) : Type 0 where
  below : area.tree < length trees
  size : IsNumber area.size
  min : IsNumber area.min
  max : IsNumber area.max

some_area : (trees : List KnownTree) (name size min max : List ℕ) (area : Area) → area_of trees name size min max ≡ Ok area → IsArea trees area
unfolding area_of
some_area trees name size min max area h =
    let t = bound (tree_read trees name) _ area h in
    let n = bound (size_read size) _ area t.2 in
    let a = bound (index_read t.0.kind min) _ area n.2 in
    let b = bound (index_read t.0.kind max) _ area a.2 in
    let is : the_area t.0.number n.0 a.0 b.0 ≡ area = (cc) in
    subst (IsArea trees) is (record { below = tree_below trees name t.0 t.1; size = size_below size n.0 n.1; min = index_below t.0.kind min a.0 a.1; max = index_below t.0.kind max b.0 b.1 })

area_follows : (r : ReadSoFar) (call : ℕ → ℕ → ℕ → Call) → ((n a b : ℕ) → IsNumber n → IsNumber a → IsNumber b → CallSays (call n a b)) → (fields : List (List ℕ)) (item : Item) → area_item call r.trees fields ≡ Ok item → CanFollow r item
unfolding area_item
area_follows r call says (name ∷ size ∷ min ∷ max ∷ []) item h =
    let read = bound (area_of r.trees name size min max) _ item h in
    let area : Area = read.0 in
    let facts = some_area r.trees name size min max area read.1 in
    let is : Write area.tree (call area.size area.min area.max) ≡ item = (cc) in
    subst (CanFollow r) is (write_follows r area.tree (call area.size area.min area.max) facts.below (says area.size area.min area.max facts.size facts.min facts.max))
area_follows r call says fields item h = absurd (cc)

area_entry_follows : (r : ReadSoFar) (call : ℕ → ℕ → ℕ → ℕ → Call) → ((n a b e : ℕ) → IsNumber n → IsNumber a → IsNumber b → IsNumber e → CallSays (call n a b e)) → (fields : List (List ℕ)) (item : Item) → area_entry_item call r.trees fields ≡ Ok item → CanFollow r item
unfolding area_entry_item
area_entry_follows r call says (name ∷ size ∷ min ∷ max ∷ entry ∷ []) item h =
    let read = bound (area_of r.trees name size min max) _ item h in
    let area : Area = read.0 in
    let facts = some_area r.trees name size min max area read.1 in
    let e = bound (entry_number_read entry) _ item read.2 in
    let is : Write area.tree (call area.size area.min area.max e.0) ≡ item = (cc) in
    subst (CanFollow r) is (write_follows r area.tree (call area.size area.min area.max e.0) facts.below (says area.size area.min area.max e.0 facts.size facts.min facts.max (entry_below entry e.0 e.1)))
area_entry_follows r call says fields item h = absurd (cc)

index_follows : (r : ReadSoFar) (made : ℕ → ℕ → Item) → ((tree index : ℕ) → tree < length r.trees → IsNumber index → CanFollow r (made tree index)) → (fields : List (List ℕ)) (item : Item) → index_item made r.trees fields ≡ Ok item → CanFollow r item
unfolding index_item
index_follows r made can (name ∷ index ∷ []) item h =
    let t = bound (tree_read r.trees name) _ item h in
    let i = bound (index_read t.0.kind index) _ item t.2 in
    let is : made t.0.number i.0 ≡ item = (cc) in
    subst (CanFollow r) is (can t.0.number i.0 (tree_below r.trees name t.0 t.1) (index_below t.0.kind index i.0 i.1))
index_follows r made can fields item h = absurd (cc)

bound_follows : (r : ReadSoFar) (query : ℕ → ℕ → Query) → ((i b : ℕ) → IsNumber i → IsNumber b → QuerySays (query i b)) → (fields : List (List ℕ)) (item : Item) → bound_item query r.trees fields ≡ Ok item → CanFollow r item
unfolding bound_item
bound_follows r query says (name ∷ index ∷ limit ∷ []) item h =
    let t = bound (tree_read r.trees name) _ item h in
    let i = bound (index_read t.0.kind index) _ item t.2 in
    let b = bound (index_read t.0.kind limit) _ item i.2 in
    let is : Ask t.0.number (query i.0 b.0) ≡ item = (cc) in
    subst (CanFollow r) is (ask_follows r t.0.number (query i.0 b.0) (tree_below r.trees name t.0 t.1) (says i.0 b.0 (index_below t.0.kind index i.0 i.1) (index_below t.0.kind limit b.0 b.1)))
bound_follows r query says fields item h = absurd (cc)

whole_follows : (r : ReadSoFar) (made : ℕ → Item) → ((tree : ℕ) → tree < length r.trees → CanFollow r (made tree)) → (fields : List (List ℕ)) (item : Item) → whole_item made r.trees fields ≡ Ok item → CanFollow r item
unfolding whole_item
whole_follows r made can (name ∷ []) item h =
    let t = bound (tree_read r.trees name) _ item h in
    let is : made t.0.number ≡ item = (cc) in
    subst (CanFollow r) is (can t.0.number (tree_below r.trees name t.0 t.1))
whole_follows r made can fields item h = absurd (cc)

scan_follows : (r : ReadSoFar) (fields : List (List ℕ)) (item : Item) → scan_item r fields ≡ Ok item → CanFollow r item
unfolding scan_item
scan_follows r (name ∷ index ∷ max ∷ count ∷ []) item h =
    let t = bound (tree_read r.trees name) _ item h in
    let i = bound (index_read t.0.kind index) _ item t.2 in
    let m = bound (index_read t.0.kind max) _ item i.2 in
    let n = bound (count_read count) _ item m.2 in
    let room = bound (room_for_scan r n.0) _ item n.2 in
    let is : Scan t.0.number i.0 m.0 n.0 ≡ item = (cc) in
    let within = count_within count n.0 n.1 in
    subst (CanFollow r) is (record { follows = record { named = tree_below r.trees name t.0 t.1; placed = tt; trees = tt; scans = scan_room r n.0 room.0 room.1 }; says = (index_below t.0.kind index i.0 i.1, index_below t.0.kind max m.0 m.1, within.0, within.1) })
scan_follows r fields item h = absurd (cc)

-- what a line's fields say can follow
fields_follow : (k : Keyword) (r : ReadSoFar) (fields : List (List ℕ)) (item : Item) → item_by k r fields ≡ Ok item → CanFollow r item
unfolding item_by
fields_follow keyword.Tree r fields item h = tree_follows r fields item h
fields_follow keyword.Dup r fields item h = dup_follows r fields item h
fields_follow keyword.Check r fields item h = check_follows r fields item h
fields_follow keyword.Lane r fields item h = lane_follows r fields item h
fields_follow keyword.Join r fields item h = join_follows r fields item h
fields_follow keyword.Store r fields item h = range_follows r Store (λ a b e ha hb he. (ha, hb, he)) fields item h
fields_follow keyword.StorePre r fields item h = range_follows r StorePre (λ a b e ha hb he. (ha, hb, he)) fields item h
fields_follow keyword.Insert r fields item h = range_follows r Insert (λ a b e ha hb he. (ha, hb, he)) fields item h
fields_follow keyword.Erase r fields item h = index_follows r (λ tree index. Write tree (Erase index)) (λ tree index below number. write_follows r tree (Erase index) below number) fields item h
fields_follow keyword.Alloc r fields item h = area_entry_follows r Alloc (λ n a b e hn ha hb he. (hn, ha, hb, he)) fields item h
fields_follow keyword.Ralloc r fields item h = area_entry_follows r Ralloc (λ n a b e hn ha hb he. (hn, ha, hb, he)) fields item h
fields_follow keyword.Gap r fields item h = area_follows r Gap (λ n a b hn ha hb. (hn, ha, hb)) fields item h
fields_follow keyword.Rgap r fields item h = area_follows r Rgap (λ n a b hn ha hb. (hn, ha, hb)) fields item h
fields_follow keyword.Clear r fields item h = whole_follows r (λ tree. Write tree Clear) (λ tree below. write_follows r tree Clear below tt) fields item h
fields_follow keyword.Load r fields item h = index_follows r (λ tree index. Ask tree (Load index)) (λ tree index below number. ask_follows r tree (Load index) below number) fields item h
fields_follow keyword.Find r fields item h = bound_follows r Find (λ i b hi hb. (hi, hb)) fields item h
fields_follow keyword.Next r fields item h = bound_follows r Next (λ i b hi hb. (hi, hb)) fields item h
fields_follow keyword.Prev r fields item h = bound_follows r Prev (λ i b hi hb. (hi, hb)) fields item h
fields_follow keyword.Rfind r fields item h = bound_follows r Rfind (λ i b hi hb. (hi, hb)) fields item h
fields_follow keyword.Scan r fields item h = scan_follows r fields item h

item_follows : (r : ReadSoFar) (fields : List (List ℕ)) (item : Item) → item_of r fields ≡ Ok item → CanFollow r item
unfolding item_of
item_follows r [] item h = absurd (cc)
item_follows r (word ∷ fields) item h = let k = bound (keyword_read word) _ item h in fields_follow k.0 r fields item k.2

-- ---- logs

-- what was read between two moments: lines that can follow
record ReadsOn (r s : ReadSoFar) : Type 0 where
  lines : List Line
  told : s.lines ≡ r.lines ++ lines
  follow : CanAllFollow r lines

nothing_more : (r s : ReadSoFar) → r ≡ s → ReadsOn r s
nothing_more r s same = subst (ReadsOn r) same (record { lines = []; told = sym (append-nil r.lines); follow = tt })

-- the first of lines that can follow may stand later
first_later : (r : ReadSoFar) (lines : List Line) → CanAllFollow (after_skipped r) lines → CanAllFollow r lines
first_later r [] h = tt
first_later r (line ∷ lines) h =
    let above = h.0 in
    (omega arith, record { follows = record { named = h.1.follows.named; placed = h.1.follows.placed; trees = h.1.follows.trees; scans = h.1.follows.scans }; says = h.1.says }, h.2)

past_blank : (r s : ReadSoFar) → ReadsOn (after_skipped r) s → ReadsOn r s
past_blank r s more = record { lines = more.lines; told = more.told; follow = first_later r more.lines more.follow }

past_item : (r s : ReadSoFar) (item : Item) → CanFollow r item → ReadsOn (after_item r item) s → ReadsOn r s
past_item r s item can more =
    let line : Line = record { number = r.next; item = item } in
    record { lines = line ∷ more.lines; told = more.told ∙ append_assoc r.lines (line ∷ []) more.lines; follow = (omega arith, can, more.follow) }

past_line : (r s : ReadSoFar) (skipped : Bool) (said : Result Item Why) (more : ReadSoFar → Result ReadSoFar Fault) → ((item : Item) → said ≡ Ok item → CanFollow r item) → ((q : ReadSoFar) → more q ≡ Ok s → ReadsOn q s)
    → (cond skipped (Ok (after_skipped r)) (on_line r.next said >>= λ item. Ok (after_item r item)) >>= more) ≡ Ok s → ReadsOn r s
past_line r s true said more can on h = past_blank r s (on (after_skipped r) h)
past_line r s false (Ok item) more can on h = past_item r s item (can item refl) (on (after_item r item) h)
past_line r s false (Err why) more can on h = absurd (cc)

before_pieces : (r s : ReadSoFar) (line piece : List ℕ) (pieces : List (List ℕ)) → after_pieces r (line ∷ piece ∷ pieces) ≡ Ok s → (after_line r line >>= λ q. after_pieces q (piece ∷ pieces)) ≡ Ok s
before_pieces r s [] piece pieces h = h
before_pieces r s (b ∷ line) piece pieces h = h

pieces_follow : (pieces : List (List ℕ)) (r s : ReadSoFar) → after_pieces r pieces ≡ Ok s → ReadsOn r s
pieces_follow [] r s h = nothing_more r s (cc)
pieces_follow ([] ∷ []) r s h = nothing_more r s (cc)
pieces_follow ((b ∷ bytes) ∷ []) r s h = absurd (cc)
pieces_follow (line ∷ piece ∷ pieces) r s h =
    past_line r s (is_skipped line) (item_of r (fields_of line)) (λ q. after_pieces q (piece ∷ pieces)) (λ item read. item_follows r (fields_of line) item read) (λ q read. pieces_follow (piece ∷ pieces) q s read) (before_pieces r s line piece pieces h)

abbrev the_log : ℕ → List Line → Log
the_log version lines = record { version = version; lines = lines }

-- the lines of a log, behind its first line
behind : (version : ℕ) → IsVersion version → (pieces : List (List ℕ)) (log : Log) → headed (Some version) pieces ≡ Ok log → IsVersion log.version × CanAllFollow nothing_read log.lines
behind version is_version pieces log h =
    let read = bound (after_pieces nothing_read pieces) _ log h in
    let on : ReadsOn nothing_read read.0 = pieces_follow pieces nothing_read read.0 read.1 in
    let is : the_log version read.0.lines ≡ log = (cc) in
    subst (λ (l : Log). IsVersion l.version × CanAllFollow nothing_read l.lines) is (is_version, rw on.told on.follow)

-- by which of the versions its first line names
versions : (first second : Bool) (pieces : List (List ℕ)) (log : Log) → headed (cond first (Some 1) (cond second (Some 2) None)) pieces ≡ Ok log → IsVersion log.version × CanAllFollow nothing_read log.lines
versions true second pieces log h = behind 1 (inl refl) pieces log h
versions false true pieces log h = behind 2 (inr refl) pieces log h
versions false false pieces log h = absurd (cc)

log_pieces : (header piece : List ℕ) (pieces : List (List ℕ)) (log : Log) → log_of_pieces (header ∷ piece ∷ pieces) ≡ Ok log → IsVersion log.version × CanAllFollow nothing_read log.lines
log_pieces [] piece pieces log h = absurd (cc)
log_pieces (b ∷ header) piece pieces log h = versions (bytes_eq (b ∷ header) (codes "mtlog 1")) (bytes_eq (b ∷ header) (codes "mtlog 2")) (piece ∷ pieces) log h

all_pieces : (pieces : List (List ℕ)) (log : Log) → log_of_pieces pieces ≡ Ok log → IsVersion log.version × CanAllFollow nothing_read log.lines
all_pieces [] log h = absurd (cc)
all_pieces ([] ∷ []) log h = absurd (cc)
all_pieces ((b ∷ bytes) ∷ []) log h = absurd (cc)
all_pieces (header ∷ piece ∷ pieces) log h = log_pieces header piece pieces log h

pub log_follows : (log : Log) → IsLog log → IsVersion log.version × CanAllFollow nothing_read log.lines
log_follows log h = all_pieces (slice_split (λ b. b == 10) h.0) log h.1
