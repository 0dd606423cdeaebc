-- The log that bytes are, or the first line that is bad and why. It is read off the list of lines, cut at each LF,
-- and the list of a line's fields, cut at each space.
use Rattle.std.specs.Prelude.{ℕ, Bool, true, false, List, [], ◌∷◌, ◌++◌, Option, Result, Some, None, Ok, Err, ◌+◌, ◌-◌, ◌^◌, ◌==◌, ◌&&◌, nat_lt, nat_le, is_some, length, map, take, drop, position, slice_get, codes, if◌then◌else◌, ok_or, option_map, option_and_then, bytes_eq}
use Rattle.std.specs.List.{find, slice_split, list_all}
use Rattle.std.specs.Char.{is_ascii_digit, is_ascii_hexdigit}
use Rattle.std.specs.Str.Parse.{digits_value}
use Rattle.mt_log.specs.Prelude.{Kind, Call, Store, StorePre, Insert, Erase, Alloc, Ralloc, Gap, Rgap, Clear, Query, Load, Find, Next, Prev, Rfind, kind_text, greatest_of, most_lanes}
use Rattle.mt_base.specs.declared.kinds.Kind.TheVariants as kinds
use Rattle.mt_log.specs.Keywords.{keywords, named}
use Rattle.mt_log.specs.Name.{is_name}
use Rattle.mt_log.specs.Phases.{stepped_after}
use Rattle.mt_log.specs.Trees.{known_after, most_trees}
use Rattle.mt_log.specs.Fault.{Fault, fault_at, on_line, ◌>>=◌}
use Rattle.mt_log.specs.declared.areas.Area.{Area}
use Rattle.mt_log.specs.declared.faults.Why.{Why}
use Rattle.mt_log.specs.declared.faults.Why.TheVariants as why
use Rattle.mt_log.specs.declared.keywords.Keyword.{Keyword}
use Rattle.mt_log.specs.declared.keywords.Keyword.TheVariants as keyword
use Rattle.mt_log.specs.declared.lines.Item.{Item}
use Rattle.mt_log.specs.declared.lines.Item.TheVariants.{Tree, Lane, Join, Dup, Check, Write, Ask, Scan}
use Rattle.mt_log.specs.declared.lines.Line.{Line}
use Rattle.mt_log.specs.declared.lines.Log.{Log}
use Rattle.mt_log.specs.declared.trees.KnownTree.{KnownTree}
use Rattle.mt_log.specs.declared.trees.NumberedTree.{NumberedTree}

-- 1 to 20 decimal digits, of a value below 2 ^ 64
unfoldable pub decimal_read : List ℕ → Result ℕ Why
decimal_read digits = if list_all is_ascii_digit digits && nat_le 1 (length digits) && nat_le (length digits) 20 && nat_lt (digits_value 10 digits) (2 ^ 64) then Ok (digits_value 10 digits) else Err why.Number

-- 1 to 16 hexadecimal digits of either case
unfoldable pub hexadecimal_read : List ℕ → Result ℕ Why
hexadecimal_read digits = if list_all is_ascii_hexdigit digits && nat_le 1 (length digits) && nat_le (length digits) 16 then Ok (digits_value 16 digits) else Err why.Number

-- a number: `max`, which is this one, or `0x` and hexadecimal digits, or decimal digits
unfoldable pub number_read : ℕ → List ℕ → Result ℕ Why
number_read most field =
    if bytes_eq field (codes "max") then Ok most
    else (if bytes_eq (take 2 field) (codes "0x") then hexadecimal_read (drop 2 field)
    else decimal_read field)

-- an index of a tree of this kind, how many indexes, and an entry
unfoldable pub index_read : Kind → List ℕ → Result ℕ Why
index_read kind field = number_read (greatest_of kind) field

unfoldable pub size_read : List ℕ → Result ℕ Why
size_read field = number_read (2 ^ 64 - 1) field

unfoldable pub entry_number_read : List ℕ → Result ℕ Why
entry_number_read field = number_read (2 ^ 64 - 1) field

-- the count of a scan: a number from 1 to 65,536
abbrev pub as_count : Result ℕ Why → Result ℕ Why
as_count (Ok n) = if nat_le 1 n && nat_le n 65536 then Ok n else Err why.Count
as_count (Err other) = Err why.Count

unfoldable pub count_read : List ℕ → Result ℕ Why
count_read field = as_count (number_read (2 ^ 64 - 1) field)

-- a lane: a number from 0 to 15
abbrev pub as_lane : Result ℕ Why → Result ℕ Why
as_lane (Ok n) = if nat_lt n most_lanes then Ok n else Err why.LaneNo
as_lane (Err other) = Err why.LaneNo

unfoldable pub lane_number_read : List ℕ → Result ℕ Why
lane_number_read field = as_lane (number_read (2 ^ 64 - 1) field)

-- the place of the tree with this name among the declared ones
abbrev pub declared_place : List KnownTree → List ℕ → Option ℕ
declared_place trees name = position (bytes_eq name) (map (λ tree. tree.name) trees)

-- the tree at a place: its number and its kind
abbrev pub tree_at : List KnownTree → ℕ → Option NumberedTree
tree_at trees place = option_map (λ tree. record { number = place; kind = tree.kind }) (slice_get trees place)

-- the declared tree of this name
unfoldable pub tree_read : List KnownTree → List ℕ → Result NumberedTree Why
tree_read trees name = if is_name name then ok_or (option_and_then (tree_at trees) (declared_place trees name)) why.NoTree else Err why.Name

-- the name of a tree that is to be declared
unfoldable pub new_name_read : List KnownTree → List ℕ → Result (List ℕ) Why
new_name_read trees name =
    if is_name name then (if is_some (declared_place trees name) then Err why.Twice else Ok name)
    else Err why.Name

-- the kinds of trees, in the order in which a text is looked for
abbrev pub all_kinds : List Kind
all_kinds = kinds.Range ∷ kinds.Alloc ∷ kinds.Range32 ∷ kinds.Alloc32 ∷ []

-- the kind of a tree that is to be declared, by its text
unfoldable pub kind_read : List ℕ → Result Kind Why
kind_read field = ok_or (find (λ kind. bytes_eq field (kind_text kind)) all_kinds) why.BadKind

-- what was read so far: the declared trees, whether a step of this phase was read, the sum of the counts of all scans, the
-- lines that say something, and the number of the next line
pub record ReadSoFar : Type 0 where
  pub trees : List KnownTree
  pub stepped : Bool
  pub scanned : ℕ
  pub lines : List Line
  pub next : ℕ

-- ---- the words of the language

unfoldable pub keyword_read : List ℕ → Result Keyword Why
keyword_read word = ok_or (named word keywords) why.Unknown

-- ---- the fields after a line's word, tested one by one from the left, if there are as many as there should be

-- a line that has to come before the first step of its phase
unfoldable pub before_steps : ReadSoFar → Result (Unit {0}) Why
before_steps r = if r.stepped then Err why.Order else Ok tt

-- a line that declares one more tree
unfoldable pub room_for_tree : ReadSoFar → Result (Unit {0}) Why
room_for_tree r = if nat_lt (length r.trees) most_trees then Ok tt else Err why.Trees

-- the greatest number of steps of all scans of a log, by their counts
abbrev pub most_scan_steps : ℕ
most_scan_steps = 1000000

unfoldable pub room_for_scan : ReadSoFar → ℕ → Result (Unit {0}) Why
room_for_scan r count = if nat_le (r.scanned + count) most_scan_steps then Ok tt else Err why.Scans

-- T and a kind
unfoldable pub tree_item : ReadSoFar → List (List ℕ) → Result Item Why
tree_item r (name ∷ kind ∷ []) = do
  n ← new_name_read r.trees name
  k ← kind_read kind
  before ← before_steps r
  room ← room_for_tree r
  Ok (Tree n k)
tree_item r fields = Err why.Fields

-- T and the name of its copy
unfoldable pub dup_item : ReadSoFar → List (List ℕ) → Result Item Why
dup_item r (name ∷ copy ∷ []) = do
  tree ← tree_read r.trees name
  n ← new_name_read r.trees copy
  before ← before_steps r
  room ← room_for_tree r
  Ok (Dup tree.number n)
dup_item r fields = Err why.Fields

-- T, to be checked
unfoldable pub check_item : ReadSoFar → List (List ℕ) → Result Item Why
check_item r (name ∷ []) = do
  tree ← tree_read r.trees name
  before ← before_steps r
  Ok (Check tree.number)
check_item r fields = Err why.Fields

-- N: the lane (thread) of the steps after it
unfoldable pub lane_item : List (List ℕ) → Result Item Why
lane_item (lane ∷ []) = do
  n ← lane_number_read lane
  Ok (Lane n)
lane_item fields = Err why.Fields

-- nothing: the end of a phase
unfoldable pub join_item : List (List ℕ) → Result Item Why
join_item [] = Ok Join
join_item (field ∷ fields) = Err why.Fields

-- T F L E: a range and an entry
unfoldable pub range_item : (ℕ → ℕ → ℕ → Call) → List KnownTree → List (List ℕ) → Result Item Why
range_item call trees (name ∷ first ∷ last ∷ entry ∷ []) = do
  tree ← tree_read trees name
  a ← index_read tree.kind first
  b ← index_read tree.kind last
  e ← entry_number_read entry
  Ok (Write tree.number (call a b e))
range_item call trees fields = Err why.Fields

-- T SIZE MIN MAX: how many indexes, and where they may lie
unfoldable pub area_of : List KnownTree → List ℕ → List ℕ → List ℕ → List ℕ → Result Area Why
area_of trees name size min max = do
  tree ← tree_read trees name
  n ← size_read size
  a ← index_read tree.kind min
  b ← index_read tree.kind max
  Ok (record { tree = tree.number; size = n; min = a; max = b })

unfoldable pub area_item : (ℕ → ℕ → ℕ → Call) → List KnownTree → List (List ℕ) → Result Item Why
area_item call trees (name ∷ size ∷ min ∷ max ∷ []) = do
  area ← area_of trees name size min max
  Ok (Write area.tree (call area.size area.min area.max))
area_item call trees fields = Err why.Fields

-- T SIZE MIN MAX E: the same, and an entry
unfoldable pub area_entry_item : (ℕ → ℕ → ℕ → ℕ → Call) → List KnownTree → List (List ℕ) → Result Item Why
area_entry_item call trees (name ∷ size ∷ min ∷ max ∷ entry ∷ []) = do
  area ← area_of trees name size min max
  e ← entry_number_read entry
  Ok (Write area.tree (call area.size area.min area.max e))
area_entry_item call trees fields = Err why.Fields

-- T I: an index
unfoldable pub index_item : (ℕ → ℕ → Item) → List KnownTree → List (List ℕ) → Result Item Why
index_item item trees (name ∷ index ∷ []) = do
  tree ← tree_read trees name
  i ← index_read tree.kind index
  Ok (item tree.number i)
index_item item trees fields = Err why.Fields

-- T I BOUND: an index, and a bound up or down from it
unfoldable pub bound_item : (ℕ → ℕ → Query) → List KnownTree → List (List ℕ) → Result Item Why
bound_item query trees (name ∷ index ∷ bound ∷ []) = do
  tree ← tree_read trees name
  i ← index_read tree.kind index
  b ← index_read tree.kind bound
  Ok (Ask tree.number (query i b))
bound_item query trees fields = Err why.Fields

-- T I MAX N: an index, a bound up from it, and how many steps at most
unfoldable pub scan_item : ReadSoFar → List (List ℕ) → Result Item Why
scan_item r (name ∷ index ∷ max ∷ count ∷ []) = do
  tree ← tree_read r.trees name
  i ← index_read tree.kind index
  m ← index_read tree.kind max
  n ← count_read count
  room ← room_for_scan r n
  Ok (Scan tree.number i m n)
scan_item r fields = Err why.Fields

-- T: the whole tree
unfoldable pub whole_item : (ℕ → Item) → List KnownTree → List (List ℕ) → Result Item Why
whole_item item trees (name ∷ []) = do
  tree ← tree_read trees name
  Ok (item tree.number)
whole_item item trees fields = Err why.Fields

unfoldable pub item_by : Keyword → ReadSoFar → List (List ℕ) → Result Item Why
item_by keyword.Tree r fields = tree_item r fields
item_by keyword.Dup r fields = dup_item r fields
item_by keyword.Check r fields = check_item r fields
item_by keyword.Lane r fields = lane_item fields
item_by keyword.Join r fields = join_item fields
item_by keyword.Store r fields = range_item Store r.trees fields
item_by keyword.StorePre r fields = range_item StorePre r.trees fields
item_by keyword.Insert r fields = range_item Insert r.trees fields
item_by keyword.Erase r fields = index_item (λ tree index. Write tree (Erase index)) r.trees fields
item_by keyword.Alloc r fields = area_entry_item Alloc r.trees fields
item_by keyword.Ralloc r fields = area_entry_item Ralloc r.trees fields
item_by keyword.Gap r fields = area_item Gap r.trees fields
item_by keyword.Rgap r fields = area_item Rgap r.trees fields
item_by keyword.Clear r fields = whole_item (λ tree. Write tree Clear) r.trees fields
item_by keyword.Load r fields = index_item (λ tree index. Ask tree (Load index)) r.trees fields
item_by keyword.Find r fields = bound_item Find r.trees fields
item_by keyword.Next r fields = bound_item Next r.trees fields
item_by keyword.Prev r fields = bound_item Prev r.trees fields
item_by keyword.Rfind r fields = bound_item Rfind r.trees fields
item_by keyword.Scan r fields = scan_item r fields

-- what the fields of a line say, after what was read
unfoldable pub item_of : ReadSoFar → List (List ℕ) → Result Item Why
item_of r [] = Err why.Unknown
item_of r (word ∷ fields) = keyword_read word >>= λ k. item_by k r fields

abbrev pub fields_of : List ℕ → List (List ℕ)
fields_of line = slice_split (λ b. b == 32) line

-- after the first line
abbrev pub nothing_read : ReadSoFar
nothing_read = record { trees = []; stepped = false; scanned = 0; lines = []; next = 2 }

-- how many steps it has by its count, where it is a scan
abbrev pub scan_steps_of : Item → ℕ
scan_steps_of (Scan tree index max count) = count
scan_steps_of item = 0

abbrev pub after_item : ReadSoFar → Item → ReadSoFar
after_item r item = record { trees = known_after r.trees item; stepped = stepped_after r.stepped item; scanned = r.scanned + scan_steps_of item; lines = r.lines ++ record { number = r.next; item = item } ∷ []; next = r.next + 1 }

-- a line that is empty or begins with `#` is skipped
abbrev pub is_skipped : List ℕ → Bool
is_skipped [] = true
is_skipped (b ∷ bytes) = b == 35

abbrev pub after_skipped : ReadSoFar → ReadSoFar
after_skipped r = record r { next = r.next + 1 }

abbrev pub after_line : ReadSoFar → List ℕ → Result ReadSoFar Fault
after_line r line =
    if is_skipped line then Ok (after_skipped r)
    else (on_line r.next (item_of r (fields_of line)) >>= λ item. Ok (after_item r item))

-- What is read from here on, by the pieces between the LFs. Each piece but the last is a line. After the last LF nothing may
-- follow.
abbrev pub after_pieces : ReadSoFar → List (List ℕ) → Result ReadSoFar Fault
after_pieces r [] = Ok r
after_pieces r ([] ∷ []) = Ok r
after_pieces r ((b ∷ bytes) ∷ []) = Err (fault_at r.next why.NoNewline)
after_pieces r (line ∷ piece ∷ pieces) = after_line r line >>= λ s. after_pieces s (piece ∷ pieces)

-- the version that line 1 names
abbrev pub version_in : List ℕ → Option ℕ
version_in header = if bytes_eq header (codes "mtlog 1") then Some 1 else (if bytes_eq header (codes "mtlog 2") then Some 2 else None)

-- the log of this version whose lines after line 1 these pieces are
abbrev pub headed : Option ℕ → List (List ℕ) → Result Log Fault
headed None pieces = Err (fault_at 1 why.Header)
headed (Some version) pieces = after_pieces nothing_read pieces >>= λ r. Ok (record { version = version; lines = r.lines })

abbrev pub log_of_pieces : List (List ℕ) → Result Log Fault
log_of_pieces [] = Err (fault_at 1 why.Header)
log_of_pieces ([] ∷ []) = Err (fault_at 1 why.Header)
log_of_pieces ((b ∷ bytes) ∷ []) = Err (fault_at 1 why.NoNewline)
log_of_pieces (header ∷ piece ∷ pieces) = headed (version_in header) (piece ∷ pieces)

-- the log that the bytes are
abbrev pub log_of : List ℕ → Result Log Fault
log_of bytes = log_of_pieces (slice_split (λ b. b == 10) bytes)
