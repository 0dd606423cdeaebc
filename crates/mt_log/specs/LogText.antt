-- How a log is printed: each line at its number, blank lines between, numbers in decimal. And which logs there are.
-- Source: this project's own, the language of logs.
use Rattle.std.specs.Prelude.{◌≡◌, ℕ, List, [], ◌∷◌, ◌++◌, ◌-◌, Ok, replicate, slice_get, codes, unwrap_or, decimal}
use Rattle.std.specs.List.{join_with_byte}
use Rattle.mt_log.specs.Prelude.{kind_text, Call, Store, StorePre, Insert, Erase, Alloc, Ralloc, Gap, Rgap, Clear, Query, Load, Find, Next, Prev, Rfind}
use Rattle.mt_log.specs.Reading.{log_of}
use Rattle.mt_log.specs.declared.lines.Item.{Item}
use Rattle.mt_log.specs.declared.lines.Item.TheVariants.{Tree, Lane, Join, Dup, Check, Write, Ask, Scan}
use Rattle.mt_log.specs.declared.lines.Line.{Line}
use Rattle.mt_log.specs.declared.lines.Log.{Log}

-- the fields of a call on the tree of this name
abbrev pub call_fields : List ℕ → Call → List (List ℕ)
call_fields name (Store first last entry) = codes "store" ∷ name ∷ decimal first ∷ decimal last ∷ decimal entry ∷ []
call_fields name (StorePre first last entry) = codes "pstore" ∷ name ∷ decimal first ∷ decimal last ∷ decimal entry ∷ []
call_fields name (Insert first last entry) = codes "insert" ∷ name ∷ decimal first ∷ decimal last ∷ decimal entry ∷ []
call_fields name (Erase index) = codes "erase" ∷ name ∷ decimal index ∷ []
call_fields name (Alloc size min max entry) = codes "alloc" ∷ name ∷ decimal size ∷ decimal min ∷ decimal max ∷ decimal entry ∷ []
call_fields name (Ralloc size min max entry) = codes "ralloc" ∷ name ∷ decimal size ∷ decimal min ∷ decimal max ∷ decimal entry ∷ []
call_fields name (Gap size min max) = codes "gap" ∷ name ∷ decimal size ∷ decimal min ∷ decimal max ∷ []
call_fields name (Rgap size min max) = codes "rgap" ∷ name ∷ decimal size ∷ decimal min ∷ decimal max ∷ []
call_fields name Clear = codes "clear" ∷ name ∷ []

-- the fields of a query of the tree of this name
abbrev pub query_fields : List ℕ → Query → List (List ℕ)
query_fields name (Load index) = codes "load" ∷ name ∷ decimal index ∷ []
query_fields name (Find index max) = codes "find" ∷ name ∷ decimal index ∷ decimal max ∷ []
query_fields name (Next index max) = codes "next" ∷ name ∷ decimal index ∷ decimal max ∷ []
query_fields name (Prev index min) = codes "prev" ∷ name ∷ decimal index ∷ decimal min ∷ []
query_fields name (Rfind index min) = codes "rfind" ∷ name ∷ decimal index ∷ decimal min ∷ []

-- the name of the tree of this number, where trees of these names are declared
abbrev pub tree_name : List (List ℕ) → ℕ → List ℕ
tree_name names tree = unwrap_or (slice_get names tree) []

-- the fields of a line, where trees of these names are declared before it
abbrev pub item_fields : List (List ℕ) → Item → List (List ℕ)
item_fields names (Tree name kind) = codes "tree" ∷ name ∷ kind_text kind ∷ []
item_fields names (Lane lane) = codes "lane" ∷ decimal lane ∷ []
item_fields names Join = codes "join" ∷ []
item_fields names (Dup from name) = codes "dup" ∷ tree_name names from ∷ name ∷ []
item_fields names (Check tree) = codes "check" ∷ tree_name names tree ∷ []
item_fields names (Write tree call) = call_fields (tree_name names tree) call
item_fields names (Ask tree query) = query_fields (tree_name names tree) query
item_fields names (Scan tree index max count) = codes "scan" ∷ tree_name names tree ∷ decimal index ∷ decimal max ∷ decimal count ∷ []

-- a line: its fields with a space between them, and LF
abbrev pub line_text : List (List ℕ) → Item → List ℕ
line_text names item = join_with_byte 32 (item_fields names item) ++ 10 ∷ []

-- the names of the declared trees after a line
abbrev pub names_after : List (List ℕ) → Item → List (List ℕ)
names_after names (Tree name kind) = names ++ name ∷ []
names_after names (Dup from name) = names ++ name ∷ []
names_after names item = names

-- these lines after the line with this number; each is preceded by a blank line for each number that is left out
abbrev pub lines_text : List (List ℕ) → ℕ → List Line → List ℕ
lines_text names number [] = []
lines_text names number (line ∷ lines) = replicate (line.number - number - 1) 10 ++ (line_text names line.item ++ lines_text (names_after names line.item) line.number lines)

-- the text of a log
abbrev pub log_text : Log → List ℕ
log_text log = codes "mtlog " ++ (decimal log.version ++ (10 ∷ lines_text [] 1 log.lines))

-- it is a log that some bytes are
abbrev pub IsLog : Log → Type 0
IsLog log = (bytes : List ℕ) × (log_of bytes ≡ Ok log)
