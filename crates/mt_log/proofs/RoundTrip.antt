-- A log in print reads as this very log.
use Rattle.mt_log.proofs.Prelude.{◌≡◌, inl, inr, ℕ, zero, suc, ◌+◌, ◌-◌, ◌<◌, true, false, List, [], ◌∷◌, ◌++◌, Ok, length, replicate, codes, add-zero, append_assoc, arith, refl, sym, ap, ◌∙◌, ◌==◌, decimal, join_with_byte, slice_split, decimal_digit, append-nil, kind_text, Call, Store, StorePre, Insert, Erase, Alloc, Ralloc, Gap, Rgap, Clear, Query, Load, Find, Next, Prev, Rfind, Kind, ◌>>=◌, IsLog, call_fields, query_fields, item_fields, line_text, lines_text, log_text, tree_name, names_after, ReadSoFar, after_item, after_line, after_pieces, after_skipped, fields_of, is_skipped, log_of, nothing_read, known_after, Item, Tree, Lane, Join, Dup, Check, Write, Ask, Scan, Line, Log, KnownTree}
use Rattle.mt_base.specs.declared.kinds.Kind.TheVariants as kinds
use Rattle.mt_log.proofs.Following.{AreNamed, CallSays, CanAllFollow, CanFollow, IsNumber, QuerySays, at_line}
use Rattle.mt_log.proofs.LogsRead.{log_follows}
use Rattle.mt_log.proofs.Pieces.{IsVersion, behind_header, first_line}
use Rattle.mt_log.proofs.PrintedItems.{item_reads, names_of, some_tree}
use Rattle.mt_log.proofs.PrintedLines.{are_above, are_fields, fields_again, line_of_fields, name_is_field, number_is_field, split_here}
use Rattle.mt_log.proofs.PrintedTrees.{named_after, names_kept}

-- ---- the fields of a line

-- fields that make a line, which is cut at its spaces into them and is not skipped
record IsLine (fields : List (List ℕ)) : Type 0 where
  filled : are_fields fields ≡ true
  again : fields_of (join_with_byte 32 fields) ≡ fields
  said : is_skipped (join_with_byte 32 fields) ≡ false

line_by : (word : List ℕ) (fields : List (List ℕ)) → are_fields (word ∷ fields) ≡ true → is_skipped (join_with_byte 32 (word ∷ fields)) ≡ false → IsLine (word ∷ fields)
line_by word fields filled said = record { filled = filled; again = fields_again word fields filled; said = said }

one_number : (a : ℕ) → IsNumber a → are_fields (decimal a ∷ []) ≡ true
one_number a ha = rw (number_is_field a ha) refl

two_numbers : (a b : ℕ) → IsNumber a → IsNumber b → are_fields (decimal a ∷ decimal b ∷ []) ≡ true
two_numbers a b ha hb = rw (number_is_field a ha) (one_number b hb)

three_numbers : (a b c : ℕ) → IsNumber a → IsNumber b → IsNumber c → are_fields (decimal a ∷ decimal b ∷ decimal c ∷ []) ≡ true
three_numbers a b c ha hb hc = rw (number_is_field a ha) (two_numbers b c hb hc)

four_numbers : (a b c d : ℕ) → IsNumber a → IsNumber b → IsNumber c → IsNumber d → are_fields (decimal a ∷ decimal b ∷ decimal c ∷ decimal d ∷ []) ≡ true
four_numbers a b c d ha hb hc hd = rw (number_is_field a ha) (three_numbers b c d hb hc hd)

call_line : (name : List ℕ) (call : Call) → are_above 32 name ≡ true → CallSays call → IsLine (call_fields name call)
call_line name (Store first last entry) named h = line_by (codes "store") _ (rw named (three_numbers first last entry h.0 h.1 h.2)) refl
call_line name (StorePre first last entry) named h = line_by (codes "pstore") _ (rw named (three_numbers first last entry h.0 h.1 h.2)) refl
call_line name (Insert first last entry) named h = line_by (codes "insert") _ (rw named (three_numbers first last entry h.0 h.1 h.2)) refl
call_line name (Erase index) named h = line_by (codes "erase") _ (rw named (one_number index h)) refl
call_line name (Alloc size min max entry) named h = line_by (codes "alloc") _ (rw named (four_numbers size min max entry h.0 h.1 h.2 h.3)) refl
call_line name (Ralloc size min max entry) named h = line_by (codes "ralloc") _ (rw named (four_numbers size min max entry h.0 h.1 h.2 h.3)) refl
call_line name (Gap size min max) named h = line_by (codes "gap") _ (rw named (three_numbers size min max h.0 h.1 h.2)) refl
call_line name (Rgap size min max) named h = line_by (codes "rgap") _ (rw named (three_numbers size min max h.0 h.1 h.2)) refl
call_line name Clear named h = line_by (codes "clear") _ (rw named refl) refl

query_line : (name : List ℕ) (query : Query) → are_above 32 name ≡ true → QuerySays query → IsLine (query_fields name query)
query_line name (Load index) named h = line_by (codes "load") _ (rw named (one_number index h)) refl
query_line name (Find index max) named h = line_by (codes "find") _ (rw named (two_numbers index max h.0 h.1)) refl
query_line name (Next index max) named h = line_by (codes "next") _ (rw named (two_numbers index max h.0 h.1)) refl
query_line name (Prev index min) named h = line_by (codes "prev") _ (rw named (two_numbers index min h.0 h.1)) refl
query_line name (Rfind index min) named h = line_by (codes "rfind") _ (rw named (two_numbers index min h.0 h.1)) refl

kind_is_field : (kind : Kind) → are_fields (kind_text kind ∷ []) ≡ true
kind_is_field kinds.Range = refl
kind_is_field kinds.Alloc = refl
kind_is_field kinds.Range32 = refl
kind_is_field kinds.Alloc32 = refl

name_of_tree : (trees : List KnownTree) (tree : ℕ) → AreNamed trees → tree < length trees → are_above 32 (tree_name (names_of trees) tree) ≡ true
name_of_tree trees tree named below =
    let known = some_tree trees tree below in
    rw known.1.named (name_is_field known.0.name (named tree known.0 known.1.found).1)

item_line : (r : ReadSoFar) (item : Item) → AreNamed r.trees → CanFollow r item → IsLine (item_fields (names_of r.trees) item)
item_line r (Tree name kind) named h = line_by (codes "tree") _ (rw (name_is_field name h.says) (kind_is_field kind)) refl
item_line r (Lane lane) named h = let below = h.follows.named in line_by (codes "lane") _ (one_number lane (omega arith)) refl
item_line r Join named h = line_by (codes "join") [] refl refl
item_line r (Dup from name) named h = line_by (codes "dup") _ (rw (name_of_tree r.trees from named h.follows.named, name_is_field name h.says) refl) refl
item_line r (Check tree) named h = line_by (codes "check") _ (rw (name_of_tree r.trees tree named h.follows.named) refl) refl
item_line r (Write tree call) named h = call_line (tree_name (names_of r.trees) tree) call (name_of_tree r.trees tree named h.follows.named) h.says
item_line r (Ask tree query) named h = query_line (tree_name (names_of r.trees) tree) query (name_of_tree r.trees tree named h.follows.named) h.says
item_line r (Scan tree index max count) named h = let few = h.says.3 in line_by (codes "scan") _ (rw (name_of_tree r.trees tree named h.follows.named) (three_numbers index max count h.says.0 h.says.1 (omega arith))) refl

-- ---- lines

-- the pieces of a text between its LFs
abbrev pieces : List ℕ → List (List ℕ)
pieces text = slice_split (λ b. b == 10) text

-- blank lines are read past
blanks_read : (count : ℕ) (r : ReadSoFar) (rest : List ℕ) → after_pieces r (pieces (replicate count 10 ++ rest)) ≡ after_pieces (at_line (r.next + count) r) (pieces rest)
blanks_read zero r rest = rw (add-zero r.next) refl
blanks_read (suc count) r rest =
    let more : r.next + 1 + count ≡ r.next + suc count = omega arith in
    first_line (λ b. b == 10) r [] (replicate count 10 ++ rest)
    ∙ (blanks_read count (after_skipped r) rest ∙ ap (λ n. after_pieces (at_line n r) (pieces rest)) more)

-- a line that can follow is read
line_read : (r : ReadSoFar) (item : Item) (rest : List ℕ) → AreNamed r.trees → CanFollow r item → after_pieces r (pieces (line_text (names_of r.trees) item ++ rest)) ≡ after_pieces (after_item r item) (pieces rest)
line_read r item rest named h =
    let fields : List (List ℕ) = item_fields (names_of r.trees) item in
    let line : IsLine fields = item_line r item named h in
    let text : List ℕ = join_with_byte 32 fields in
    let cut : pieces ((text ++ 10 ∷ []) ++ rest) ≡ text ∷ pieces rest = rw append_assoc (split_here 31 10 (omega arith) text rest (line_of_fields fields line.filled)) in
    let read : after_line r text ≡ Ok (after_item r item) = rw (line.said, line.again, item_reads r item named h) refl in
    ap (after_pieces r) cut ∙ (first_line (λ b. b == 10) r text rest ∙ rw read refl)

-- what can follow can do so behind blank lines too
pub at_line_too : (number : ℕ) (r : ReadSoFar) (item : Item) → CanFollow r item → CanFollow (at_line number r) item
at_line_too number r item h = record { follows = record { named = h.follows.named; placed = h.follows.placed; trees = h.follows.trees; scans = h.follows.scans }; says = h.says }

-- what is read of lines in print: these lines
record AreRead (r : ReadSoFar) (text : List ℕ) (lines : List Line) : Type 0 where
  last : ReadSoFar
  read : after_pieces r (pieces text) ≡ Ok last
  told : last.lines ≡ r.lines ++ lines

lines_read : (lines : List Line) (r : ReadSoFar) (number : ℕ) → AreNamed r.trees → r.next ≡ number + 1 → CanAllFollow r lines → AreRead r (lines_text (names_of r.trees) number lines) lines
lines_read [] r number named next h = record { last = r; read = refl; told = sym (append-nil r.lines) }
lines_read (line ∷ lines) r number named next h =
    let names : List (List ℕ) = names_of r.trees in
    let blanks : ℕ = line.number - number - 1 in
    let others : List ℕ = lines_text (names_after names line.item) line.number lines in
    let ready : ReadSoFar = at_line line.number r in
    let follows : CanFollow ready line.item = at_line_too line.number r line.item h.1 in
    let there : r.next + blanks ≡ line.number = let above = h.0 in omega arith in
    let kept : names_after names line.item ≡ names_of (known_after r.trees line.item) = names_kept ready line.item follows in
    let after : AreRead (after_item ready line.item) (lines_text (names_of (known_after r.trees line.item)) line.number lines) lines =
    lines_read lines (after_item ready line.item) line.number (named_after ready line.item named follows) refl h.2 in
    record {
      last = after.last;
      read =
          blanks_read blanks r (line_text names line.item ++ others)
          ∙ (ap (λ n. after_pieces (at_line n r) (pieces (line_text names line.item ++ others))) there
          ∙ (line_read ready line.item others named follows
          ∙ (ap (λ (known : List (List ℕ)). after_pieces (after_item ready line.item) (pieces (lines_text known line.number lines))) kept
          ∙ after.read)));
      told = after.told ∙ append_assoc r.lines (line ∷ []) lines;
    }

-- ---- logs

abbrev the_log : ℕ → List Line → Log
the_log version lines = record { version = version; lines = lines }

none_named : AreNamed []
none_named place tree h = absurd (cc)

-- behind a header in print stand the lines
headed : (version : ℕ) → IsVersion version → (rest : List ℕ) → log_of (codes "mtlog " ++ (decimal version ++ 10 ∷ rest)) ≡ (after_pieces nothing_read (pieces rest) >>= λ r. Ok (the_log version r.lines))
headed version (inl is) rest = let told : decimal version ≡ codes "1" = rw is (decimal_digit 1 (omega arith)) in rw (told, is) (behind_header (λ b. b == 10) (codes "mtlog 1") rest)
headed version (inr is) rest = let told : decimal version ≡ codes "2" = rw is (decimal_digit 2 (omega arith)) in rw (told, is) (behind_header (λ b. b == 10) (codes "mtlog 2") rest)

-- a log of lines that can follow, one behind the other, is read as it is printed
pub prints : (log : Log) → IsVersion log.version → CanAllFollow nothing_read log.lines → log_of (log_text log) ≡ Ok log
prints log version h =
    let read : AreRead nothing_read (lines_text [] 1 log.lines) log.lines = lines_read log.lines nothing_read 1 none_named refl h in
    headed log.version version (lines_text [] 1 log.lines) ∙ rw read.read (ap (λ (ls : List Line). Ok (the_log log.version ls)) read.told)

pub reads_again : (log : Log) → IsLog log → log_of (log_text log) ≡ Ok log
reads_again log h = let follows = log_follows log h in prints log follows.0 follows.1
