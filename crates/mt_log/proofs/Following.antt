-- Which lines can be read behind what was read: those that may follow, and say names and numbers that can be written.
use Rattle.mt_log.proofs.Prelude.{◌≡◌, ℕ, ◌≤◌, ◌<◌, ◌^◌, true, List, [], ◌∷◌, Some, slice_get, Call, Store, StorePre, Insert, Erase, Alloc, Ralloc, Gap, Rgap, Clear, Query, Load, Find, Next, Prev, Rfind, is_name, MayFollow, ReadSoFar, after_item, declared_place, Item, Tree, Lane, Join, Dup, Check, Write, Ask, Scan, Line, KnownTree}

-- a number that a field can say
abbrev pub IsNumber : ℕ → Type 0
IsNumber n = n < 2 ^ 64

abbrev pub CallSays : Call → Type 0
CallSays (Store first last entry) = IsNumber first × IsNumber last × IsNumber entry
CallSays (StorePre first last entry) = IsNumber first × IsNumber last × IsNumber entry
CallSays (Insert first last entry) = IsNumber first × IsNumber last × IsNumber entry
CallSays (Erase index) = IsNumber index
CallSays (Alloc size min max entry) = IsNumber size × IsNumber min × IsNumber max × IsNumber entry
CallSays (Ralloc size min max entry) = IsNumber size × IsNumber min × IsNumber max × IsNumber entry
CallSays (Gap size min max) = IsNumber size × IsNumber min × IsNumber max
CallSays (Rgap size min max) = IsNumber size × IsNumber min × IsNumber max
CallSays Clear = Unit {0}

abbrev pub QuerySays : Query → Type 0
QuerySays (Load index) = IsNumber index
QuerySays (Find index max) = IsNumber index × IsNumber max
QuerySays (Next index max) = IsNumber index × IsNumber max
QuerySays (Prev index min) = IsNumber index × IsNumber min
QuerySays (Rfind index min) = IsNumber index × IsNumber min

-- what it says are names and numbers
abbrev pub ItemSays : Item → Type 0
ItemSays (Tree name kind) = is_name name ≡ true
ItemSays (Lane lane) = Unit {0}
ItemSays Join = Unit {0}
ItemSays (Dup from name) = is_name name ≡ true
ItemSays (Check tree) = Unit {0}
ItemSays (Write tree call) = CallSays call
ItemSays (Ask tree query) = QuerySays query
ItemSays (Scan tree index max count) = IsNumber index × IsNumber max × (1 ≤ count) × (count ≤ 65536)

pub record CanFollow (r : ReadSoFar) (item : Item) : Type 0 where
  pub follows : MayFollow r item
  pub says : ItemSays item

-- a reader that reads blank lines up to this one
abbrev pub at_line : ℕ → ReadSoFar → ReadSoFar
at_line number r = record r { next = number }

-- each of these lines can
abbrev pub CanAllFollow : ReadSoFar → List Line → Type 0
CanAllFollow r [] = Unit {0}
CanAllFollow r (line ∷ lines) = (r.next ≤ line.number) × CanFollow r line.item × CanAllFollow (after_item (at_line line.number r) line.item) lines

-- each declared tree is the first of its name, and is named by a name
abbrev pub AreNamed : List KnownTree → Type 0
AreNamed trees = (place : ℕ) (tree : KnownTree) → slice_get trees place ≡ Some tree → (declared_place trees tree.name ≡ Some place) × (is_name tree.name ≡ true)
